-- What a reader stands for, and what its next answer adds.
use Rattle.std.proofs.Common.{◌≡◌, ◌⊎◌, ℕ, ◌+◌, ◌-◌, ◌^◌, ◌≤◌, Bool, true, false, List, [], ◌∷◌, ◌++◌, length, take, Option, Some, None, refl, sym, ap, subst, ◌∙◌, append_assoc, append-nil, arith, lit≤}
use Rattle.std.specs.Prelude.{nat_lt}
use Rattle.std.specs.List.{flat_map, AllByRecursion}
use Rattle.std.proofs.lemmas.List.{length-append}
use Rattle.std.proofs.lemmas.Grind.{flat_map-append}
use Rattle.std.proofs.Math.Nat.{min-eq_left}
use Rattle.lsp_frame.specs.Bounds.{Bounds, IsInRange}
use Rattle.lsp_frame.specs.Told.{Told, Gave}
use Rattle.lsp_frame.specs.declared.format.Format.{Format}
use Rattle.lsp_log.specs.Log as log
use Rattle.lsp_log.specs.Log.{Flaw, bad_line, bad_number, cut_short, bad_end, not_utf8, EndsWith, Fits, spelling, with_feed, head_line, head_of, parts_of, first_line, HasRecords, code_of, wants_bytes}
use Rattle.lsp_log.specs.Tape.{Held, Taken}
use Rattle.lsp_log.specs.Stops.{Found}
use Rattle.lsp_log.specs.Place.{place_of}
use Rattle.lsp_log.specs.Reader.{State, StandsFor, StandsAt, ShowsAt, Reads, ReadsNone, passed, kept_by, kept_in}
use Rattle.lsp_log.specs.Ending.{Starts, started, starts, next_number}
use Rattle.lsp_log.specs.declared.reader.Progress.{Progress}
use Rattle.lsp_log.specs.declared.reader.Progress.TheVariants as progress
use Rattle.lsp_frame.proofs.Telling.{gave_nothing}
use Rattle.lsp_frame.proofs.Frames.{take_beyond}
use Rattle.lsp_log.proofs.Breaking.{ends_more}
use Rattle.lsp_log.proofs.Places.{take_none}

-- ---- a reader whose first line was read, and one whose first line was not

pub reads_at : (s : State) (bytes : List ℕ) (records : List log.Record) → s.progress ≡ progress.Records → StandsFor s bytes records → Reads s bytes records
reads_at s bytes records at stands = subst (λ (p : Progress). StandsAt p s bytes records) at stands.1

pub none_at : (s : State) (bytes : List ℕ) (records : List log.Record) → s.progress ≡ progress.FirstLine → StandsFor s bytes records → ReadsNone s bytes records
none_at s bytes records at stands = subst (λ (p : Progress). StandsAt p s bytes records) at stands.1

-- what was given are the first line and the records
pub passed_is : (s : State) (bytes : List ℕ) (records : List log.Record) → Reads s bytes records → passed s ≡ place_of s.format records
passed_is s bytes records o =
    let front : List ℕ = first_line o.format ++ flat_map spelling records in
    let e : s.limits.log - s.tape.left - length s.tape.rest ≡ length front = omega (arith, o.left, ap length o.whole, length-append front s.tape.rest) in
    e ∙ ap (λ (f : Option Format). place_of f records) (sym o.known)

pub stands_at : (s : State) (bytes : List ℕ) (records : List log.Record) → s.progress ≡ progress.Records → IsInRange s.limits → Reads s bytes records → s.place ≡ passed s → StandsFor s bytes records
stands_at s bytes records at range r place = (range, subst (λ (p : Progress). StandsAt p s bytes records) (sym at) r, place ∙ passed_is s bytes records r, subst (λ (p : Progress). ShowsAt p s bytes records) (sym at) tt)

-- how many bytes were read and how many may still be
pub left_at : (s : State) (bytes : List ℕ) (records : List log.Record) (p : Progress) → kept_in p ≡ None → StandsAt p s bytes records → s.tape.left + length bytes ≡ s.limits.log
left_at s bytes records (progress.Over end) free st = absurd cc
left_at s bytes records _ free st = st.left

-- all that was read up to now, behind what was given
pub behind : (s : State) (bytes piece more : List ℕ) (records : List log.Record) (o : Reads s bytes records) → s.tape.rest ++ piece ≡ more → bytes ++ piece ≡ (first_line o.format ++ flat_map spelling records) ++ more
behind s bytes piece more records o is =
    ap (λ (w : List ℕ). w ++ piece) o.whole
    ∙ append_assoc (first_line o.format ++ flat_map spelling records) s.tape.rest piece
    ∙ ap (λ (w : List ℕ). (first_line o.format ++ flat_map spelling records) ++ w) is

-- ---- the first line is read

first_stands : (s : State) (tape : Held) (place : ℕ) (before now : Told) (format : Format) (bytes : List ℕ) (records : List log.Record) → (t : Taken s.tape tape before now (first_line format)) → ReadsNone s bytes records
    → Reads (record s { tape = tape; progress = progress.Records; format = Some format; place = place }) (bytes ++ t.piece) records
first_stands s tape place before now format bytes records t n = record {
  format = format;
  known = refl;
  whole = ap (λ (w : List ℕ). w ++ t.piece) n.whole ∙ t.whole ∙ ap (λ (w : List ℕ). w ++ tape.rest) (sym (append-nil (first_line format)) ∙ ap (λ (rs : List log.Record). first_line format ++ flat_map spelling rs) (sym n.none));
  fits = subst (λ (rs : List log.Record). AllByRecursion (Fits s.limits) rs) (sym n.none) tt;
  left = omega (arith, t.pulled.left, n.left, length-append bytes t.piece);
  given = n.given ∙ ap length (sym n.none);
}

first_stood : (s : State) (tape : Held) (place : ℕ) (before now : Told) (format : Format) (bytes : List ℕ) (records : List log.Record) → (t : Taken s.tape tape before now (first_line format)) → place ≡ s.limits.log - tape.left - length tape.rest → IsInRange s.limits → ReadsNone s bytes records
    → StandsFor (record s { tape = tape; progress = progress.Records; format = Some format; place = place }) (bytes ++ t.piece) records
first_stood s tape place before now format bytes records t at range n =
    let o = first_stands s tape place before now format bytes records t n in
    (range, o, at ∙ passed_is (record s { tape = tape; progress = progress.Records; format = Some format; place = place }) (bytes ++ t.piece) records o, tt)

-- what the reader stands for behind its first line
pub record Moved (s mid : State) (before now : Told) (bytes : List ℕ) (records : List log.Record) : Type 0 where
  pub piece : List ℕ
  pub read : Gave before now piece
  pub failures : now.failures ≡ before.failures
  pub stands : StandsFor mid (bytes ++ piece) records
  pub free : kept_by mid ≡ None

pub moved : (s mid : State) (before now : Told) (bytes : List ℕ) (records : List log.Record) → Starts s mid before now → kept_by s ≡ None → StandsFor s bytes records → Moved s mid before now bytes records
moved s mid before now bytes records (started same told) free stands = record {
  piece = [];
  read = subst (λ (t : Told). Gave before t []) (sym told) (gave_nothing before);
  failures = ap (λ (t : Told). t.failures) told;
  stands = subst (λ (m : State). StandsFor m (bytes ++ []) records) (sym same) (subst (λ (w : List ℕ). StandsFor s w records) (sym (append-nil bytes)) stands);
  free = ap kept_by same ∙ free;
}
moved s mid before now bytes records (starts format at is place taken) free stands = record {
  piece = taken.piece;
  read = taken.pulled.read;
  failures = taken.pulled.failures;
  stands = subst (λ (m : State). StandsFor m (bytes ++ taken.piece) records) (sym is)
      (first_stood s mid.tape mid.place before now format bytes records taken (place ∙ ap passed is) stands.0 (none_at s bytes records at stands));
  free = ap kept_by is;
}

-- ---- numbers

spelled_long : (rs : List log.Record) → length rs ≤ length (flat_map spelling rs)
spelled_long [] = omega arith
spelled_long (r ∷ rs) =
    omega (arith, spelled_long rs, length-append (spelling r) (flat_map spelling rs), length-append (with_feed (head_line (head_of r))) (flat_map with_feed (parts_of r)), length-append (head_line (head_of r)) (10 ∷ []))

records_few : (s : State) (bytes : List ℕ) (records : List log.Record) → IsInRange s.limits → Reads s bytes records → length records ≤ 2 ^ 40
records_few s bytes records range o =
    omega (
      arith,
      spelled_long records,
      ap length o.whole,
      length-append (first_line o.format ++ flat_map spelling records) s.tape.rest,
      length-append (first_line o.format) (flat_map spelling records),
      o.left,
      range.log_high,
    )

pub number_is : (s : State) (bytes : List ℕ) (records : List log.Record) → IsInRange s.limits → Reads s bytes records → next_number s.given ≡ length records + 1
number_is s bytes records range o =
    let few = records_few s bytes records range o in
    ap next_number o.given ∙ min-eq_left (omega (arith, few, lit≤ {m = 2 ^ 40 + 1} {n = 2 ^ 64 - 1} tt))

-- ---- a record

fits_snoc : (limits : Bounds) (rs : List log.Record) (r : log.Record) → AllByRecursion (Fits limits) rs → Fits limits r → AllByRecursion (Fits limits) (rs ++ r ∷ [])
fits_snoc limits [] r all fits = (fits, tt)
fits_snoc limits (x ∷ rs) r all fits = (all.0, fits_snoc limits rs r all.1 fits)

spelled_snoc : (front : List ℕ) (rs : List log.Record) (r : log.Record) (rest : List ℕ) → (front ++ flat_map spelling rs) ++ (spelling r ++ rest) ≡ (front ++ flat_map spelling (rs ++ r ∷ [])) ++ rest
spelled_snoc front rs r rest =
    sym (append_assoc (front ++ flat_map spelling rs) (spelling r) rest)
    ∙ ap (λ (w : List ℕ). w ++ rest) (append_assoc front (flat_map spelling rs) (spelling r))
    ∙ ap (λ (w : List ℕ). (front ++ (flat_map spelling rs ++ w)) ++ rest) (sym (append-nil (spelling r)))
    ∙ ap (λ (w : List ℕ). (front ++ w) ++ rest) (sym (flat_map-append spelling rs (r ∷ [])))

pub record_stands : (s : State) (tape : Held) (given place : ℕ) (before after : Told) (bytes : List ℕ) (records : List log.Record) (r : log.Record) (f : Found s.limits s.tape tape before after r) → IsInRange s.limits → Reads s bytes records → given ≡ next_number s.given
    → Reads (record s { tape = tape; given = given; place = place }) (bytes ++ f.taken.piece) (records ++ r ∷ [])
record_stands s tape given place before after bytes records r f range o number = record {
  format = o.format;
  known = o.known;
  whole = behind s bytes f.taken.piece (spelling r ++ tape.rest) records o f.taken.whole ∙ spelled_snoc (first_line o.format) records r tape.rest;
  fits = fits_snoc s.limits records r o.fits f.fits;
  left = omega (arith, f.taken.pulled.left, o.left, length-append bytes f.taken.piece);
  given = number ∙ number_is s bytes records range o ∙ omega (arith, length-append records (r ∷ []));
}

-- ---- where the records end

pub two_codes : (flaw : Option Flaw) (c d : Bool) → wants_bytes flaw ≡ false → code_of flaw c ≡ code_of flaw d
two_codes None c d e = absurd cc
two_codes (Some cut_short) c d e = absurd cc
two_codes _ c d e = refl

-- the bytes up to here are within the limit, and then others follow; where bytes are wanted, none
-- of those are within the limit
pub ends_there : (limits : Bounds) (format : Format) (bytes more rest : List ℕ) (records : List log.Record) (flaw : Option Flaw) → bytes ≡ (first_line format ++ flat_map spelling records) ++ rest → AllByRecursion (Fits limits) records → length bytes ≤ limits.log
    → EndsWith limits rest flaw → (wants_bytes flaw ≡ true → (limits.log - length bytes ≡ 0) ⊎ (more ≡ [])) → HasRecords limits format (bytes ++ more) records (code_of flaw (nat_lt limits.log (length (bytes ++ more))))
ends_there limits format bytes more rest records flaw is fits within ends wants = record {
  rest = rest ++ take (limits.log - length bytes) more;
  flaw = flaw;
  begins = record {
    whole = take_beyond limits.log bytes more within ∙ ap (λ (w : List ℕ). w ++ take (limits.log - length bytes) more) is ∙ append_assoc (first_line format ++ flat_map spelling records) rest (take (limits.log - length bytes) more);
    fits = fits;
  };
  ends = ends_more limits rest (take (limits.log - length bytes) more) flaw ends (λ w. take_none (limits.log - length bytes) more (wants w));
  code = refl;
}
