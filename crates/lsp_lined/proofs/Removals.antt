-- Characters of a text exchanged for others, as its units in each encoding.
use Rattle.std.proofs.Common.{◌≡◌, ◌≤◌, ◌+◌, ◌-◌, ℕ, ℤ, List, ◌++◌, take, drop}
use Rattle.std.proofs.Common.{length, Option, Some, None, Ok, Err, sym, ap, ◌∙◌, arith, ⊎_elim}
use Rattle.std.proofs.lemmas.Bool.{cond-true, cond-false, lt-ltb, le-ltb, cases_lt}
use Rattle.std.proofs.lemmas.List.{take-append-drop, drop-drop}
use Rattle.std.specs.List.{slice_range}
use Rattle.std.specs.Str.{chars, IsUtf8}
use Rattle.lsp_types.specs.declared.position.Encoding.{Encoding}
use Rattle.lsp_types.specs.declared.position.Encoding.TheVariants.{Utf8}
use Rattle.lsp_types.specs.declared.position.Span.{Span}
use Rattle.lsp_text.specs.Places.{units, place_of}
use Rattle.lsp_text.specs.Edits.{splice, limited, spliced, replaced}
use Rattle.lsp_text.specs.Findings.{between, held_by, past_of, length_of, found_in, noted}
use Rattle.lsp_lined.specs.Sums.{amount_in, sums_of, IsExchange}
use Rattle.lsp_text.specs.declared.findings.Findings.{Findings}
use Rattle.lsp_text.specs.declared.findings.OtherLength.{OtherLength}
use Rattle.lsp_text.specs.declared.findings.PastEnd.{PastEnd}
use Rattle.lsp_lined.specs.declared.sums.Measure.TheVariants.{Units}
use Rattle.lsp_lined.specs.declared.sums.Sums.{Sums}
use Rattle.lsp_text.proofs.Counting.{units-append, units-utf8_text}
use Rattle.lsp_lined.proofs.PartPlaces.{amount-units}
use Rattle.lsp_lined.proofs.PlainTexts.{units_le_bytes}

-- the units of a text are those of what stayed, and of what was put in or taken out
record IsSplice (t u removed s : List ℕ) : Type 0 where
  stayed : List ℕ
  old_is : (enc : Encoding) → units enc t ≡ units enc stayed + units enc removed
  new_is : (enc : Encoding) → units enc u ≡ units enc stayed + units enc s

cut_units : (enc : Encoding) (t : List ℕ) (a b : ℕ) → a ≤ b
    → units enc t ≡ units enc (take a t ++ drop b t) + units enc (slice_range t a b)
cut_units enc t a b le =
    let sum : a + (b - a) ≡ b = omega arith in
    let back : drop (b - a) (drop a t) ≡ drop b t =
    drop-drop (b - a) a t ∙ ap (λ (n : ℕ). drop n t) sum in
    omega (
      arith,
      ap (units enc) (take-append-drop a t),
      units-append enc (take a t) (drop a t),
      ap (units enc) (take-append-drop (b - a) (drop a t)),
      units-append enc (take (b - a) (drop a t)) (drop (b - a) (drop a t)),
      ap (units enc) back,
      units-append enc (take a t) (drop b t),
    )

splice_units : (enc : Encoding) (t s : List ℕ) (a b : ℕ)
    → units enc (splice t a b s) ≡ units enc (take a t ++ drop b t) + units enc s
splice_units enc t s a b =
    omega (
      arith,
      units-append enc (take a t ++ s) (drop b t),
      units-append enc (take a t) s,
      units-append enc (take a t) (drop b t),
    )

limited_ok : (limit : ℕ) (t u : List ℕ) → limited limit t ≡ Ok u → u ≡ t
limited_ok limit t u h =
    ⊎_elim
    (λ lt. let e : Err 607 ≡ Ok u =
    sym (cond-true _ _ _ (lt-ltb limit (units Utf8 t) lt)) ∙ h in absurd (cc e))
    (λ le. let e : Ok u ≡ Ok t =
    sym h ∙ cond-false _ _ _ (le-ltb limit (units Utf8 t) le) in cc e)
    (cases_lt limit (units Utf8 t))

is_splice : (t s u : List ℕ) (x y : Option ℕ) (limit : ℕ) → spliced t x y s limit ≡ Ok u
    → IsSplice t u (between x y t) s
is_splice t s u (Some a) (Some b) limit h =
    ⊎_elim
    (λ lt. let e : Err 606 ≡ Ok u = sym (cond-true _ _ _ (lt-ltb b a lt)) ∙ h in absurd (cc e))
    (λ le.
    let within : limited limit (splice t a b s) ≡ Ok u =
    sym (cond-false _ _ _ (le-ltb b a le)) ∙ h in
    let is : u ≡ splice t a b s = limited_ok limit (splice t a b s) u within in
    record {
      stayed = take a t ++ drop b t;
      old_is = λ enc. cut_units enc t a b le;
      new_is = λ enc. ap (units enc) is ∙ splice_units enc t s a b;
    })
    (cases_lt b a)
is_splice t s u _ _ limit h = absurd (cc h)

-- what an edit takes out and puts in
pub exchange_made : (enc : Encoding) (bs ds s : List ℕ) (span : Span) (limit : ℕ) (old new : Sums)
    → IsUtf8 bs → IsUtf8 ds → old ≡ sums_of bs → new ≡ sums_of ds
    → replaced enc (chars bs) span s limit ≡ Ok (chars ds)
    → IsExchange old new (held_by enc (chars bs) span) s
exchange_made enc bs ds s span limit old new u v before after h =
    let first = place_of enc (chars bs) span.first in
    let second = place_of enc (chars bs) span.second in
    let is = is_splice (chars bs) s (chars ds) first second limit h in
    record {
      stayed = is.stayed;
      old_is = λ e. ap (amount_in (Units e)) before ∙ amount-units e bs u ∙ is.old_is e;
      new_is = λ e. ap (amount_in (Units e)) after ∙ amount-units e ds v ∙ is.new_is e;
    }

-- what it finds
pub found_made : (enc : Encoding) (t : List ℕ) (span : Span) (sent : Option ℤ)
    (past : Option PastEnd) (other : Option OtherLength) (old : Findings)
    → past ≡ past_of enc t span → other ≡ length_of enc (held_by enc t span) sent
    → noted old (let f : Findings = record { past_end = past; range_length = other } in f)
    ≡ noted old (found_in enc t span sent)
found_made enc t span sent past other old p o =
    ap (λ x. noted old (let f : Findings = record { past_end = x; range_length = other } in f)) p
    ∙ ap (λ x. noted old (let f : Findings = record {
      past_end = past_of enc t span;
      range_length = x;
    } in f))
    o

-- where a text grew by all that was inserted, nothing was taken out
pub none_removed : (enc : Encoding) (old new : Sums) (removed s : List ℕ) → IsUtf8 s
    → IsExchange old new removed (chars s) → new.bytes - length s ≡ old.bytes
    → 0 ≡ units enc removed
none_removed enc old new removed s u is same =
    let before : old.bytes ≡ units Utf8 is.stayed + units Utf8 removed = is.old_is Utf8 in
    let after : new.bytes ≡ units Utf8 is.stayed + units Utf8 (chars s) = is.new_is Utf8 in
    omega (arith, before, after, units-utf8_text s u, units_le_bytes enc removed, same)

pub inserted_within : (old new : Sums) (removed s : List ℕ) → IsUtf8 s
    → IsExchange old new removed (chars s) → length s ≤ new.bytes
inserted_within old new removed s u is =
    let after : new.bytes ≡ units Utf8 is.stayed + units Utf8 (chars s) = is.new_is Utf8 in
    omega (arith, after, units-utf8_text s u)
