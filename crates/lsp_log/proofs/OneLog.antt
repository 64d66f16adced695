-- A log has one fault or none, and begins with the records that it has.
use Rattle.std.proofs.Common.{◌≡◌, ℕ, ◌+◌, false, List, [], ◌∷◌, ◌++◌, length, Option, Some, None, refl, sym, ap, subst, ◌∙◌, append_assoc, append-nil}
use Rattle.std.specs.Prelude.{nat_lt}
use Rattle.std.specs.List.{flat_map, AllByRecursion}
use Rattle.std.proofs.lemmas.List.{append_cancel_left, take_all}
use Rattle.lsp_frame.specs.Bounds.{Bounds, IsInRange}
use Rattle.lsp_frame.specs.declared.format.Format.{Format}
use Rattle.lsp_log.specs.declared.fault.LogCode.{LogCode}
use Rattle.lsp_log.specs.Laws.{OneLog, RecordsComeFirst, WrittenIsRead, OnePlace}
use Rattle.lsp_log.specs.Place.{place_of, found_behind}
use Rattle.lsp_log.specs.Log.{first_line, HasRecords, at_record, code_of, Flaw, EndsWith, Fits, Record, head_of, spelling}
use Rattle.lsp_log.proofs.LogLemmas.{range_writable, records_one, spelling_one, no_record_at_end, one_format, has_first_line, T-is}
use Rattle.lsp_log.proofs.OneFlaw.{one_end}
use Rattle.lsp_log.proofs.Ended.{not_less}

-- ---- one log

record Same (p q : Format) (rs us : List Record) (c d : Option LogCode) : Type 0 where
  format : p ≡ q
  records : rs ≡ us
  code : c ≡ d

-- behind the first lines of equal bytes
record Behind (p q : Format) (xs ys : List ℕ) : Type 0 where
  format : p ≡ q
  rest : xs ≡ ys

behind_first : (p q : Format) (xs ys : List ℕ) → first_line p ++ xs ≡ first_line q ++ ys → Behind p q xs ys
behind_first p q xs ys e =
    let format = one_format p q xs ys e in
    record { format = format; rest = append_cancel_left (first_line q) xs ys (ap (λ (f : Format). first_line f ++ xs) (sym format) ∙ e) }

same_records : (limits : Bounds) → IsInRange limits → (bytes : List ℕ) (p q : Format) (rs us : List Record) (c d : Option LogCode) → HasRecords limits p bytes rs c → HasRecords limits q bytes us d → Same p q rs us c d
same_records limits sizes bytes p q rs us c d a b =
    let whole : first_line p ++ (flat_map spelling rs ++ a.rest) ≡ first_line q ++ (flat_map spelling us ++ b.rest) =
    sym (append_assoc (first_line p) (flat_map spelling rs) a.rest) ∙ sym a.begins.whole ∙ b.begins.whole ∙ append_assoc (first_line q) (flat_map spelling us) b.rest in
    let behind = behind_first p q _ _ whole in
    let one = records_one limits sizes rs us a.rest b.rest a.flaw b.flaw a.begins.fits b.begins.fits a.ends b.ends behind.rest in
    let flaw : a.flaw ≡ b.flaw = one_end limits sizes a.rest a.flaw b.flaw a.ends (subst (λ (w : List ℕ). EndsWith limits w b.flaw) (sym one.1) b.ends) in
    record { format = behind.format; records = one.0; code = sym a.code ∙ ap (λ (f : Option Flaw). code_of f (nat_lt limits.log (length bytes))) flaw ∙ b.code }

pub one_log : OneLog
one_log limits sizes bytes (Some p) (Some q) rs us f g a b =
    let one = same_records limits sizes bytes p q rs us a.0 b.0 a.1 b.1 in
    (ap Some one.format, one.records, a.2 ∙ ap (λ (w : List Record). at_record (length w + 1) a.0) one.records ∙ ap (at_record (length us + 1)) one.code ∙ sym b.2)
one_log limits sizes bytes (Some p) None rs us f g a b = absurd (has_first_line limits p bytes rs a.0 a.1 b.2)
one_log limits sizes bytes None (Some q) rs us f g a b = absurd (has_first_line limits q bytes us b.0 b.1 a.2)
one_log limits sizes bytes None None rs us f g a b = (refl, a.0 ∙ sym b.0, a.1 ∙ sym b.1)

-- ---- the place of its fault

pub one_place : OnePlace
one_place limits sizes bytes format records fault is_log = (
  record { format = format; records = records; fault = fault; is_log = is_log; place_is = refl; line_is = refl },
  λ place line is.
      let one = one_log limits sizes bytes is.format format is.records records (Some is.fault) (Some fault) is.is_log is_log in (
        is.place_is ∙ ap (λ (f : Option Format). place_of f is.records) one.0 ∙ ap (place_of format) one.1,
        is.line_is ∙ ap (λ (f : Option Format). found_behind limits f is.records bytes) one.0 ∙ ap (λ (rs : List Record). found_behind limits format rs bytes) one.1,
      ),
)

-- ---- the first records

records_front : (limits : Bounds) → IsInRange limits → (rs us : List Record) (xs ys : List ℕ) (g : Option Flaw) → AllByRecursion (Fits limits) rs → AllByRecursion (Fits limits) us → EndsWith limits ys g
    → flat_map spelling rs ++ xs ≡ flat_map spelling us ++ ys → (others : List Record) × (us ≡ rs ++ others)
records_front limits sizes [] us xs ys g p q b e = (us, refl)
records_front limits sizes (r ∷ rs) [] xs ys g p q b e =
    absurd (no_record_at_end limits sizes ys (flat_map spelling rs ++ xs) g r b (T-is p.0.range) p.0.text (sym e ∙ append_assoc (spelling r) (flat_map spelling rs) xs))
records_front limits sizes (r ∷ rs) (u ∷ us) xs ys g p q b e =
    let one = spelling_one r u (flat_map spelling rs ++ xs) (flat_map spelling us ++ ys) (range_writable limits sizes (head_of r) (T-is p.0.range)) (range_writable limits sizes (head_of u) (T-is q.0.range))
    (sym (append_assoc (spelling r) (flat_map spelling rs) xs) ∙ e ∙ append_assoc (spelling u) (flat_map spelling us) ys) in
    let tail = records_front limits sizes rs us xs ys g p.1 q.1 b one.1 in
    (tail.0, cc (one.0, tail.1))

pub records_come_first : RecordsComeFirst
records_come_first limits sizes bytes rest format (Some found) rs us f begins a =
    let whole : first_line found ++ (flat_map spelling us ++ a.1.rest) ≡ first_line format ++ (flat_map spelling rs ++ rest) =
    sym (append_assoc (first_line found) (flat_map spelling us) a.1.rest) ∙ sym a.1.begins.whole ∙ begins.whole ∙ append_assoc (first_line format) (flat_map spelling rs) rest in
    let behind = behind_first found format _ _ whole in
    let others = records_front limits sizes rs us rest a.1.rest a.1.flaw begins.fits a.1.begins.fits a.1.ends (sym behind.rest) in
    (ap Some behind.format, others.0, others.1)
records_come_first limits sizes bytes rest format None rs us f begins a = absurd (a.2 format (flat_map spelling rs ++ rest) (begins.whole ∙ append_assoc (first_line format) (flat_map spelling rs) rest))

-- ---- what is written

pub written_is_read : WrittenIsRead
written_is_read limits format rs fits within =
    let bytes : List ℕ = first_line format ++ flat_map spelling rs in
    let none : nat_lt limits.log (length bytes) ≡ false = not_less limits.log (length bytes) within in (
      None,
      record {
        rest = [];
        flaw = None;
        begins = record { whole = take_all limits.log bytes within ∙ sym (append-nil bytes); fits = fits };
        ends = refl;
        code = ap (code_of None) none;
      },
      refl,
    )
