-- A log that is kept has no bytes more, and Yes is answered only where its end was met.
use Rattle.std.proofs.Common.{◌≡◌, ℕ, ◌≤◌, Bool, true, false, List, [], ◌∷◌, ◌++◌, Option, Some, None, refl, sym, ap, subst, ◌∙◌, length, append-nil, length-append, nat_lt, arith}
use Rattle.std.specs.Io.KnownBytes.{IsAtEnd}
use Rattle.std.specs.List.{flat_map}
use Rattle.std.proofs.lemmas.Bool.{ltb-false}
use Rattle.std.proofs.lemmas.Grind.{flat_map-append}
use Rattle.std.proofs.lemmas.List.{take_all}
use Rattle.lsp_frame.specs.Bounds.{Bounds, IsInRange}
use Rattle.lsp_frame.specs.Told.{Told}
use Rattle.lsp_frame.specs.declared.format.Format.{Format}
use Rattle.lsp_log.specs.Log.{Record, chunk, shown, Flaw, bad_line, bad_number, cut_short, bad_end, not_utf8, code_of, with_feed, head_line, head_of, parts_of, spelling, first_line, EndsWith, BeginsLog, IsLog}
use Rattle.lsp_log.proofs.LogLemmas.{first_len}
use Rattle.lsp_verdict.specs.Outcome.{IsVerdict}
use Rattle.lsp_verdict.specs.Runs.{OfRead}
use Rattle.lsp_verdict.specs.Verdict.{Summary, yes}
use Rattle.lsp_verdict.proofs.Below.{records_come_first}
use Rattle.lsp_verdict.proofs.Meanings.{yes_means_kept}

no_code : (flaw : Option Flaw) (cut : Bool) → code_of flaw cut ≡ None → (flaw ≡ None) × (cut ≡ false)
no_code None false e = (refl, refl)
no_code (Some bad_line) cut e = absurd cc
no_code (Some cut_short) false e = absurd cc
no_code _ _ e = absurd cc

-- a log without a fault is its first line and its records, and within the limit
record IsWhole (limits : Bounds) (log : List ℕ) (format : Format) (records : List Record) : Type 0 where
  begins : BeginsLog limits format log records []
  bytes : log ≡ first_line format ++ flat_map spelling records
  within : length log ≤ limits.log

whole : (limits : Bounds) (log : List ℕ) (format : Option Format) (records : List Record) → IsLog limits log format records None → (f : Format) × (format ≡ Some f) × IsWhole limits log f records
whole limits log (Some format) records (None, has, is) =
    let no = no_code has.flaw (nat_lt limits.log (length log)) has.code in
    let within : length log ≤ limits.log = ltb-false limits.log (length log) no.1 in
    let ends : has.rest ≡ [] = subst (λ (f : Option Flaw). EndsWith limits has.rest f) no.0 has.ends in
    let begins : BeginsLog limits format log records [] = subst (λ (w : List ℕ). BeginsLog limits format log records w) ends has.begins in
    (format, refl, record { begins = begins; bytes = sym (take_all limits.log log within) ∙ begins.whole ∙ append-nil (first_line format ++ flat_map spelling records); within = within })
whole limits log (Some format) records (Some code, has, is) = absurd cc
whole limits log None records (none, flawed, missing) = absurd cc

with_feed_some : (part : List ℕ) → 1 ≤ length (with_feed part)
with_feed_some part = omega (arith, length-append part (10 ∷ []))

parts_some : (r : Record) → 1 ≤ length (flat_map with_feed (parts_of r))
parts_some (chunk side bytes) = omega (arith, with_feed_some bytes, length-append (with_feed bytes) [])
parts_some (shown number uri text) = omega (arith, with_feed_some uri, length-append (with_feed uri) (flat_map with_feed (text ∷ [])))

spelling_two : (r : Record) → 2 ≤ length (spelling r)
spelling_two r =
    omega (arith, with_feed_some (head_line (head_of r)), parts_some r, length-append (with_feed (head_line (head_of r))) (flat_map with_feed (parts_of r)))

not_one : (records : List Record) → length (flat_map spelling records) ≡ 1 → ⊥
not_one [] e = absurd (omega (arith, e))
not_one (r ∷ records) e = absurd (omega (arith, e, spelling_two r, length-append (spelling r) (flat_map spelling records)))

-- one byte behind a log without a fault makes a fault
one_more : (limits : Bounds) → IsInRange limits → (log : List ℕ) (format other : Option Format) (records others : List Record) → IsLog limits log format records None → IsLog limits (log ++ 0 ∷ []) other others None → ⊥
one_more limits sizes log format other records others p q =
    let (f, is_f, a) = whole limits log format records p in
    let (g, is_g, b) = whole limits (log ++ 0 ∷ []) other others q in
    let begins : BeginsLog limits f (log ++ 0 ∷ []) records (0 ∷ []) = record { whole = take_all limits.log (log ++ 0 ∷ []) b.within ∙ ap (λ (w : List ℕ). w ++ 0 ∷ []) a.bytes; fits = a.begins.fits } in
    let cut = records_come_first limits sizes (log ++ 0 ∷ []) (0 ∷ []) f other records others None begins q in
    let spelled : flat_map spelling others ≡ flat_map spelling records ++ flat_map spelling cut.1 = ap (flat_map spelling) cut.2 ∙ flat_map-append spelling records cut.1 in
    not_one cut.1 (omega (
      arith,
      ap length a.bytes,
      ap length b.bytes,
      ap length spelled,
      length-append log (0 ∷ []),
      first_len f,
      first_len g,
      length-append (first_line f) (flat_map spelling records),
      length-append (first_line g) (flat_map spelling others),
      length-append (flat_map spelling records) (flat_map spelling cut.1),
    ))

-- **Yes is answered only at the end of what the reader gives.**
pub yes_at_end : (limits : Bounds) → IsInRange limits → (before after : Told) (s : Summary) → OfRead limits before after (λ log. IsVerdict limits log (yes s)) → IsAtEnd after.bytes
yes_at_end limits sizes before after s r = by_ended r.ended refl
  where
    by_ended : (ended : Bool) → r.ended ≡ ended → IsAtEnd after.bytes
    by_ended true e = r.read.end e
    by_ended false e =
        let here = yes_means_kept limits sizes r.bytes s (r.holds r.bytes ([], sym (append-nil r.bytes), λ met. refl)) in
        let more = yes_means_kept limits sizes (r.bytes ++ 0 ∷ []) s (r.holds (r.bytes ++ 0 ∷ []) (0 ∷ [], refl, λ met. absurd cc)) in
        absurd (one_more limits sizes r.bytes here.format more.format here.records more.records here.is_log more.is_log)
