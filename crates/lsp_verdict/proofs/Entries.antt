-- What a log has next.
use Rattle.std.proofs.Common.{◌≡◌, ℕ, ◌+◌, ◌≤◌, List, [], ◌∷◌, ◌++◌, Bool, true, false, Option, Some, None, Result, Ok, Err, refl, sym, ap, subst, ◌∙◌, append_assoc, append-nil, length, arith}
use Rattle.std.specs.Prelude.{nat_le, ◌&&◌}
use Rattle.std.specs.Option.{IsSome}
use Rattle.std.specs.Io.KnownBytes.{IsAtEnd}
use Rattle.std.specs.List.{AllByRecursion}
use Rattle.std.proofs.lemmas.Bool.{and_parts, and_from}
use Rattle.std.proofs.lemmas.Bool.Decides.{nat_tests}
use Rattle.lsp_frame.specs.Bounds.{Bounds, IsInRange, profile}
use Rattle.lsp_frame.specs.Told.{Told, Gave}
use Rattle.lsp_frame.proofs.Telling.{gave_nothing, gave_then}
use Rattle.lsp_frame.specs.declared.format.Format.{Format}
use Rattle.lsp_log.specs.Log.{Record, chunk, shown, Fits, head_of, in_range, is_i32, is_within, IsLog}
use Rattle.lsp_log.specs.Reader as reader
use Rattle.lsp_log.specs.Place.{found_behind}
use Rattle.lsp_log.specs.Reader.{empty, shown_by, kept_by, kept_in, StandsFor, StandsAt, Begins, MayFollow, Given}
use Rattle.lsp_log.specs.Records.{record_view}
use Rattle.lsp_log.specs.declared.fault.LogCode.{LogCode}
use Rattle.lsp_log.specs.declared.fault.LogFault.{LogFault}
use Rattle.lsp_log.specs.declared.fault.LogFault.TheVariants as log_faults
use Rattle.lsp_log.specs.declared.reader.Progress.{Progress}
use Rattle.lsp_log.specs.declared.reader.Progress.TheVariants as progress
use Rattle.lsp_log.specs.declared.record.Record as code
use Rattle.lsp_log.proofs.Callers.{begins_open}
use Rattle.lsp_log.proofs.Reading.{left_at}
use Rattle.lsp_verdict.specs.Runs.{OfRead, failures_after, IsAt, HasFirst, BrokeOff, ShowsFault}
use Rattle.lsp_verdict.specs.declared.outcome.RunFault.{RunFault}
use Rattle.lsp_verdict.specs.declared.outcome.RunFault.TheVariants as faults
use Rattle.lsp_verdict.proofs.Below.{some_log, records_come_first}

-- ---- the log read

-- the log read has this format, these records, and this fault or none
pub record HasRecords (limits : Bounds) (start now : Told) (format : Option Format)
    (records : List Record) (fault : Option (ℕ × LogCode)) : Type 0 where
  pub of_read : OfRead limits start now (λ log. IsLog limits log format records fault)
  pub failures : now.failures ≡ start.failures

abbrev at_end : Option (List ℕ) → Bool
at_end (Some (b ∷ bs)) = false
at_end _ = true

end_met : (left : Option (List ℕ)) → at_end left ≡ true → IsAtEnd left
end_met None e = tt
end_met (Some []) e = refl
end_met (Some (b ∷ bs)) e = absurd cc

is_met : (left : Option (List ℕ)) → IsAtEnd left → at_end left ≡ true
is_met (Some (b ∷ bs)) p = absurd cc
is_met _ p = refl

-- what holds of the stream, whatever may follow the bytes read, holds of the log read
of_bytes : (limits : Bounds) (start now : Told) (bytes : List ℕ) (P : List ℕ → Type 0) → Gave start now bytes → length bytes ≤ limits.log + 1 → ((more : List ℕ) → MayFollow now more → P (bytes ++ more)) → OfRead limits start now P
of_bytes limits start now bytes P gave within holds = record {
  bytes = bytes;
  ended = at_end now.bytes;
  read = record { gave = gave; no_further = within; end = end_met now.bytes };
  holds = λ log goes. subst P (sym goes.1) (holds goes.0 (λ end. goes.2 (is_met now.bytes end)));
}

-- ---- records with which a log begins

-- whatever follows the bytes read
begins_first : (limits : Bounds) → IsInRange limits → (bytes more : List ℕ) (known : Option Format) (rs : List Record) → Begins limits bytes known rs → HasFirst limits known rs (bytes ++ more)
begins_first limits sizes bytes more None rs none =
    let log = some_log limits (bytes ++ more) in
    record { format = log.0; more = log.1; fault = log.2; is_log = subst (λ w. IsLog limits (bytes ++ more) log.0 w log.2) (ap (λ (w : List Record). w ++ log.1) (sym none)) log.3; is_known = tt }
begins_first limits sizes bytes more (Some known) rs begins =
    let log = some_log limits (bytes ++ more) in
    let front = begins more in
    let cut = records_come_first limits sizes (bytes ++ more) front.0 known log.0 rs log.1 log.2 front.1 log.3 in
    record { format = log.0; more = cut.1; fault = log.2; is_log = subst (λ w. IsLog limits (bytes ++ more) log.0 w log.2) cut.2 log.3; is_known = cut.0 }

first_at : (r : reader.State) (start now : Told) (records : List Record) → (a : IsAt r start now records) → (more : List ℕ) → HasFirst r.limits r.format records (a.bytes ++ more)
first_at r start now records a more = begins_first r.limits a.stands.0 a.bytes more r.format records (begins_open r a.bytes records a.unread a.stands)

-- a log that goes on from there begins with these records
pub is_first : (r : reader.State) (limits : Bounds) (start now : Told) (records : List Record) → r.limits ≡ limits → IsAt r start now records → OfRead limits start now (HasFirst limits r.format records)
is_first r limits start now records same a =
    let within : length a.bytes ≤ r.limits.log + 1 = omega (arith, left_at r a.bytes records r.progress a.unread a.stands.1) in
    subst (λ (b : Bounds). OfRead b start now (HasFirst b r.format records)) same
    (of_bytes r.limits start now a.bytes (HasFirst r.limits r.format records) a.gave within (λ more follows. first_at r start now records a more))

-- ---- an entry that is a record may be written

last_fits : (limits : Bounds) (rs : List Record) (r : Record) → AllByRecursion (Fits limits) (rs ++ r ∷ []) → Fits limits r
last_fits limits [] r all = all.0
last_fits limits (x ∷ rs) r all = last_fits limits rs r all.1

range_profile : (limits : Bounds) → IsInRange limits → (r : Record) → in_range limits (head_of r) ≡ true → in_range profile (head_of r) ≡ true
range_profile limits sizes (chunk side b) range =
    let parts = and_parts (nat_le 1 (length b)) (nat_le (length b) limits.chunk) range in
    let high = sizes.chunk_high in
    let most : nat_le (length b) limits.chunk ≡ true = parts.1 in
    and_from _ _ parts.0 (grind (arith, nat_tests))
range_profile limits sizes (shown v uri text) range =
    let parts = and_parts (is_i32 v && is_within 1 8192 (length uri)) (is_within 0 limits.document (length text)) range in
    let inner = and_parts (nat_le 0 (length text)) (nat_le (length text) limits.document) parts.1 in
    let high = sizes.document_high in
    let most : nat_le (length text) limits.document ≡ true = inner.1 in
    and_from _ _ parts.0 (and_from _ _ inner.0 (grind (arith, nat_tests)))

all_fit : (r : reader.State) (bytes : List ℕ) (records : List Record) (p : Progress) → kept_in p ≡ None → StandsAt p r bytes records → AllByRecursion (Fits r.limits) records
all_fit r bytes records progress.FirstLine free st = subst (AllByRecursion (Fits r.limits)) (sym st.none) tt
all_fit r bytes records progress.Records free st = st.fits
all_fit r bytes records (progress.Over end) free st = absurd cc

-- the last record read is within the greatest limits
pub record_fits : (r : reader.State) (start now : Told) (records : List Record) (next : Record) → IsAt r start now (records ++ next ∷ []) → Fits profile next
record_fits r start now records next at =
    let fits = last_fits r.limits records next (all_fit r at.bytes (records ++ next ∷ []) r.progress at.unread at.stands.1) in
    record { range = range_profile r.limits at.stands.0 next fits.range; text = fits.text }

-- ---- nothing was read yet

pub at_start : (r : reader.State) (limits : Bounds) (start : Told) → r ≡ empty limits → StandsFor r [] [] → IsAt r start start []
at_start r limits start new stands = record { bytes = []; gave = gave_nothing start; failures = refl; unread = ap kept_by new; early = λ none. refl; stands = stands }

-- ---- one more entry

no_format : (s : reader.State) → s.format ≡ None → IsSome s.format → ⊥
no_format s none known = let same : false ≡ true = subst IsSome none known in absurd cc

module _ (r s : reader.State) (start mid now : Told) (records : List Record) (a : IsAt r start mid records) (same : s.limits ≡ r.limits) where
  pub record_next : (next : code.Record) → kept_by s ≡ None → IsSome s.format → Given s mid now (Ok (Some next)) a.bytes records → IsAt s start now (records ++ record_view next ∷ [])
  record_next next free known got = record {
    bytes = a.bytes ++ got.piece;
    gave = gave_then start mid now a.bytes got.piece a.gave got.read;
    failures = got.tells ∙ a.failures;
    unread = free;
    early = λ none. absurd (no_format s none known);
    stands = got.stands;
  }

  read_all : (result : Result (Option code.Record) LogFault) (P : List ℕ → Type 0) → (got : Given s mid now result a.bytes records) → ((more : List ℕ) → MayFollow now more → P ((a.bytes ++ got.piece) ++ more)) → OfRead r.limits start now P
  read_all result P got holds =
      of_bytes r.limits start now (a.bytes ++ got.piece) P (gave_then start mid now a.bytes got.piece a.gave got.read)
      (subst (λ (b : Bounds). length (a.bytes ++ got.piece) ≤ b.log + 1) same got.within) holds

  end_read : Given s mid now (Ok None) a.bytes records → HasRecords r.limits start now s.format records None
  end_read got = record {
    of_read = read_all (Ok None) (λ log. IsLog r.limits log s.format records None) got (λ more follows.
        let whole : (a.bytes ++ got.piece) ++ more ≡ a.bytes ++ got.piece = ap (λ (w : List ℕ). (a.bytes ++ got.piece) ++ w) (follows got.tells.0) ∙ append-nil (a.bytes ++ got.piece) in
        subst (λ (w : List ℕ). IsLog r.limits w s.format records None) (sym whole) (subst (λ (b : Bounds). IsLog b (a.bytes ++ got.piece) s.format records None) same got.tells.1));
    failures = got.tells.2 ∙ a.failures;
  }

  pub end_next : Given s mid now (Ok None) a.bytes records → HasRecords r.limits start now s.format records None × IsAtEnd now.bytes
  end_next got = (end_read got, got.tells.0)

  pub bad_next : (number : ℕ) (fault : LogCode) → Given s mid now (Err (log_faults.Bad number fault)) a.bytes records → HasRecords r.limits start now s.format records (Some (number, fault))
  bad_next number fault got = record {
    of_read = read_all (Err (log_faults.Bad number fault)) (λ log. IsLog r.limits log s.format records (Some (number, fault))) got
        (λ more follows. subst (λ (b : Bounds). IsLog b ((a.bytes ++ got.piece) ++ more) s.format records (Some (number, fault))) same (got.tells.0 more follows));
    failures = got.tells.1 ∙ a.failures;
  }

  pub bad_found : (number : ℕ) (fault : LogCode) → Given s mid now (Err (log_faults.Bad number fault)) a.bytes records → OfRead r.limits start now (ShowsFault s r.limits records (number, fault))
  bad_found number fault got =
      read_all (Err (log_faults.Bad number fault)) (ShowsFault s r.limits records (number, fault)) got
      (λ more follows. record {
        is_log = subst (λ (b : Bounds). IsLog b ((a.bytes ++ got.piece) ++ more) s.format records (Some (number, fault))) same (got.tells.0 more follows);
        place_is = got.stands.2;
        line_is = subst (λ (b : Bounds). shown_by s ≡ found_behind b s.format records ((a.bytes ++ got.piece) ++ more)) same (got.shows more follows);
      })

  -- the bytes read in the call go on from those read before
  broke : (result : Result (Option code.Record) LogFault) (fault : RunFault) → (got : Given s mid now result a.bytes records) → now.failures ≡ failures_after fault start.failures → (fault ≡ faults.Write → ⊥) → BrokeOff r.limits start now r.format records fault
  broke result fault got failures unwritten = record {
    of_read = read_all result (HasFirst r.limits r.format records) got (λ more follows.
        subst (HasFirst r.limits r.format records) (sym (append_assoc a.bytes got.piece more)) (first_at r start mid records a (got.piece ++ more)));
    failures = failures;
    unwritten = unwritten;
  }

  pub read_broke : Given s mid now (Err log_faults.Read) a.bytes records → BrokeOff r.limits start now r.format records faults.Read
  read_broke got = broke (Err log_faults.Read) faults.Read got (got.tells ∙ ap (failures_after faults.Read) a.failures) (λ e. absurd cc)

  pub memory_broke : Given s mid now (Err log_faults.Memory) a.bytes records → BrokeOff r.limits start now r.format records faults.Memory
  memory_broke got = broke (Err log_faults.Memory) faults.Memory got (got.tells ∙ a.failures) (λ e. absurd cc)
