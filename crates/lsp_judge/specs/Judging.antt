-- What a judge answers, and which answers it keeps.
use Rattle.std.specs.Prelude.{◌≡◌, ◌⊎◌, ℕ, List, Some, None, Result, Ok, IfOk, OnErr}
use Rattle.std.specs.Result.{IsErr}
use Rattle.lsp_replay.specs.Common.{as_given, Bounds, Completeness, Event, Format, IsFinalBy, No}
use Rattle.lsp_replay.specs.Common.{verdict_view, Who, Yes}
use Rattle.lsp_types.specs.declared.memory.Memory.{Memory}
use Rattle.lsp_log.specs.Log.{Record}
use Rattle.lsp_judge.specs.Answered.{AreClean, NamesFirst, NamesRest, NamesShort, SaysYes}
use Rattle.lsp_judge.specs.Checked.{EndsAsDue}
use Rattle.lsp_judge.specs.Standing.{IfRefused, Stands, State, WasRefused, is_given}
use Rattle.lsp_verdict.specs.Complete.{AreComplete}
use Rattle.lsp_verdict.specs.Kept.{AreKept}
use Rattle.lsp_verdict.specs.Verdict as spec
use Rattle.lsp_verdict.specs.declared.completeness.Completeness.TheVariants.{Ignored, Required}
use Rattle.lsp_verdict.specs.declared.verdict.Summary.{Summary}
use Rattle.lsp_verdict.specs.declared.verdict.Verdict.{Verdict}

-- **an answer that is kept is given again**, and nothing changes then; what is answered `Is` the
-- verdict that was given
pub record KeepsAnswer {X : Type 0} (old new : State) (Is : X → spec.Verdict → Type 0)
    (result : Result X Memory) : Type 0 where
  pub limits : new.limits ≡ old.limits
  pub format : new.format ≡ old.format
  pub repeats : (given : spec.Verdict) → is_given old.given ≡ Some given
      → IfOk result (λ answer. Is answer given)
  pub stays : (given : spec.Verdict) → is_given old.given ≡ Some given → new ≡ old
  -- So is a refusal of memory.
  pub refused : WasRefused old.given → IsErr result
  pub stays_refused : WasRefused old.given → new ≡ old
  pub memory : OnErr result (WasRefused new.given)

-- the records are kept, and where it must be, their session was brought to its end
abbrev pub AreKeptBy : Completeness → Bounds → Format → List Record → Type 0
AreKeptBy Ignored limits format records = AreKept limits format records
AreKeptBy Required limits format records = AreComplete limits format records

-- what a No names: the first event that offends; or the stream that ends inside a frame; or, where
-- it must be complete, what the session of records that are kept lacks
abbrev pub NamesBy : Completeness → Bounds → Format → List Record → spec.Verdict → Type 0
NamesBy Ignored limits format records given =
    NamesFirst limits format records given ⊎ NamesRest limits format records given
NamesBy Required limits format records given =
    (NamesFirst limits format records given ⊎ NamesRest limits format records given)
    ⊎ NamesShort limits format records given

-- **what a judge answers at the end of the records taken**
pub record AnswersEnd (completeness : Completeness) (old new : State)
    (result : Result Verdict Memory) : Type 0 where
  pub verdict : IfOk result (λ answer. (records : List Record) (v : spec.Verdict)
      → Stands old records → IsFinalBy completeness old.limits old.format records None v
      → verdict_view answer ≡ as_given v)
  pub yes : (records : List Record) (s : Summary) → Stands old records → result ≡ Ok (Yes s)
      → AreKeptBy completeness old.limits old.format records
  pub no : (records : List Record) (rule number event : ℕ) (who : Who) → Stands old records
      → result ≡ Ok (No rule who number event)
      → NamesBy completeness old.limits old.format records (spec.no rule who number event)
  pub kept : (records : List Record) (events : List Event) → Stands old records
      → AreClean old.limits old.format records events → EndsAsDue completeness events
      → IfOk result (λ answer. SaysYes old.limits old.format events (verdict_view answer))
  -- After Yes the judge is as before.
  pub unchanged : (s : Summary) → result ≡ Ok (Yes s) → new ≡ old
  pub given : IfOk result (λ answer. IfRefused (verdict_view answer)
      (is_given new.given ≡ Some (verdict_view answer)))
