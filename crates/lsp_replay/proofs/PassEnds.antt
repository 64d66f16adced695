-- What follows for a run from what a pass of it writes and answers.
use Rattle.std.specs.Global.{Global}
use Rattle.std.specs.Prelude.{Box}
use Rattle.std.proofs.Common.{◌≡◌, ◌⊎◌, ◌+◌, ℕ, false, List, [], ◌∷◌, ◌++◌, inl, inr, refl, sym, ap}
use Rattle.std.proofs.Common.{Result, Ok, Err, subst, ◌∙◌, append-nil}
use Rattle.lsp_docs.specs.Documents.{Terms}
use Rattle.lsp_frame.specs.Bounds.{Bounds}
use Rattle.lsp_frame.specs.Told.{Told}
use Rattle.lsp_replay.specs.Run.{DueAt, IsCut, PartPassed, Passes, HasSaid, IsPassed, RanOut, Run}
use Rattle.lsp_replay.specs.Run.{SaysAll}
use Rattle.lsp_verdict.specs.Heard.{Heard, Rests}
use Rattle.lsp_verdict.specs.Outcome.{log_terms}
use Rattle.lsp_verdict.specs.Runs.{GaveAtMost, OfRead}
use Rattle.lsp_verdict.specs.declared.outcome.Outcome.{Outcome}
use Rattle.lsp_verdict.specs.declared.outcome.RunFault.{RunFault}
use Rattle.lsp_verdict.specs.declared.outcome.RunFault.TheVariants as faults
use Rattle.lsp_verdict.proofs.RunsJudged.{read_map, read_within}

-- an outcome, as a run that stops gives it
abbrev pub Boxed : Type 0
Boxed = Box Outcome Global

-- what holds of the log read holds of its bytes alone
pub read_here : (limits : Bounds) (start now : Told) (P : List ℕ → Type 0)
    → (read : OfRead limits start now P) → P read.bytes
read_here limits start now P read =
    read.holds read.bytes ([], sym (append-nil read.bytes), λ end. refl)

-- before memory was refused, this was said
said_out : (run : Run) (limits : Bounds) (start now : Told) (out : List ℕ)
    → OfRead limits start now (λ log. RanOut run limits log out)
    → OfRead limits start now (λ log. HasSaid run limits log out)
said_out run limits start now out = read_map limits start now (λ log. RanOut run limits log out)
    (λ log. HasSaid run limits log out) (λ log r. r.said)

module _ (run : Run) (limits : Bounds) (start now old new : Told) (fault : RunFault)
    (p : PartPassed run limits start now old new fault) where
  -- what was written begins what is due, where that is known of what was said
  module _ (Begins : List ℕ → List ℕ → Type 0)
      (said : (log front left : List ℕ) → HasSaid run limits log (front ++ left) → Begins log front)
      (passed : (log front left : List ℕ) (outcome : Outcome)
      → IsPassed run limits log (front ++ left) outcome → Begins log front) where
    said_begins : OfRead limits start now (λ log. HasSaid run limits log p.out)
        → OfRead limits start now (λ log. Begins log p.out)
    said_begins due = read_map limits start now (λ log. HasSaid run limits log p.out)
        (λ log. Begins log p.out) (λ log h. said log p.out []
        (subst (λ (w : List ℕ). HasSaid run limits log w) (sym (append-nil p.out)) h)) due

    cut_begins : (left : List ℕ)
        → OfRead limits start now (λ log. HasSaid run limits log (p.out ++ left))
        ⊎ ((outcome : Outcome) × OfRead limits start now
        (λ log. IsPassed run limits log (p.out ++ left) outcome))
        → OfRead limits start now (λ log. Begins log p.out)
    cut_begins left (inl due) =
        read_map limits start now (λ log. HasSaid run limits log (p.out ++ left))
        (λ log. Begins log p.out) (λ log h. said log p.out left h) due
    cut_begins left (inr (outcome, due)) =
        read_map limits start now (λ log. IsPassed run limits log (p.out ++ left) outcome)
        (λ log. Begins log p.out) (λ log h. passed log p.out left outcome h) due

    pub part_begins : OfRead limits start now (λ log. Begins log p.out)
    part_begins = by_fault fault p.due
      where
        by_fault : (f : RunFault) → DueAt f run limits start now p.out
            → OfRead limits start now (λ log. Begins log p.out)
        by_fault faults.Read due = said_begins due
        by_fault faults.Write cut = cut_begins cut.left cut.due
        by_fault faults.Memory due = said_begins (said_out run limits start now p.out due)

  -- no more was read than the limit lets
  pub part_within : GaveAtMost (limits.log + 1) start now
  part_within = read_within _ _ _ _ (part_begins (λ log front. Unit {0}) (λ log front left h. tt)
      (λ log front left outcome h. tt))

-- ---- a run that says nothing before it stops

abbrev pub IsQuiet : Run → Type 0
IsQuiet run = (terms : Terms) (rests : Rests) (before : List Heard) (h : Heard) (said : List ℕ)
    → run.says terms rests before h said → run.stops terms before h ≡ false → said ≡ []

pub quiet_all : (run : Run) → IsQuiet run → (terms : Terms) (rests : Rests) (before hs : List Heard)
    (out : List ℕ) → SaysAll run terms rests before hs out → out ≡ []
quiet_all run quiet terms rests before [] out is = is
quiet_all run quiet terms rests before (h ∷ hs) out (said, left, is, own, goes, later) =
    is ∙ ap (λ w. w ++ left) (quiet terms rests before h said own goes)
    ∙ quiet_all run quiet terms rests (before ++ h ∷ []) hs left later

module _ (run : Run) (quiet : IsQuiet run) (limits : Bounds) (start now : Told) where
  said_nothing : (out : List ℕ) → OfRead limits start now (λ log. HasSaid run limits log out)
      → out ≡ []
  said_nothing out due =
      let h = read_here limits start now (λ log. HasSaid run limits log out) due in
      quiet_all run quiet (log_terms limits h.format) h.tail.rests [] h.first out h.says

  -- after a fault of the source, or where memory was refused, nothing is written
  pub silent : (old new : Told) (fault : RunFault) → (fault ≡ faults.Write → ⊥)
      → PartPassed run limits start now old new fault → new ≡ old
  silent old new fault never p = p.quiet never (by_fault fault never p.due)
    where
      by_fault : (f : RunFault) → (f ≡ faults.Write → ⊥) → DueAt f run limits start now p.out
          → p.out ≡ []
      by_fault faults.Read never due = said_nothing p.out due
      by_fault faults.Write never due = absurd (never refl)
      by_fault faults.Memory never due =
          said_nothing p.out (said_out run limits start now p.out due)

  pub silent_after : (old new : Told) (result : Result Outcome RunFault) (fault : RunFault)
      → (fault ≡ faults.Write → ⊥) → Passes run limits start now old new result
      → result ≡ Err fault → new ≡ old
  silent_after old new (Ok outcome) fault never a e = absurd (cc e)
  silent_after old new (Err own) fault never p e =
      let same : own ≡ fault = cc e in
      silent old new own (λ write. never (sym same ∙ write)) p

  -- after a write fault, what was written begins all that is due
  pub cut_whole : (out : List ℕ) → IsCut run limits start now out
      → (outcome : Outcome) × (left : List ℕ)
      × OfRead limits start now (λ log. IsPassed run limits log (out ++ left) outcome)
  cut_whole out cut = by_due cut.due
    where
      by_due : OfRead limits start now (λ log. HasSaid run limits log (out ++ cut.left))
          ⊎ ((outcome : Outcome) × OfRead limits start now
          (λ log. IsPassed run limits log (out ++ cut.left) outcome))
          → (outcome : Outcome) × (left : List ℕ)
          × OfRead limits start now (λ log. IsPassed run limits log (out ++ left) outcome)
      by_due (inl said) = absurd (cut.some (said_nothing (out ++ cut.left) said))
      by_due (inr (outcome, due)) = (outcome, cut.left, due)
