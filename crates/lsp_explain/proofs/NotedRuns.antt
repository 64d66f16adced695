-- The steps of the account that explains all that is wrong and tells the notes.
use Rattle.std.proofs.Common.{◌≡◌, ℕ, List, ◌++◌, refl, ap, ◌∙◌, append_assoc}
use Rattle.lsp_trail.specs.Common.{Closes, Completeness, Heard, IsJudged, Judged, Rests, Says, Tail}
use Rattle.lsp_trail.specs.Common.{Terms, Verdict, verdict_view}
use Rattle.lsp_facts.specs.Fact.{fact_lines}
use Rattle.lsp_replay.specs.Telling.{Goes}
use Rattle.lsp_replay.specs.declared.seen.Flow.{Flow}
use Rattle.lsp_replay.specs.declared.seen.Flow.TheVariants.{GoOn, Stop}
use Rattle.lsp_verdict.specs.declared.verdict.Verdict as code_verdict
use Rattle.lsp_notes.specs.AllNotes.{end_notes, noticed_along, notes_at}
use Rattle.lsp_explain.specs.ExplainRuns.{all_run}
use Rattle.lsp_explain.specs.NotedRun.{noted_run, noted_verdict}

module _ (completeness : Completeness) (terms : Terms) (before : List Heard) (h : Heard) where
  -- it stops at no event
  pub went_on : (Stands : Type 0) (flow : Flow)
      → Goes (all_run completeness) terms before h Stands flow → Stands
  went_on Stands GoOn goes = goes.1
  went_on Stands (Stop boxed) goes = absurd (cc goes.0)

  -- **an event**: what `explain --all` says, and the notes
  pub noted_says : (Fits : Rests → Type 0) (Stands Next : Type 0) (flow : Flow)
      (old mid new : List ℕ)
      → Says (all_run completeness) terms before h Fits old mid Stands flow
      → new ≡ mid ++ fact_lines (notes_at terms before h) → (Stands → Next)
      → Says (noted_run completeness) terms before h Fits old new Next flow
  noted_says Fits Stands Next flow old mid new s more next =
      let notes = fact_lines (notes_at terms before h) in
      record {
        said = s.said ++ notes;
        added = more ∙ ap (λ w. w ++ notes) s.added ∙ append_assoc old s.said notes;
        is = λ rests fits. (s.said, s.is rests fits, refl);
        goes = by_flow flow s.goes;
      }
    where
      by_flow : (flow : Flow) → Goes (all_run completeness) terms before h Stands flow
          → Goes (noted_run completeness) terms before h Next flow
      by_flow GoOn goes = (refl, next goes.1)
      by_flow (Stop boxed) goes = absurd (cc goes.0)

-- the verdict is the one given
pub verdict_given : (given : code_verdict.Verdict) (v : Verdict) → IsJudged v (Judged given)
    → verdict_view given ≡ v
verdict_given given v (own, is, view) =
    let same : given ≡ own = cc is in ap verdict_view same ∙ view

-- **the end**
pub noted_closes : (completeness : Completeness) (terms : Terms) (heard : List Heard)
    (Fits : Tail → Type 0) (given : code_verdict.Verdict) (old mid new : List ℕ)
    → Closes (all_run completeness) terms heard Fits old mid (Judged given)
    → new ≡ mid ++ end_notes (verdict_view given) (noticed_along terms heard)
    → Closes (noted_run completeness) terms heard Fits old new (Judged given)
noted_closes completeness terms heard Fits given old mid new s more =
    let n = noticed_along terms heard in
    let notes = end_notes (verdict_view given) n in
    record {
      said = s.said ++ notes;
      added = more ∙ ap (λ w. w ++ notes) s.added ∙ append_assoc old s.said notes;
      is = λ tail fits.
          let due = s.is tail fits in (
            (
              s.said,
              due.0,
              ap (λ (v : Verdict). s.said ++ end_notes v n)
                  (verdict_given given (noted_verdict completeness terms heard tail) due.1),
            ),
            due.1,
          );
    }
