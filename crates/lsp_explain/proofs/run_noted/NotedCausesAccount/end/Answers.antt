use Rattle.std.proofs.Common.{◌≡◌, ◌++◌, string_bytes, subst, sym}
use Rattle.lsp_trail.specs.Common.{heard_events, IsTrail, Terms, verdict_view}
use Rattle.lsp_notes.specs.AllNotes.{AreAlong, end_notes, noticed_along}
use Rattle.lsp_trail.specs.declared.trail.Trail.{Trail}
use Rattle.lsp_origins.proofs.Telling.{stands_at}
use Rattle.lsp_explain.proofs.run_noted.NotedCausesAccount.end.Goals as goal
use Rattle.lsp_explain.proofs.NotedRuns.{noted_closes}

pub returns : goal.returns
returns c = record {
  closes = λ terms heard stands stood few.
      let verdict = c.in_ok-verdict.verdict in
      let trail = subst (λ (t : Trail). IsTrail terms t (heard_events heard))
      (sym c.in_ok-verdict.ensures.trail) stands.causes.trail in
      let along = subst (λ (t : Terms). AreAlong t c.args.self.now.notes heard heard)
      (sym stood.by) stands.notes in
      noted_closes c.args.self.now.causes.completeness terms heard _ verdict
      (string_bytes c.args.text.now) (string_bytes c.close.new.text)
      (string_bytes c.push_end.new.lines)
      (c.in_ok-verdict.ensures.closes terms heard stands.causes stood few)
      (subst (λ (t : Terms). string_bytes c.push_end.new.lines
      ≡ string_bytes c.close.new.text
      ++ end_notes (verdict_view verdict) (noticed_along t heard)) stood.by
      (c.in_ok-push_end.ensures heard (stands_at _ terms heard trail stood) along));
}
