use Rattle.std.proofs.Common.{◌≡◌, ◌++◌, ◌∷◌, [], refl, string_bytes, subst, sym}
use Rattle.lsp_trail.specs.Common.{heard_events, ShowsFault, Terms}
use Rattle.lsp_facts.specs.Fact.{fact_lines}
use Rattle.lsp_replay.proofs.Wanting.{on_err}
use Rattle.lsp_notes.specs.AllNotes.{AreAlong, notes_at}
use Rattle.lsp_explain.specs.ExplainRuns.{AllStands}
use Rattle.lsp_origins.proofs.Telling.{stands_at}
use Rattle.lsp_explain.proofs.run_noted.NotedCausesAccount.event.Goals as goal
use Rattle.lsp_explain.proofs.NotedRuns.{noted_says, went_on}

-- memory is refused
pub returns-in_err-note-clause-memory : goal.returns-in_err-note-clause-memory
returns-in_err-note-clause-memory c =
    on_err c.from_residual.result (λ terms before h stands seen. refl)

pub returns-in_err-flow-clause-asked : goal.returns-in_err-flow-clause-asked
returns-in_err-flow-clause-asked c = c.in_err-flow.ensures.asked

pub returns-in_err-flow-clause-memory : goal.returns-in_err-flow-clause-memory
returns-in_err-flow-clause-memory c =
    on_err c.from_residual-in_err-flow.result (λ terms before h stands seen. refl)

pub returns-in_err-push_new-clause-asked : goal.returns-in_err-push_new-clause-asked
returns-in_err-push_new-clause-asked c = c.in_ok-flow.ensures.asked

pub returns-in_err-push_new-clause-memory : goal.returns-in_err-push_new-clause-memory
returns-in_err-push_new-clause-memory c =
    on_err c.from_residual-in_err-push_new.result (λ terms before h stands seen. refl)

pub returns : goal.returns
returns c = record {
  asked = c.in_ok-flow.ensures.asked;
  memory = tt;
  says = λ terms before h stands seen.
      let completeness = c.args.self.now.causes.completeness in
      let all = before ++ h ∷ [] in
      let causes = c.event.new.self in
      let noted = c.note.new.self in
      let notes = c.push_new.new.self in
      let told = c.in_ok-flow.ensures.says terms before h stands.causes seen in
      let goes = went_on completeness terms before h (AllStands causes terms all)
      c.in_ok-flow.flow told.goes in
      let along = subst (λ (t : Terms). AreAlong t noted before all) (sym seen.stood.by)
      (c.in_ok-note.ensures terms before h stands.causes.trail stands.notes seen) in
      noted_says completeness terms before h (ShowsFault c.args.seen.now.raw (heard_events before))
      (AllStands causes terms all) _ c.in_ok-flow.flow (string_bytes c.args.text.now)
      (string_bytes c.event.new.text) (string_bytes c.push_new.new.lines) told
      (subst (λ (t : Terms). string_bytes c.push_new.new.lines
      ≡ string_bytes c.event.new.text ++ fact_lines (notes_at t before h)) seen.stood.by
      (c.in_ok-push_new.ensures.said before h
      (stands_at _ terms all goes.trail seen.stood) along))
      (λ causes_stand. record {
        causes = causes_stand;
        notes = subst (λ (t : Terms). AreAlong t notes all all) seen.stood.by
            (c.in_ok-push_new.ensures.told before h
            (stands_at _ terms all goes.trail seen.stood) along);
      });
}
