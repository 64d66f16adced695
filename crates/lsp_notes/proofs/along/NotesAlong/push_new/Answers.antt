use Rattle.std.proofs.Common.{◌++◌, ◌∙◌, [], ◌∷◌, ap, string_bytes}
use Rattle.std.proofs.lemmas.Result.{on_ok_weaker}
use Rattle.lsp_facts.specs.Fact.{fact_lines}
use Rattle.lsp_notes.specs.AllNotes.{beyond, kinds, noticed_along, told_view}
use Rattle.lsp_trail.specs.Trails.{terms_in}
use Rattle.lsp_notes.proofs.along.NotesAlong.push_new.Goals as goal

pub returns : goal.returns
returns c =
    let terms = terms_in c.args.past in
    record {
      told = on_ok_weaker c.push_facts.result (λ pushed before h stands are. record {
        misfits = are.misfits;
        messages = are.messages;
        broken = are.broken;
        behind = are.behind;
        refused = are.refused;
        told_are = c.counts-self.ensures before (before ++ h ∷ []) stands are;
      }) c.push_facts.ensures;
      said = on_ok_weaker c.push_facts.result (λ pushed before h stands are.
          let lists = kinds (noticed_along terms (before ++ h ∷ [])) in
          pushed
          ∙ ap (λ l. string_bytes c.args.lines.now ++ fact_lines l)
          (c.in_ok-push_since.ensures before (before ++ h ∷ []) stands are
          ∙ ap (λ l. l ++ beyond (told_view c.args.self.now.told) lists) c.new-notes.ensures
          ∙ ap (λ ns. beyond ns lists) are.told_are)) c.push_facts.ensures;
    }
