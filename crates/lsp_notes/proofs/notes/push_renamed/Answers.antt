use Rattle.std.specs.Prelude.{codes, option_map}
use Rattle.std.proofs.Common.{◌++◌, ◌∷◌, [], List, ℕ, Option, Bor, sym, ap, ◌∙◌}
use Rattle.std.proofs.lemmas.Result.{on_ok_weaker}
use Rattle.json.specs.Print.{quoted}
use Rattle.lsp_trail.specs.Common.{line, on_view}
use Rattle.lsp_trail.specs.declared.openings.DocumentEvent.{DocumentEvent}
use Rattle.lsp_facts.specs.Fact.{place_words}
use Rattle.lsp_notes.specs.Notes.{old_name_notes}
use Rattle.lsp_notes.proofs.notes.push_renamed.Goals as goal

pub returns-in-Some : goal.returns-in-Some
returns-in-Some c =
    let old = c.args.notes.now in
    let renamed = c.in-Some.renamed.now in
    on_ok_weaker c.text_by.result
    (λ says. says
    ∙ ap (λ (u : List ℕ). old
    ++ line (codes "note renamed" ∷ quoted u ∷ place_words renamed.place) ∷ [])
    c.as_str.ensures.value
    ∙ ap (λ (o : Option (Bor DocumentEvent)). old
    ++ old_name_notes (option_map (λ r. on_view r.now) o)) (sym c.in-Some.is))
    c.text_by.ensures.ok
