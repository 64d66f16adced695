use Rattle.std.specs.Prelude.{String, Vec, option_map}
use Rattle.std.specs.Global.{Global}
use Rattle.std.proofs.Common.{Some, ap, sym, ◌∙◌}
use Rattle.std.proofs.lemmas.Result.{on_ok_weaker}
use Rattle.serde_json.specs.View.{view}
use Rattle.lsp_trail.specs.Openings.{names_view}
use Rattle.lsp_trail.proofs.RenameSteps.{renames_given}
use Rattle.lsp_trail.proofs.renames.add_renames.Goals as goal

pub returns : goal.returns
returns c =
    on_ok_weaker c.add_all-2.result
    (renames_given (view c.args.params.now) (names_view c.as_slice.result.now)
    (names_view c.as_slice-2.result.now)
    (sym c.in_ok-old.ensures
    ∙ ap (option_map (λ (v : Vec (String Global) Global). names_view v.items)) c.in-Some.is
    ∙ ap (λ us. Some (names_view us)) (sym c.as_slice.ensures.value))
    (sym c.in_ok-new.ensures
    ∙ ap (option_map (λ (v : Vec (String Global) Global). names_view v.items)) c.in-Some-2.is
    ∙ ap (λ us. Some (names_view us)) (sym c.as_slice-2.ensures.value))
    c.args.moves.now.items c.add_all.new.moves.items c.add_all-2.new.moves.items
    c.in_ok-add_all.ensures)
    c.add_all-2.ensures
