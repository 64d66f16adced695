use Rattle.std.proofs.Common.{◌∙◌, length, sym}
use Rattle.std.proofs.lemmas.Bool.{eqb-true}
use Rattle.std.proofs.lemmas.List.{nil_from_length}
use Rattle.lsp_replay.proofs.JsonSteps.{nothing_added}
use Rattle.lsp_replay.proofs.as_json.push_objects.Goals as goal

pub returns-then-is_empty : goal.returns-then-is_empty
returns-then-is_empty c =
    let lines = c.args.lines.now in
    let none = nil_from_length lines
    (eqb-true (length lines) 0 (sym c.is_empty.ensures ∙ c.if-is_empty.true)) in
    record { ok = nothing_added _ _ none; memory = tt }
