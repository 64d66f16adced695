use Rattle.std.specs.Prelude.{length}
use Rattle.std.proofs.Common.{◌≡◌, ◌<◌, ◌∙◌, arith, rules}
use Rattle.std.proofs.lemmas.Bool.Decides.{nat_tests}
use Rattle.lsp_notes.proofs.EditedTexts.{none_held, some_held}
use Rattle.lsp_notes.proofs.late_edits.are_held.Goals as goal

pub returns-then-is_empty : goal.returns-then-is_empty
returns-then-is_empty c =
    let none : length c.args.edits.now ≡ 0 = search (rules, c.is_empty.ensures, c.if-is_empty.true) in
    none_held c.args.edits.now none

pub returns : goal.returns
returns c =
    let some : 0 < length c.args.edits.now = grind (arith, nat_tests) in
    c.are_small.ensures ∙ some_held c.args.edits.now some
