use Rattle.std.proofs.Common.{List, ℕ, ap, subst, sym, ◌∙◌}
use Rattle.std.specs.List.{sum_by}
use Rattle.lsp_text.specs.Offsets.{IsPassed, byte_units}
use Rattle.lsp_text.proofs.ByteUnits.{units_by_bytes}
use Rattle.lsp_text.proofs.columns.skip_to_end.Goals as goal

pub pass_to_end-passed-requires-clause-width : goal.pass_to_end-passed-requires-clause-width
pass_to_end-passed-requires-clause-width c =
    c.requires.width
    ∙ (units_by_bytes c.args.encoding c.args.line.now c.utf8.line
    ∙ ap (sum_by (byte_units c.args.encoding)) (sym c.as_bytes.ensures.value))

pub returns : goal.returns
returns c =
    let passed = c.pass_to_end-passed.result in
    c.boundary_from.ensures c.args.encoding c.args.column passed.left c.requires.wide
    (subst (λ (x : List ℕ). IsPassed c.args.encoding x c.args.column passed.bytes passed.left)
    c.as_bytes.ensures.value c.pass_to_end-passed.ensures)
