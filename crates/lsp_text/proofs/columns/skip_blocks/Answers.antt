use Rattle.std.proofs.Common.{List, ℕ, subst}
use Rattle.lsp_text.specs.Offsets.{IsPassed}
use Rattle.lsp_text.proofs.columns.skip_blocks.Goals as goal

pub returns : goal.returns
returns c =
    let passed = c.pass_blocks-passed.result in
    c.boundary_from.ensures c.args.encoding c.args.column passed.left c.requires
    (subst (λ (x : List ℕ). IsPassed c.args.encoding x c.args.column passed.bytes passed.left)
    c.as_bytes.ensures.value c.pass_blocks-passed.ensures)
