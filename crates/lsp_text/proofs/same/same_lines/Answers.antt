use Rattle.std.proofs.Common.{sym, ◌∙◌}
use Rattle.lsp_text.proofs.SameBytes.{same_bytes}
use Rattle.lsp_text.proofs.SameTexts.{taken_by}
use Rattle.lsp_text.proofs.same.same_lines.Goals as goal

pub returns : goal.returns
returns c =
    let taken = c.is_taken.ensures c.args.held.now
    (taken_by c.args.held.now c.without_last_end-whole.result c.take_lines.result
    c.take_lines.ensures) in
    let same = same_bytes c.args.held.now c.args.text.now c.utf8.held c.utf8.text in (
      λ t. same.0 (taken.0 t ∙ sym c.without_last_end-whole.ensures),
      λ e. taken.1 (same.1 e ∙ c.without_last_end-whole.ensures),
    )
