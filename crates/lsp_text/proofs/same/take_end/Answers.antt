use Rattle.std.proofs.Common.{length, ◌==◌, List, ℕ, sym, ap, ◌∙◌}
use Rattle.std.proofs.lemmas.Bool.{false≢true}
use Rattle.lsp_text.proofs.SameTexts.{end_differs}
use Rattle.lsp_text.proofs.same.take_end.Goals as goal

pub returns-in_err-after_end : goal.returns-in_err-after_end
returns-in_err-after_end c =
    rw c.from_residual.ensures
    (end_differs c.args.left c.in-Rest.text c.in-Rest.is
    (λ e. false≢true (sym (sym c.is_empty.ensures ∙ c.if-is_empty.false)
    ∙ ap (λ (x : List ℕ). length x == 0) e)) c.in_err-after_end.ensures)
