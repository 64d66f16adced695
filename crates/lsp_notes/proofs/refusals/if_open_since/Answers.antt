use Rattle.std.specs.Prelude.{if◌then◌else◌}
use Rattle.std.proofs.Common.{◌∙◌, Bool, None, Some, ap, sym}
use Rattle.lsp_notes.specs.Refusals.{is_opened_before}
use Rattle.lsp_notes.proofs.refusals.if_open_since.Goals as goal

pub returns-then-is_opened_before : goal.returns-then-is_opened_before
returns-then-is_opened_before c = λ terms before are.
    ap (λ (b : Bool). if b then Some c.args.uri.now else None)
    (sym c.if-is_opened_before.true ∙ c.is_opened_before.ensures
    ∙ ap (is_opened_before c.args.place) (c.opened.ensures terms before are))

pub returns-else-is_opened_before : goal.returns-else-is_opened_before
returns-else-is_opened_before c = λ terms before are.
    ap (λ (b : Bool). if b then Some c.args.uri.now else None)
    (sym c.if-is_opened_before.false ∙ c.is_opened_before.ensures
    ∙ ap (is_opened_before c.args.place) (c.opened.ensures terms before are))
