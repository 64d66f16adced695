use Rattle.std.specs.Prelude.{if◌then◌else◌}
use Rattle.std.proofs.Common.{Bool, None, ◌∙◌, ap, sym}
use Rattle.std.proofs.lemmas.Result.{IfOk-weaker}
use Rattle.serde_json.specs.View.{items_view}
use Rattle.lsp_rpc.specs.Params.{all_of}
use Rattle.lsp_notes.specs.TextEdits.{text_edit_at}
use Rattle.lsp_notes.proofs.text_edits.few_edits.Goals as goal

-- there are too many
pub returns-then-are_many : goal.returns-then-are_many
returns-then-are_many c =
    let all = all_of text_edit_at (items_view c.args.items.now) in
    sym (ap (λ (b : Bool). if b then None else all)
    (sym c.are_many.ensures ∙ c.if-are_many.true))

pub returns : goal.returns
returns c = IfOk-weaker c.each_edit.result _ _ (λ edits is.
    let all = all_of text_edit_at (items_view c.args.items.now) in
    is ∙ sym (ap (λ (b : Bool). if b then None else all)
    (sym c.are_many.ensures ∙ c.if-are_many.false))) c.each_edit.ensures
