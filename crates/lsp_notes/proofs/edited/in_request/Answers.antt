use Rattle.std.specs.Prelude.{map}
use Rattle.std.proofs.Common.{◌≡◌, ◌∙◌, ap, subst, sym}
use Rattle.std.proofs.lemmas.Result.{IfOk-weaker}
use Rattle.lsp_rpc.specs.Reading.{BreaksRule, IsRefusal}
use Rattle.lsp_trail.specs.Common.{message_view, params_of}
use Rattle.lsp_verdict.proofs.Below.{not_both, one_message}
use Rattle.lsp_notes.specs.ServerEdits.{edit_in, edited_view, in_edit, uris_with}
use Rattle.lsp_notes.proofs.EditedMessages.{edits_asked_for, no_edits_asked}
use Rattle.lsp_notes.proofs.EditsByKind.{edit_of_request}
use Rattle.lsp_notes.proofs.edited.in_request.Goals as goal

-- it has no edits made
pub returns-then-not-is_apply_edit : goal.returns-then-not-is_apply_edit
returns-then-not-is_apply_edit c = λ terms before event m now reads is.
    ap (map edited_view) c.new.ensures.items
    ∙ no_edits_asked (uris_with terms before event) c.args.now.place c.args.method.now (params_of m)
    (sym c.is_apply_edit.ensures ∙ c.if-not-is_apply_edit.true)

pub returns-in-Ok : goal.returns-in-Ok
returns-in-Ok c = IfOk-weaker c.in_params-found.result _ _
    (λ edited has terms before event m now reads is.
    let uris = uris_with terms before event in
    let place = c.args.now.place in
    let same = one_message c.args.content.now (message_view c.in-Ok.message) m c.in-Ok.ensures.ok reads in
    has terms before event now
    ∙ ap (λ w. in_edit uris place (edit_in w)) same
    ∙ ap (in_edit uris place) (edit_of_request m is)
    ∙ edits_asked_for uris place c.args.method.now (params_of m)
    (sym c.is_apply_edit.ensures ∙ c.if-not-is_apply_edit.false)) c.in_params-found.ensures

-- it can't be read
pub returns-in-Err-Rule : goal.returns-in-Err-Rule
returns-in-Err-Rule c =
    let at = c.in-Err-Rule in
    let bytes = c.args.content.now in
    let breaks : BreaksRule bytes at.field-0-0 =
    subst (IsRefusal bytes) at.field-0-is at.ensures.rule in
    λ terms before event m now reads is. absurd (not_both bytes m at.field-0-0 reads breaks)
