use Rattle.std.specs.Prelude.{map, option_map}
use Rattle.std.proofs.Common.{◌≡◌, ◌∙◌, Some, ap, subst, sym}
use Rattle.std.proofs.lemmas.Result.{IfOk-weaker}
use Rattle.lsp_rpc.specs.Reading.{BreaksRule, IsRefusal}
use Rattle.lsp_rpc.specs.View.{message_view}
use Rattle.lsp_verdict.proofs.Below.{not_both, one_message}
use Rattle.lsp_notes.specs.Requests.{request_view}
use Rattle.lsp_notes.specs.ServerEdits.{calls_with, edited_view, in_whole, open_uris, uris_with}
use Rattle.lsp_notes.proofs.EditsByKind.{none_answered}
use Rattle.lsp_notes.proofs.edited.in_answer.Goals as goal

-- edits don't answer it
pub returns-in_default : goal.returns-in_default
returns-in_default c = λ terms before event m now are reads.
    let uris = uris_with terms before event in
    ap (map edited_view) c.new.ensures.items
    ∙ sym (none_answered uris m)
    ∙ ap (λ o. in_whole uris o m) (ap (option_map (λ r. request_view r.now)) (sym c.in_default.is)
    ∙ c.answered_request.ensures terms before now.trail are)

pub returns-in-Ok : goal.returns-in-Ok
returns-in-Ok c = IfOk-weaker c.in_reply-found.result _ _
    (λ edited has terms before event m now are reads.
    let made = calls_with terms before event in
    let same = one_message c.args.content.now (message_view c.in-Ok.message) m c.in-Ok.ensures.ok reads in
    let asked = Some (request_view c.in-Some.request.now) in
    has made now.stands
    ∙ ap (λ w. in_whole (open_uris c.args.now.docs.now.terms made) asked w) same
    ∙ ap (λ t. in_whole (open_uris t made) asked m) now.by
    ∙ ap (λ o. in_whole (uris_with terms before event) o m)
    (ap (option_map (λ r. request_view r.now)) (sym c.in-Some.is)
    ∙ c.answered_request.ensures terms before now.trail are)) c.in_reply-found.ensures

-- it can't be read
pub returns-in-Err-Rule : goal.returns-in-Err-Rule
returns-in-Err-Rule c =
    let at = c.in-Err-Rule in
    let bytes = c.args.content.now in
    let breaks : BreaksRule bytes at.field-0-0 =
    subst (IsRefusal bytes) at.field-0-is at.ensures.rule in
    λ terms before event m now are reads. absurd (not_both bytes m at.field-0-0 reads breaks)
