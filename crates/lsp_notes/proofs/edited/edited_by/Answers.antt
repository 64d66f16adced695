use Rattle.std.specs.Prelude.{option_map, string_bytes}
use Rattle.std.proofs.Common.{◌∙◌, ap, sym}
use Rattle.std.proofs.lemmas.Result.{IfOk-weaker}
use Rattle.lsp_trail.specs.Common.{id_view, message_view, outline, params_of}
use Rattle.lsp_notes.specs.ServerEdits.{in_diagnostics, in_request, uris_with}
use Rattle.lsp_notes.proofs.EditedMessages.{responds}
use Rattle.lsp_notes.proofs.EditsByKind.{has_answer, has_notification, has_request, is_request_so}
use Rattle.lsp_notes.proofs.edited.edited_by.Goals as goal

pub returns-in-Request : goal.returns-in-Request
returns-in-Request c = IfOk-weaker c.in_request.result _ _
    (λ edited is terms before event m now are reads same named.
    let uris = uris_with terms before event in
    let id = id_view c.in-Request.id in
    let method = string_bytes c.in-Request.method in
    let so = same ∙ ap (λ w. outline (message_view w)) c.in-Request.is in
    is terms before event m now reads (is_request_so m id method so)
    ∙ ap (λ w. in_request uris c.args.now.place w (params_of m)) c.as_str.ensures.value
    ∙ sym (has_request terms before uris c.args.now.place m id method so)) c.in_request.ensures

pub returns-in-Notification : goal.returns-in-Notification
returns-in-Notification c = IfOk-weaker c.in_diagnostics.result _ _
    (λ edited is terms before event m now are reads same named.
    is ∙ ap (in_diagnostics c.args.now.place) named
    ∙ has_notification terms before (uris_with terms before event) c.args.now.place m
    (string_bytes c.in-Notification.method)
    (same ∙ ap (λ w. outline (message_view w)) c.in-Notification.is)) c.in_diagnostics.ensures

pub returns-in-Response : goal.returns-in-Response
returns-in-Response c = IfOk-weaker c.in_response.result _ _
    (λ edited is terms before event m now are reads same named.
    let uris = uris_with terms before event in
    let reply = responds c.in-Response.id c.in-Response.answer in
    is terms before event m now are reads
    ∙ sym (has_answer terms before uris c.args.now.place m (option_map id_view c.in-Response.id)
    reply.0 (same ∙ ap (λ w. outline (message_view w)) c.in-Response.is ∙ reply.1)))
    c.in_response.ensures
