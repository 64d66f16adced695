use Rattle.std.proofs.Common.{Option, Some, codes, option_map, string_bytes, ap, sym, ◌∙◌}
use Rattle.std.proofs.lemmas.Option.{IfSome_then}
use Rattle.serde_json.specs.Data.{string}
use Rattle.lsp_rpc.specs.Ident.{Ident, id_view}
use Rattle.lsp_rpc.specs.declared.message.Id.{Id}
use Rattle.lsp_rpc.specs.View.{message_view}
use Rattle.lsp_outline.specs.Outlined.{once}
use Rattle.lsp_outline.proofs.Outlining.{call_made, response_made}
use Rattle.lsp_outline.proofs.message.put_message.Goals as goal

pub returns-clause-left : goal.returns-clause-left
returns-clause-left c =
    let seen : Option (Option Id) → Option (Option Ident) =
    option_map (λ id. option_map id_view id) in
    IfSome_then c.put_call.result c.put_call.ensures (λ _ made ms h.
    let version = h.version ∙ ap (λ b. once b (codes "2.0")) c.if-not-parts.false in
    let method = h.method
    ∙ ap (option_map (λ s. string (string_bytes s))) (sym c.in-Some.ensures.value) in
    let id = h.id ∙ ap (λ o. option_map Some (seen o)) (sym c.take-2.ensures.value) in
    call_made ms version h.params (string_bytes c.in-Some.method) (seen c.take-2.result)
    (message_view c.put_call.new.message) method id made _ h.told)

pub returns-in_default-clause-left : goal.returns-in_default-clause-left
returns-in_default-clause-left c =
    let parts = c.args.parts.now in
    let own = option_map id_view c.in_ok-take.field-0 in
    let seen : Option (Option Id) → Option (Option Ident) =
    option_map (λ id. option_map id_view id) in
    IfSome_then c.put_response.result c.put_response.ensures (λ _ made ms h.
    let version = h.version ∙ ap (λ b. once b (codes "2.0")) c.if-not-parts.false in
    let method = h.method
    ∙ ap (option_map (λ s. string (string_bytes s))) (sym c.in_default.ensures.value) in
    let id = h.id
    ∙ ap (λ o. option_map Some (seen o)) (sym c.in_ok-take.ensures.value) in
    response_made ms version h.params own parts.has_result parts.error
    (message_view c.put_response.new.message) method id h.result h.error made _ h.told)
