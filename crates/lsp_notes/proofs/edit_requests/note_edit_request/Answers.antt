use Rattle.std.specs.List.{cons_option}
use Rattle.std.specs.Prelude.{option_map, string_bytes}
use Rattle.std.proofs.Common.{[], ◌∙◌, ap, subst, sym}
use Rattle.std.proofs.lemmas.Result.{on_ok_weaker}
use Rattle.lsp_trail.specs.Common.{id_view, message_view, outline, version_view, Versioned}
use Rattle.lsp_notes.specs.EditRequests.{is_formatting, is_rename, most_requests}
use Rattle.lsp_notes.specs.Requests.{Holds, request_view}
use Rattle.lsp_notes.proofs.EditsByKind.{asks_edits, asks_format, asks_nothing, asks_other}
use Rattle.lsp_notes.proofs.EditsByKind.{asks_rename}
use Rattle.lsp_trail.proofs.History.{none_held}
use Rattle.lsp_notes.proofs.edit_requests.note_edit_request.Goals as goal

-- it is no request
pub returns-in_default : goal.returns-in_default
returns-in_default c = λ m same are.
    none_held request_view most_requests _ c.args.asked.now.items
    (asks_nothing c.args.place m c.args.message.now same c.in_default.not-Request)

-- a rename
pub returns-then-is_rename : goal.returns-then-is_rename
returns-then-is_rename c = on_ok_weaker c.push_request.result (λ held m same are.
    let method = string_bytes c.in-Request.method in
    let named = option_map version_view c.args.named.now in
    let so = same ∙ ap (λ w. outline (message_view w)) c.in-Request.is in
    subst (λ o. Holds most_requests (cons_option o []) c.args.asked.now.items
    c.push_request.new.asked.items)
    (sym (asks_edits c.args.place m (id_view c.in-Request.id) method named so are
    ∙ asks_rename c.args.place method (option_map (λ (v : Versioned). v.uri) named)
    (ap is_rename (sym c.as_str.ensures.value) ∙ sym c.is_rename.ensures ∙ c.if-is_rename.true))) held)
    c.push_request.ensures

-- one that no edits answer
pub returns-then-not-is_formatting : goal.returns-then-not-is_formatting
returns-then-not-is_formatting c = λ m same are.
    let method = string_bytes c.in-Request.method in
    let named = option_map version_view c.args.named.now in
    let so = same ∙ ap (λ w. outline (message_view w)) c.in-Request.is in
    none_held request_view most_requests _ c.args.asked.now.items
    (asks_edits c.args.place m (id_view c.in-Request.id) method named so are
    ∙ asks_other c.args.place method (option_map (λ (v : Versioned). v.uri) named)
    (ap is_rename (sym c.as_str.ensures.value) ∙ sym c.is_rename.ensures ∙ c.if-is_rename.false)
    (ap is_formatting (sym c.as_str-2.ensures.value) ∙ sym c.is_formatting.ensures ∙ c.if-not-is_formatting.true))

pub returns : goal.returns
returns c = on_ok_weaker c.note_formatting.result (λ held m same are.
    let method = string_bytes c.in-Request.method in
    let named = option_map version_view c.args.named.now in
    let so = same ∙ ap (λ w. outline (message_view w)) c.in-Request.is in
    subst (λ o. Holds most_requests (cons_option o []) c.args.asked.now.items
    c.note_formatting.new.asked.items)
    (sym (asks_edits c.args.place m (id_view c.in-Request.id) method named so are
    ∙ asks_format c.args.place method (option_map (λ (v : Versioned). v.uri) named)
    (ap is_rename (sym c.as_str.ensures.value) ∙ sym c.is_rename.ensures ∙ c.if-is_rename.false)
    (ap is_formatting (sym c.as_str-2.ensures.value) ∙ sym c.is_formatting.ensures
    ∙ c.if-not-is_formatting.false))) held) c.note_formatting.ensures
