use Rattle.std.proofs.Common.{sym, subst, ◌≡◌, ◌++◌, string_bytes, OnOk}
use Rattle.lsp_rpc.specs.Reading.{IsRefusal}
use Rattle.lsp_facts.specs.Fact.{content_event}
use Rattle.lsp_facts.proofs.SomeFacts.{message_named, none_named}
use Rattle.lsp_facts.proofs.lines.push_content_event.Goals as goal

pub returns-in-Ok : goal.returns-in-Ok
returns-in-Ok c =
    let named = message_named c.args.content.now _ c.in-Ok.ensures.ok in
    subst
    (λ said. OnOk c.push_owned_event.result (string_bytes c.push_owned_event.new.lines
    ≡ string_bytes c.args.lines.now ++ content_event c.args.place.event c.args.place.who
    c.args.place.number said))
    (sym named) c.push_owned_event.ensures

pub returns-in-Err-Rule : goal.returns-in-Err-Rule
returns-in-Err-Rule c =
    let refused = subst (IsRefusal c.args.content.now) c.in-Err-Rule.field-0-is c.in-Err-Rule.ensures.rule in
    let named = none_named c.args.content.now c.in-Err-Rule.field-0-0 refused in
    subst
    (λ said. OnOk c.push_bare_event.result (string_bytes c.push_bare_event.new.lines
    ≡ string_bytes c.args.lines.now ++ content_event c.args.place.event c.args.place.who
    c.args.place.number said))
    (sym named) c.push_bare_event.ensures
