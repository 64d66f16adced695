use Rattle.std.proofs.Common.{sym, subst, ap}
use Rattle.std.specs.Prelude.{option_and_then}
use Rattle.lsp_rpc.specs.Reading.{IsRefusal}
use Rattle.lsp_facts.specs.Members.{Finds, wrong_member}
use Rattle.lsp_facts.proofs.SomeFacts.{message_named, none_named}
use Rattle.lsp_facts.proofs.contents.member_in.Goals as goal

pub returns-in-Ok : goal.returns-in-Ok
returns-in-Ok c =
    let named = message_named c.args.content.now _ c.in-Ok.ensures.ok in
    subst (λ said. Finds c.wrong_member.result (option_and_then wrong_member said)) (sym named)
    c.wrong_member.ensures

pub returns-in-Err-Rule : goal.returns-in-Err-Rule
returns-in-Err-Rule c =
    let refused = subst (IsRefusal c.args.content.now) c.in-Err-Rule.field-0-is
    c.in-Err-Rule.ensures.rule in
    sym (ap (option_and_then wrong_member)
    (none_named c.args.content.now c.in-Err-Rule.field-0-0 refused))
