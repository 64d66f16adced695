use Rattle.lsp_json.proofs.Patterns.{members_last, members_on}
use Rattle.lsp_json.proofs.members.+push_members.Goals as goal

pub returns-in_default : goal.returns-in_default
returns-in_default t c =
    let fields = rw c.in_default.is at c.first_field.ensures.fields in
    members_last _ _ _ _ fields c.split.ensures.own _ _ c.in_ok-push_field.ensures

pub returns : goal.returns
returns t c =
    let fields = rw c.in-Some.is at c.first_field.ensures.fields in
    members_on _ _ _ _ _ _ fields c.split.ensures.own c.split.ensures.behind _ _ _
    c.in_ok-push_field.ensures c.in_ok-push_members.ensures
