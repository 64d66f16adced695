use Rattle.std.specs.Prelude.{map}
use Rattle.std.proofs.Common.{◌++◌, ◌∙◌, ap, append-nil, sym}
use Rattle.serde_json.specs.View.{view}
use Rattle.lsp_notes.specs.ServerEdits.{edited_in, edited_view}
use Rattle.lsp_notes.proofs.EditedMessages.{edited_more, next_uri, none_left}
use Rattle.lsp_notes.proofs.edited.in_workspace.Goals as goal

pub loop-uri-preserved : goal.loop-uri-preserved
loop-uri-preserved c = λ made stands.
    let since = c.args.since in
    let d = view c.args.edit.now in
    let found = c.loop-uri.found.items in
    edited_more c.next.new.self c.in-Some.uri.now since d found c.push_for.new.found.items _
    c.in_ok-push_for.ensures
    (c.loop-uri.invariant made stands
    ∙ ap (λ us. map edited_view found ++ edited_in us since d)
    (next_uri c.loop-uri.uris c.next.new.self c.in-Some.uri.now c.in-Some.ensures.next
    c.in-Some.ensures.rest))

pub returns : goal.returns
returns c = λ made stands.
    let found = c.loop-uri.found.items in
    sym (c.loop-uri.invariant made stands
    ∙ ap (λ us. map edited_view found ++ edited_in us c.args.since (view c.args.edit.now))
    (none_left c.loop-uri.uris c.in_default.ensures.next)
    ∙ append-nil (map edited_view found))
