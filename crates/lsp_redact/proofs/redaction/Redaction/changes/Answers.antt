use Rattle.std.proofs.Common.{map, ap, ◌∙◌}
use Rattle.std.proofs.lemmas.List.{take_all}
use Rattle.lsp_rpc.specs.View.{changes_view}
use Rattle.lsp_redact.specs.Messages.{change_data, list}
use Rattle.lsp_redact.specs.Shown.{shown_change}
use Rattle.lsp_redact.proofs.ShownLists.{changes_more}
use Rattle.lsp_redact.proofs.redaction.Redaction.changes.Goals as goal

pub loop-change-preserved : goal.loop-change-preserved
loop-change-preserved c =
    changes_more c.args.self.now.apart c.args.changes.now c.loop-change.change-index
    c.change-item.result c.loop-change.shown.items c.push.new.list.items c.in_ok-value.value
    c.loop-change-test.true c.change-item.is c.loop-change.invariant c.in_ok-push.ensures.ok
    c.in_ok-value.ensures

pub returns : goal.returns
returns c =
    c.array_of.ensures
    ∙ ap list (c.loop-change.invariant
    ∙ ap (λ cs. map change_data (map (shown_change c.args.self.now.apart) (changes_view cs)))
    (take_all c.loop-change.change-index c.args.changes.now c.loop-change-test.false))
