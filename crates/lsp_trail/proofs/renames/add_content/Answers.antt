use Rattle.std.proofs.Common.{subst}
use Rattle.std.proofs.lemmas.Result.{on_ok_weaker}
use Rattle.lsp_replay.specs.Common.{BreaksRule, IsRefusal, message_view}
use Rattle.lsp_trail.specs.Renames.{Moves, moves_in}
use Rattle.lsp_verdict.proofs.Below.{not_both, one_message}
use Rattle.lsp_trail.proofs.renames.add_content.Goals as goal

pub returns-in-Ok : goal.returns-in-Ok
returns-in-Ok c =
    let bytes = c.args.content.now in
    on_ok_weaker c.add_message-added.result
    (λ added m reads. subst (λ w. Moves (moves_in w) c.args.moves.now.items
    c.add_message-added.new.moves.items)
    (one_message bytes (message_view c.in-Ok.message) m c.in-Ok.ensures.ok reads) added)
    c.add_message-added.ensures

pub returns-in-Err-Rule : goal.returns-in-Err-Rule
returns-in-Err-Rule c =
    let at = c.in-Err-Rule in
    let bytes = c.args.content.now in
    let breaks : BreaksRule bytes at.field-0-0 =
    subst (IsRefusal bytes) at.field-0-is at.ensures.rule in
    λ m reads. absurd (not_both bytes m at.field-0-0 reads breaks)
