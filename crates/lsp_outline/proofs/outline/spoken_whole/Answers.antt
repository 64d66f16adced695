use Rattle.std.proofs.Common.{inl}
use Rattle.std.proofs.lemmas.Result.{IfOk-weaker, IfErr-weaker}
use Rattle.lsp_rpc.specs.View.{message_view}
use Rattle.lsp_outline.proofs.Speaking.{bad_params}
use Rattle.lsp_walk.proofs.Walking.{some_content}
use Rattle.lsp_outline.proofs.outline.spoken_whole.Goals as goal

pub returns-in-Ok-clause-ok : goal.returns-in-Ok-clause-ok
returns-in-Ok-clause-ok c = λ results.
    IfOk-weaker c.meant.result _ _ (λ spoken h. record {
      whole = message_view c.in-Ok.message;
      reads = c.in-Ok.ensures.ok;
      means = h.0;
      rest = inl h.1;
    }) c.meant.ensures.ok

pub returns-in-Ok-clause-rule : goal.returns-in-Ok-clause-rule
returns-in-Ok-clause-rule c =
    IfErr-weaker c.meant.result _ _
    (λ fault named. bad_params c.args.side c.args.content.now (message_view c.in-Ok.message) fault
    c.in-Ok.ensures.ok named) c.meant.ensures.rule

pub returns-in-Ok-clause-memory : goal.returns-in-Ok-clause-memory
returns-in-Ok-clause-memory c = λ refused.
    let reads = c.in-Ok.ensures.ok in some_content c.args.content.now reads.0 reads.1.1
