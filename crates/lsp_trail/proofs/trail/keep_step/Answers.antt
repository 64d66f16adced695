use Rattle.lsp_trail.specs.History.{kept_call}
use Rattle.lsp_trail.proofs.Marking.{marks_more}
use Rattle.lsp_trail.proofs.History.{opened_more}
use Rattle.lsp_trail.proofs.trail.keep_step.Goals as goal

pub returns-clause-kept : goal.returns-clause-kept
returns-clause-kept c =
    let uri = c.args.uri.now in
    let call = kept_call uri c.args.place.now c.args.step.now in record {
      marked = λ calls are. marks_more _ _ calls uri c.args.place.now c.args.step.now are
          c.in_ok-is_equal.ensures.marked;
      opened = λ calls are. opened_more _ _ calls call are c.in_ok-keep.ensures;
    }
