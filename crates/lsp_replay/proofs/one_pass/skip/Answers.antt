use Rattle.std.proofs.Common.{◌∙◌, Option, subst, sym}
use Rattle.lsp_docs.specs.declared.tried.Tried.{Tried}
use Rattle.lsp_lined.specs.Counted.{Counted}
use Rattle.lsp_replay.specs.Telling.{kept_before}
use Rattle.lsp_replay.specs.Tries.{TriesCall, made_in}
use Rattle.lsp_verdict.specs.Event.{call_at}
use Rattle.lsp_replay.proofs.Seeing.{counted_on, seen_so, stood_past}
use Rattle.lsp_replay.proofs.Wanting.{on_err}
use Rattle.lsp_replay.proofs.one_pass.skip.Goals as goal

pub returns-clause-saw : goal.returns-clause-saw
returns-clause-saw g c = λ terms before h comes offends speaks tries.
    let stood = stood_past comes _ _ offends (counted_on comes _ (λ events event counts own.
    c.add.ensures events event counts (own ∙ sym c.who.ensures))) in
    let kept = kept_before terms before in
    let says = c.call.ensures kept h.note.event
    (c.as_read.ensures.read kept h.note.event comes.stood.holds.sent comes.noted.0 speaks) in
    record {
      stood = stood;
      says = c.in_ok-flow.ensures.says terms before h comes.stands
          (seen_so comes _ speaks says stood (
            offends,
            subst (λ (o : Option (Tried Counted)). TriesCall terms kept
                (call_at kept h.note.event) c.args.rule (made_in o)) (sym c.as_ref.ensures.value)
                tries,
          ));
    }

pub returns-in_err-flow-clause-memory : goal.returns-in_err-flow-clause-memory
returns-in_err-flow-clause-memory g c =
    on_err c.from_residual.result (λ terms before h comes offends speaks tries.
    let stood = stood_past comes _ _ offends (counted_on comes _ (λ events event counts own.
    c.add.ensures events event counts (own ∙ sym c.who.ensures))) in
    let kept = kept_before terms before in
    let says = c.call.ensures kept h.note.event
    (c.as_read.ensures.read kept h.note.event comes.stood.holds.sent comes.noted.0 speaks) in
    c.in_err-flow.ensures.memory terms before h comes.stands
    (seen_so comes _ speaks says stood (
      offends,
      subst (λ (o : Option (Tried Counted)). TriesCall terms kept (call_at kept h.note.event)
          c.args.rule (made_in o)) (sym c.as_ref.ensures.value) tries,
    )))
