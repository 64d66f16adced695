use Rattle.std.proofs.Common.{true, is_some, refl, sym, ap, ◌∙◌}
use Rattle.lsp_rpc.specs.contracts.message.IdPartialEq.TheImpl.{eq-value}
use Rattle.lsp_session.specs.declared.pending.OpenRequest.{OpenRequest}
use Rattle.lsp_session.proofs.Entries.{AllNamed-cancel, cancel-kept, has_id-kept, nothing-cancelled}
use Rattle.lsp_session.proofs.Ids.{eq_is_same_id}
use Rattle.lsp_session.proofs.pending.Pending.cancel.Goals as goal
use Rattle.lsp_session.proofs.pending.Pending.cancel.Goals.{in-Some, in-None}

pub invariant_of-self : goal.invariant_of-self
invariant_of-self c = elim c.match-get_mut.branch [
  | in-Some w ↦
      let old = w.in-Some.request.now in
      let new : OpenRequest = record old { cancelled = true } in
      rw w.self-inside-is (AllNamed-cancel (eq-value).it eq_is_same_id c.args.id.now old new refl
      c.self.inside.requests c.self.invariant (sym w.in-Some.ensures.value))
  | in-None w ↦ rw w.self-inside-is c.self.invariant
]

pub returns-clause-found : goal.returns-clause-found
returns-clause-found c =
    let there = has_id-kept (eq-value).it eq_is_same_id c.args.id.now c.self.inside.requests
    c.self.invariant in
    elim c.match-get_mut.branch [
      | in-Some w ↦ rw (← c.self.view_is, w.result-is) (ap is_some w.in-Some.ensures.value ∙ there)
      | in-None w ↦ rw (← c.self.view_is, w.result-is) (ap is_some w.in-None.ensures.value ∙ there)
    ]

pub returns-clause-marked : goal.returns-clause-marked
returns-clause-marked c =
    let kept = c.self.inside.requests in
    elim c.match-get_mut.branch [
      | in-Some w ↦
          let old = w.in-Some.request.now in
          let new : OpenRequest = record old { cancelled = true } in
          rw (w.self-inside-is, ← c.self.view_is)
          (cancel-kept (eq-value).it eq_is_same_id c.args.id.now old new refl kept c.self.invariant
          c.get_mut.ensures.differ (sym w.in-Some.ensures.value))
      | in-None w ↦
          rw (w.self-inside-is, ← c.self.view_is)
          (nothing-cancelled (eq-value).it eq_is_same_id c.args.id.now kept c.self.invariant
          (sym w.in-None.ensures.value))
    ]
