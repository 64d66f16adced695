use Rattle.std.proofs.Common.{◌∙◌, subst, sym}
use Rattle.lsp_replay.proofs.SeenLines.{placed, counted_on, few_on}
use Rattle.lsp_replay.proofs.Following.{whose_read}
use Rattle.lsp_verdict.specs.Heard.{heard_events}
use Rattle.lsp_verdict.specs.Offences.{IsNoted}
use Rattle.lsp_verdict.specs.Placed.{Raw}
use Rattle.lsp_verdict.specs.Verdict.{no}
use Rattle.lsp_replay.proofs.seen.last_offence.Goals as goal

pub returns : goal.returns
returns c = λ before h counted few is noted.
    let events = heard_events before in
    let event = h.note.event in
    let reads = subst (λ (w : Raw). IsNoted w h.note) is noted in
    let place = c.last-event.ensures events event (counted_on before h _ few counted)
    (c.who.ensures ∙ sym (whose_read _ event reads.0)) in
    let own = placed events event c.last-event.result (few_on before h c.args.counts.now few
    counted) place in
    λ i. record {
      no = no c.args.rule (place i).who (own.1 i) (own.0 i);
      follows = c.args.follows;
    }
