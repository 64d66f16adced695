use Rattle.std.proofs.Common.{subst}
use Rattle.lsp_trail.specs.Common.{HasFate, kept_before, sent_in}
use Rattle.lsp_notes.proofs.BehindSteps.{held_before}
use Rattle.lsp_notes.proofs.NotedSteps.{kept_refuses, offends_refuses}
use Rattle.lsp_replay.proofs.AllHeard.{kept_seen}
use Rattle.lsp_notes.proofs.along.refuses_shutdown.Goals as goal

-- it is kept
pub returns-in_default : goal.returns-in_default
returns-in_default c = λ terms before h seen.
    kept_refuses terms before h
    (kept_seen terms before h c.args.seen.now.fate c.in_default.not-Offends seen.fate)

pub returns : goal.returns
returns c = λ terms before h seen.
    let rule = c.in-Offends.rule in
    let has = subst (HasFate terms before h) c.in-Offends.is seen.fate in
    let holds = held_before terms before h _ _ _ rule has.0 seen.stood in
    offends_refuses terms before h rule _ _ has.0
    (c.asks_shutdown.ensures (kept_before terms before) h.note.event seen.spoken)
    (c.has_exited.ensures (sent_in (kept_before terms before)) holds.sent)
