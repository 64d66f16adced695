use Rattle.std.proofs.Common.{ap}
use Rattle.std.proofs.lemmas.Result.{IfOk-weaker}
use Rattle.lsp_replay.specs.LogEvents.{flaw_of}
use Rattle.lsp_judge.proofs.Finals.{named_end, sound_closed}
use Rattle.lsp_judge.proofs.ending.verdict_at.Goals as goal

pub returns-in-Ok : goal.returns-in-Ok
returns-in-Ok g c = λ so_far follows.
    let told = rw (c.in-Ok.is, c.ends_inside-editor.ensures, c.ends_inside-server.ensures) at
    c.end_of.ensures in
    sound_closed c.args.completeness c.args.events.now.docs.terms so_far c.args.log.now c.args.end _
    (ap flaw_of c.in_default.is) (told so_far follows)

pub returns-in-Err : goal.returns-in-Err
returns-in-Err g c =
    let told = rw (c.in-Err.is, c.ends_inside-editor.ensures, c.ends_inside-server.ensures) at
    c.end_of.ensures in
    IfOk-weaker c.answer.result _ _ (λ answer is so_far follows.
    sound_closed c.args.completeness c.args.events.now.docs.terms so_far c.args.log.now c.args.end _
    (ap flaw_of c.in_default.is) (named_end c.in-Err.ruling _ _ is (told so_far follows)))
    c.answer.ensures.ok
