use Rattle.std.proofs.Common.{◌∙◌, subst, sym}
use Rattle.std.proofs.lemmas.Result.{on_ok_weaker}
use Rattle.lsp_replay.specs.Telling.{HasFate}
use Rattle.lsp_notes.proofs.NotedSteps.{breaks, refusals_past, sound_next, sound_same, sound_yet}
use Rattle.lsp_notes.proofs.NotedSteps.{spellings_past}
use Rattle.lsp_trail.proofs.Trails.{fate_offends}
use Rattle.lsp_notes.proofs.along.note_kept.Goals as goal

-- it offends
pub returns-in_default : goal.returns-in_default
returns-in_default c = λ terms before h trail are broken seen.
    let own = fate_offends terms before h c.args.seen.now.fate c.in_default.not-Kept seen.fate in
    record {
      refusals = refusals_past terms before h own.0 own.1 _ are.refusals;
      spellings = spellings_past terms before h own.0 own.1 _ are.spellings;
      server = sound_same terms before h _ (breaks _ _ own.0 own.1) are.server;
    }

pub returns : goal.returns
returns c = on_ok_weaker c.note_event.result (λ noted terms before h trail are broken seen.
    let kept = (subst (HasFate terms before h) c.in-Kept.is seen.fate).0 in
    sound_next terms before h _ c.args.broken broken kept
    (noted terms before h _ trail are (λ is. sound_yet terms before h (sym broken ∙ is)) seen kept))
    c.note_event.ensures
