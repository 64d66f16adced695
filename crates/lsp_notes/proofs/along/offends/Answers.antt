use Rattle.std.specs.Prelude.{is_some}
use Rattle.std.proofs.Common.{ap, subst, sym}
use Rattle.lsp_replay.specs.Telling.{HasFate}
use Rattle.lsp_replay.proofs.AllHeard.{kept_seen}
use Rattle.lsp_notes.proofs.along.offends.Goals as goal

pub returns-in-Offends : goal.returns-in-Offends
returns-in-Offends c = λ terms before h has.
    sym (ap is_some (subst (HasFate terms before h) c.in-Offends.is has).0)

-- it is kept
pub returns-in_default : goal.returns-in_default
returns-in_default c = λ terms before h has.
    sym (ap is_some (kept_seen terms before h c.args.seen.now.fate c.in_default.not-Offends has))
