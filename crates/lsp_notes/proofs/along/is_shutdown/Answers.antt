use Rattle.lsp_notes.proofs.NotedSteps.{no_shutdown}
use Rattle.lsp_notes.proofs.along.is_shutdown.Goals as goal

pub returns-in_default : goal.returns-in_default
returns-in_default c = no_shutdown c.args.act.now c.in_default.not-Shutdown
