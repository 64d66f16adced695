use Rattle.std.proofs.Common.{refl}
use Rattle.lsp_request.specs.Words.{rows_in}
use Rattle.lsp_request.proofs.Asked.{no_event}
use Rattle.lsp_request.proofs.command_line.words.event_task.Goals as goal

pub returns-in_err-number : goal.returns-in_err-number
returns-in_err-number c = rw c.from_residual.ensures (no_event (rows_in c.args.arguments.now) c.in_err-number.ensures)

pub returns : goal.returns
returns c = record { command = refl; arguments = c.in_ok-number.ensures }
