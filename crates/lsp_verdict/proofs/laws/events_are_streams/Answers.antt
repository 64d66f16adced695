use Rattle.lsp_verdict.proofs.Sessions.Joined as proved
use Rattle.lsp_verdict.proofs.laws.events_are_streams.Goals as goal

pub returns-clause-sides : goal.returns-clause-sides
returns-clause-sides c = proved.sides_are_streams

pub returns-clause-snapshots : goal.returns-clause-snapshots
returns-clause-snapshots c = proved.snapshots_are_shown
