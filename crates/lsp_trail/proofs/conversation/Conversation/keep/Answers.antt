use Rattle.std.proofs.Common.{rules}
use Rattle.lsp_trail.proofs.conversation.Conversation.keep.Goals as goal

pub returns-clause-renames : goal.returns-clause-renames
returns-clause-renames c = let more = c.in_ok-keep-2.ensures c.args.place in search rules
