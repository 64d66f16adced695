use Rattle.std.proofs.Common.{sym, append-nil, map}
use Rattle.lsp_redact.specs.View.{kept_view}
use Rattle.lsp_redact.proofs.redacting.push_given.Goals as goal

pub returns-in-None : goal.returns-in-None
returns-in-None c = rw c.in-None.is (sym (append-nil (map kept_view c.args.all.now.items)))
