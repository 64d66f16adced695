use Rattle.serde_json.proofs.Views.{view-Object}
use Rattle.lsp_redact.proofs.values.object_of.Goals as goal

pub returns : goal.returns
returns c = view-Object c.args.members
