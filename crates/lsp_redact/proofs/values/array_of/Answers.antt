use Rattle.serde_json.proofs.Views.{view-Array}
use Rattle.lsp_redact.proofs.values.array_of.Goals as goal

pub returns : goal.returns
returns c = view-Array c.args.values
