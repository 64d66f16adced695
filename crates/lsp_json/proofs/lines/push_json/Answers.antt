use Rattle.lsp_json.specs.Rows.{rows}
use Rattle.lsp_json.proofs.lines.push_json.Goals as goal

pub returns : goal.returns
unfolding rows
returns c = c.push_json_by.ensures
