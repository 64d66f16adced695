use Rattle.std.proofs.Common.{refl}
use Rattle.lsp_json.specs.Rows.{rows}
use Rattle.lsp_json.proofs.laws.keys_are_plain.Goals as goal

pub returns : goal.returns
unfolding rows
returns c = refl
