use Rattle.lsp_frame.proofs.Canonical.{canonical_first}
use Rattle.lsp_frame.proofs.laws.canonical_is_read.Goals as goal

pub returns : goal.returns
returns c = canonical_first
