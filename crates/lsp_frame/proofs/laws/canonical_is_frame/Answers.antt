use Rattle.lsp_frame.proofs.Canonical.{canonical_frame}
use Rattle.lsp_frame.proofs.laws.canonical_is_frame.Goals as goal

pub returns : goal.returns
returns c = canonical_frame
