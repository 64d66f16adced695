use Rattle.std.proofs.Common.{refl, string_bytes}
use Rattle.serde_json.specs.Data.{string}
use Rattle.lsp_outline.proofs.Editing.{number_id}
use Rattle.lsp_outline.proofs.Negatives.{integer_passed}
use Rattle.lsp_outline.proofs.members.id_at.Goals as goal

pub returns-then-byte_at-eq34 : goal.returns-then-byte_at-eq34
returns-then-byte_at-eq34 c = (string (string_bytes c.in_ok-copy.copy), c.in_ok-copy.ensures, refl)

pub returns : goal.returns
returns c =
    let read = c.in_ok-n.ensures in
    (read.0, read.1, number_id read.0 _ (integer_passed read.0 _ read.2))
