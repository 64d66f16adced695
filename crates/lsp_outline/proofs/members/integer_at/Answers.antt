use Rattle.std.proofs.Common.{Some, sym, ap, ◌∙◌, w32}
use Rattle.std.proofs.lemmas.Int.{to_z_pos}
use Rattle.lsp_outline.proofs.members.integer_at.Goals as goal

pub returns : goal.returns
returns c =
    let read = c.in_ok-n.ensures.read in
    (read.0, read.1, read.2 ∙ ap Some (sym (to_z_pos w32 _ c.in_ok-n.ensures.fits)))

pub returns-then-byte_at-eq45 : goal.returns-then-byte_at-eq45
returns-then-byte_at-eq45 c =
    rw (← c.as_bytes-then-byte_at-eq45.ensures.value) c.negative_at.ensures
