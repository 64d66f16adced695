use Rattle.std.proofs.Common.{◌≡◌, ◌<◌, ◌^◌, Some, get_or, refl, arith, sym, ap, ◌∙◌, w32}
use Rattle.std.proofs.lemmas.Int.{to_z_pos}
use Rattle.serde_json.specs.Data.{null, number, unsigned}
use Rattle.lsp_outline.proofs.Editing.{small_natural}
use Rattle.lsp_outline.proofs.Negatives.{integer_passed}
use Rattle.lsp_walk.proofs.Walking.{null_value, numeral_value}
use Rattle.lsp_outline.proofs.edits.integer_unless_null_at.Goals as goal

pub returns-in-Some : goal.returns-in-Some
returns-in-Some c =
    let d = c.args.text.now in
    let n = c.in-Some.n in
    let end = c.in-Some.end in
    let small : n < 2 ^ 31 = omega (arith, c.in-Some.ensures.fits) in (
      number (unsigned n),
      numeral_value d c.args.from end n (rw (← c.as_bytes-bytes.ensures.value)
          c.in-Some.ensures.read),
      small_natural n small ∙ ap Some (sym (to_z_pos w32 n small)),
    )

pub returns-then-byte_at-eq110 : goal.returns-then-byte_at-eq110
returns-then-byte_at-eq110 c =
    let d = c.args.text.now in
    let bytes = c.as_bytes-bytes.ensures.value in
    let read = c.in_ok-end in
    let first : get_or d c.args.from 0 ≡ 110 = rw (← bytes) (grind arith) in (
      null,
      λ depth. null_value depth d c.args.from read.end first (rw (← bytes) read.ensures),
      refl,
    )

pub returns : goal.returns
returns c =
    let read = c.in_ok-n.ensures in
    (read.0, read.1, integer_passed read.0 c.in_ok-n.n read.2)
