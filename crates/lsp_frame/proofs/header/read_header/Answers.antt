use Rattle.std.proofs.Common.{inr, refl}
use Rattle.lsp_frame.proofs.HeaderLoop.{not_end, read_more, none_spell, usual_more}
use Rattle.lsp_frame.specs.Reading.{field_view}
use Rattle.lsp_frame.proofs.header.read_header.Goals as goal

pub returns-in_default-split_field : goal.returns-in_default-split_field
returns-in_default-split_field c =
    let at = c.loop-rest in
    let goes_on = not_end at.rest.now c.as_slice.result.now c.ne.result c.ne.ensures
    c.loop-rest-test.true c.as_slice.ensures in
    inr (
      none_spell c.args.header.now at.rest.now at.lengths at.fits at.invariant goes_on
          c.in_default-split_field.ensures,
      refl,
    )

pub loop-rest-preserved-then-fits : goal.loop-rest-preserved-then-fits
loop-rest-preserved-then-fits c =
    let at = c.loop-rest in
    let read = c.in-Some-split_field in
    read_more c.args.header.now at.rest.now read.after.now (field_view read.field) at.lengths
    c.with-lengths.result at.fits _ at.invariant read.ensures.0 read.ensures.1
    c.with-lengths.ensures (rw c.if-fits.true c.fits_charsets-fits.ensures)

pub loop-rest-preserved : goal.loop-rest-preserved
loop-rest-preserved c =
    let at = c.loop-rest in
    let read = c.in-Some-split_field in
    read_more c.args.header.now at.rest.now read.after.now (field_view read.field) at.lengths
    c.with-lengths.result at.fits at.fits at.invariant read.ensures.0 read.ensures.1
    c.with-lengths.ensures (rw c.if-fits.false refl)

pub loop-rest-preserved-in-Some : goal.loop-rest-preserved-in-Some
loop-rest-preserved-in-Some c =
    let at = c.loop-rest in
    usual_more c.args.header.now at.rest.now c.in-Some.after.now at.lengths at.fits at.invariant
    c.in-Some.ensures
