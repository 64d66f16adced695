use Rattle.std.proofs.Common.{sym, ◌∙◌, Some, None}
use Rattle.std.specs.Str.{chars}
use Rattle.lsp_lined.proofs.LentPlaces.{found_in_lent, place_past, same_number}
use Rattle.lsp_lined.proofs.PastEnds.{extent_past_last, extent_in_lent}
use Rattle.lsp_lined.proofs.edit.find_in.Goals as goal

pub returns-then-number_of-position-clause-place : goal.returns-then-number_of-position-clause-place
returns-then-number_of-position-clause-place c =
    place_past c.args.encoding c.args.lines.now c.args.position c.number_of.result c.byte_len.result
    c.number_of.ensures c.if-number_of-position.true c.byte_len.ensures.value

pub returns-then-number_of-position-clause-extent : goal.returns-then-number_of-position-clause-extent
returns-then-number_of-position-clause-extent c =
    extent_past_last c.args.encoding c.args.lines.now c.args.position c.number_of.result
    c.count.result c.number_of.ensures c.if-number_of-position.true c.count.ensures

pub returns-in_err-offset-clause-place : goal.returns-in_err-offset-clause-place
returns-in_err-offset-clause-place c =
    rw c.from_residual.ensures
    (found_in_lent c.args.encoding c.args.lines.now c.args.position _ c.args.line.now None
    c.requires
    (sym c.number_of.ensures
    ∙ same_number (chars c.args.lines.now) c.args.position c.number_of.result c.number_of.ensures
    c.if-number_of-position.false) c.in_err-offset.ensures)

pub returns-clause-place : goal.returns-clause-place
returns-clause-place c =
    found_in_lent c.args.encoding c.args.lines.now c.args.position _ c.args.line.now
    (Some c.in_ok-offset.offset) c.requires
    (sym c.number_of.ensures
    ∙ same_number (chars c.args.lines.now) c.args.position c.number_of.result c.number_of.ensures
    c.if-number_of-position.false) c.in_ok-offset.ensures

pub returns-clause-extent : goal.returns-clause-extent
returns-clause-extent c =
    extent_in_lent c.args.encoding c.args.lines.now c.args.position _ c.args.line.now
    c.extent-extent.result c.requires
    (sym c.number_of.ensures
    ∙ same_number (chars c.args.lines.now) c.args.position c.number_of.result c.number_of.ensures
    c.if-number_of-position.false) c.extent-extent.ensures
