use Rattle.std.proofs.Common.{ap, ◌∙◌}
use Rattle.std.specs.Str.{chars}
use Rattle.lsp_lined.specs.Counted.{Counted}
use Rattle.lsp_text.specs.Findings.{found_in, held_by, noted}
use Rattle.lsp_lined.proofs.Removals.{exchange_made, found_made}
use Rattle.lsp_lined.proofs.lined.LinedTextStore.replace_noting.Goals as goal

pub length_other_than_removed-range_length-requires : goal.length_other_than_removed-range_length-requires
length_other_than_removed-range_length-requires c = (
  held_by c.args.encoding (chars c.self.inside.lines) c.args.span,
  exchange_made c.args.encoding c.self.inside.lines c.edit.new.lines (chars c.args.text.now)
      c.args.span c.args.limit c.sums-sums.result c.sums.result c.sums-sums.ensures.utf8
      c.sums.ensures.utf8 c.sums-sums.ensures.value c.sums.ensures.value c.in_ok-past_end.ensures.ok,
)

pub returns-clause-found : goal.returns-clause-found
returns-clause-found c =
    let t = chars c.self.inside.lines in
    let made =
    exchange_made c.args.encoding c.self.inside.lines c.edit.new.lines (chars c.args.text.now)
    c.args.span c.args.limit c.sums-sums.result c.sums.result c.sums-sums.ensures.utf8
    c.sums.ensures.utf8 c.sums-sums.ensures.value c.sums.ensures.value c.in_ok-past_end.ensures.ok in
    c.note.ensures
    ∙ found_made c.args.encoding t c.args.span c.args.range_length c.in_ok-past_end.past_end
    c.length_other_than_removed-range_length.result c.args.found.now c.in_ok-past_end.ensures.past
    (c.length_other_than_removed-range_length.ensures (held_by c.args.encoding t c.args.span) made)
    ∙ ap (λ (x : Counted). noted c.args.found.now (found_in c.args.encoding x.content c.args.span
    c.args.range_length)) c.self.view_is
