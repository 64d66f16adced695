use Rattle.std.proofs.Common.{◌≡◌, ◌-◌, ◌^◌, ℕ, length, take, min, arith, ap, ◌∙◌}
use Rattle.std.specs.Str.{chars}
use Rattle.lsp_types.specs.declared.position.Position.{Position}
use Rattle.lsp_text.specs.Lines.{lines_of}
use Rattle.lsp_text.specs.Places.{units}
use Rattle.lsp_text.specs.Difference.{line_number_at, line_before_place}
use Rattle.lsp_text.proofs.Differing.LinePlaces.{number_there}
use Rattle.lsp_text.proofs.difference.position_of.Goals as goal

pub returns : goal.returns
returns c =
    let bs = c.args.text.now in
    let n = length (chars (take c.args.offset bs)) in
    let number : c.count_lines.result - 1 ≡ line_number_at (chars bs) n =
    omega (
      arith,
      c.count_lines.ensures,
      ap (λ x. length (lines_of (chars x))) c.split_at.ensures.front,
      number_there bs c.args.offset c.line_start.result c.utf8.text c.requires c.line_start.ensures,
    )
    in
    let width : c.width_of.result ≡ units c.args.encoding (line_before_place (chars bs) n) =
    c.width_of.ensures ∙ ap (units c.args.encoding) c.front_of.ensures
    in
    let last : ℕ = 2 ^ 32 - 1 in
    let at : ℕ → ℕ → Position = λ line column. record { line = line; column = column } in
    ap (λ line. at line c.capped-2.result) (c.capped.ensures ∙ ap (λ k. min k last) number)
    ∙ ap (at (min (line_number_at (chars bs) n) last)) (c.capped-2.ensures ∙ ap (λ k. min k last) width)
