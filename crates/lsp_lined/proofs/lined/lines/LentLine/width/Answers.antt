use Rattle.std.proofs.Common.{List, ℕ, ap, ◌∙◌}
use Rattle.std.specs.Str.{chars}
use Rattle.lsp_text.specs.Places.{units}
use Rattle.lsp_lined.proofs.LentPlaces.{near_in}
use Rattle.lsp_lined.proofs.PastEnds.{plain_width}
use Rattle.lsp_lined.proofs.lined.lines.LentLine.width.Goals as goal

pub returns-then-self : goal.returns-then-self
returns-then-self c = plain_width c.args.encoding c.args.self.now c.requires c.if-self-size.false
    c.if-self.true

pub split_at-requires : goal.split_at-requires
split_at-requires c = (near_in c.args.self.now c.requires c.if-self-size.false).boundary

pub returns : goal.returns
returns c =
    c.width_of.ensures
    ∙ ap (λ (x : List ℕ). units c.args.encoding (chars x))
    (c.split_at.ensures.front ∙ (near_in c.args.self.now c.requires c.if-self-size.false).text)
