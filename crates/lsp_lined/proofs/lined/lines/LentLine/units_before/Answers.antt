use Rattle.std.proofs.Common.{ℕ, take, ap, sym, ◌∙◌}
use Rattle.std.proofs.lemmas.Str.{chars-nil}
use Rattle.std.specs.Str.{chars}
use Rattle.lsp_text.specs.Places.{units}
use Rattle.lsp_lined.specs.Windows.{text_with}
use Rattle.lsp_lined.proofs.BlockPlaces.{block_width}
use Rattle.lsp_lined.proofs.LentPlaces.{held_utf8}
use Rattle.lsp_lined.proofs.lined.lines.LentLine.units_before.Goals as goal

pub returns-then-place-eq0 : goal.returns-then-place-eq0
returns-then-place-eq0 c =
    sym (ap (units c.args.encoding) chars-nil)
    ∙ ap (λ (n : ℕ). units c.args.encoding (chars (take n (text_with c.args.self.now.held.now))))
    (sym c.if-place-eq0.true)

pub returns-then-place-self : goal.returns-then-place-self
returns-then-place-self c =
    let l = c.args.self.now in
    block_width c.args.encoding (text_with l.held.now) l.held.now.sums c.by.result c.args.place
    (held_utf8 l c.requires.line) c.requires.line.held.sums c.by.ensures c.if-place-self.true
