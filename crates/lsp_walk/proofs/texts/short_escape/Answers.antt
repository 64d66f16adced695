use Rattle.std.proofs.Common.{◌≡◌, ℕ, ◌<◌, map, get_or, refl, ap, ◌∙◌, arith}
use Rattle.std.proofs.lemmas.List.FromFn.{get_or-map-range_with_len}
use Rattle.std.specs.List.{range_with_len}
use Rattle.json.specs.Text.{short_escape}
use Rattle.lsp_walk.specs.Texts.{one_byte}
use Rattle.lsp_walk.specs.declared.texts.TheConstants.{SHORT_ESCAPES}
use Rattle.lsp_walk.proofs.texts.short_escape.Goals as goal

table_is : SHORT_ESCAPES ≡ map (λ x. one_byte (short_escape x)) (range_with_len 0 256)
unfolding short_escape
table_is = refl

read : (x : ℕ) → x < 256 → get_or SHORT_ESCAPES x 0 ≡ one_byte (short_escape x)
read x h =
    ap (λ t. get_or t x 0) table_is
    ∙ get_or-map-range_with_len (λ n. one_byte (short_escape n)) 0 256 x x 0 h (omega arith)

pub returns : goal.returns
returns c = read c.args.byte (omega arith)
