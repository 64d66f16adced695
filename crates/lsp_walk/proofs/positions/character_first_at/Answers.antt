use Rattle.std.proofs.Common.{◌≡◌, ◌+◌, ◌-◌, ◌||◌, ℕ, codes, get_or, refl, ap, arith}
use Rattle.json.specs.Word.{is_operator, is_space}
use Rattle.serde_json.specs.Data.{object, no_members, put}
use Rattle.lsp_walk.proofs.Pairs.{differ, line_read, character_read, two_members, turned}
use Rattle.lsp_walk.proofs.positions.character_first_at.Goals as goal

pub returns : goal.returns
returns g c =
    let d = c.args.bytes.now in
    let from = c.args.from in
    let stop = c.in_ok-column.stop in
    let close = c.in_ok-line.close in
    let key_x = character_read d from 123 (from + 13) (c.if-not-names_character.ensures refl) in
    let key_y = line_read d stop 44 (stop + 8) (c.if-not-names_line.ensures refl) in
    let brace : get_or d close 0 ≡ 125 = grind arith in
    let ends = λ (x : ℕ). is_operator x || is_space x in
    let x = c.in_ok-column.ensures.read (ap ends key_y.0) in
    let y = c.in_ok-line.ensures.read (ap ends brace) in
    λ depth some. (
      object (put (codes "line") y.0 (put (codes "character") x.0 no_members)),
      two_members depth d from (from + 13) stop (stop + 8) close (codes "character")
          (codes "line") x.0 y.0 some key_x.0 key_x.1 (x.1 (depth - 1)) key_y.0 key_y.1
          (y.1 (depth - 1)) brace,
      turned g.K.Kept.keeps (codes "line") (codes "character") y.0 x.0 _
          (differ (codes "character") (codes "line") refl) y.2 x.2,
    )
