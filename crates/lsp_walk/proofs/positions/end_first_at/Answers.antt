use Rattle.std.proofs.Common.{◌+◌, ◌-◌, codes, refl, arith}
use Rattle.serde_json.specs.Data.{object, no_members, put}
use Rattle.lsp_walk.specs.Places.{KeepsPosition}
use Rattle.lsp_walk.proofs.Pairs.{differ, start_read, end_read, two_members, turned}
use Rattle.lsp_walk.proofs.positions.end_first_at.Goals as goal

pub names_start-requires : goal.names_start-requires
names_start-requires g c = (c.in_ok-end.ensures 1 (omega arith)).1.within

pub returns : goal.returns
returns g c =
    let d = c.args.bytes.now in
    let from = c.args.from in
    let stop = c.in_ok-end.stop in
    let key_x = end_read d from 123 (from + 7) (c.if-not-names_end.ensures refl) in
    let key_y = start_read d stop 44 (stop + 9) (c.if-not-names_start.ensures refl) in
    λ depth some.
    let x = c.in_ok-end.ensures (depth - 1) (omega (arith, some)) in
    let y = c.in_ok-start.ensures (depth - 1) (omega (arith, some)) in (
      object (put (codes "start") y.0 (put (codes "end") x.0 no_members)),
      two_members depth d from (from + 7) stop (stop + 9) c.in_ok-start.close (codes "end")
          (codes "start") x.0 y.0 (omega (arith, some)) key_x.0 key_x.1 x.1 key_y.0 key_y.1 y.1
          (grind arith),
      turned (KeepsPosition g.K.Kept.keeps) (codes "start") (codes "end") y.0 x.0 _
          (differ (codes "end") (codes "start") refl) y.2 x.2,
    )
