use Rattle.std.proofs.Common.{ℕ, subst, sym}
use Rattle.lsp_lined.specs.Ends.{moved_place, CanMove}
use Rattle.lsp_lined.proofs.MovedPlaces.{next_place, one_moved, all_moved}
use Rattle.lsp_lined.proofs.ends.move_places.Goals as goal

pub moved-requires : goal.moved-requires
moved-requires c =
    let f : ℕ → ℕ = moved_place c.args.from c.args.removed c.args.inserted in
    subst (λ (x : ℕ). CanMove c.args.from c.args.removed c.args.inserted x)
    (sym (next_place f c.args.places.now c.loop-place.places c.loop-place.place-index c.loop-place.invariant c.loop-place-test.true)) (c.requires c.loop-place.place-index c.loop-place-test.true)

pub loop-place-preserved : goal.loop-place-preserved
loop-place-preserved c =
    let f : ℕ → ℕ = moved_place c.args.from c.args.removed c.args.inserted in
    one_moved f c.args.places.now c.loop-place.places c.loop-place.place-index c.moved.result c.loop-place.invariant c.loop-place-test.true c.moved.ensures

pub returns : goal.returns
returns c = all_moved (moved_place c.args.from c.args.removed c.args.inserted) c.args.places.now c.loop-place.places c.loop-place.place-index c.loop-place.invariant c.loop-place-test.false
