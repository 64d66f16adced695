use Rattle.std.proofs.Common.{◌++◌, [], ◌∷◌, List, ℕ, length, sym, ap, subst, ◌∙◌, arith}
use Rattle.std.proofs.Common.{length-drop}
use Rattle.std.proofs.lemmas.List.{length-take-le, map-id}
use Rattle.lsp_lined.specs.Parts.{MakeUp}
use Rattle.lsp_lined.proofs.CutPlaces.{IsCutSoFar, nothing_cut, one_cut, all_cut}
use Rattle.lsp_lined.proofs.block.BlockSharedPart.cut.Goals as goal

pub loop-rest-init : goal.loop-rest-init
loop-rest-init c =
    nothing_cut c.args.whole.now c.new-blocks.result.items c.utf8.whole c.new-blocks.ensures.items

pub new-requires : goal.new-requires
new-requires c =
    omega (
      arith,
      ap length c.split_at.ensures.front,
      length-take-le c.cut_place.result c.loop-rest.rest.now
          c.cut_place.ensures.place.boundary.0,
      c.cut_place.ensures.most,
    )

pub loop-rest-preserved : goal.loop-rest-preserved
loop-rest-preserved c =
    let held = c.loop-rest.blocks.items in
    subst (λ (x : List ℕ). IsCutSoFar c.args.whole.now x c.push.new.self.items)
    (sym c.split_at.ensures.back)
    (one_cut c.args.whole.now c.loop-rest.rest.now held c.push.new.self.items c.cut_place.result
    c.loop-rest.invariant c.cut_place.ensures.place
    (c.in_ok-push.ensures.items ∙ ap (λ (x : List ℕ). held ++ x ∷ [])
    (c.in_ok-new.ensures ∙ c.split_at.ensures.front)))

pub loop-rest-smaller : goal.loop-rest-smaller
loop-rest-smaller c =
    omega (
      arith,
      ap length c.split_at.ensures.back,
      length-drop c.cut_place.result c.loop-rest.rest.now,
      c.cut_place.ensures.place.some,
      c.loop-rest-test.true,
    )

pub returns : goal.returns
returns c =
    let held = c.loop-rest.blocks.items in
    let all = c.push-2.new.self.items in
    subst (λ (x : List (List ℕ)). MakeUp x c.args.whole.now) (sym (map-id all))
    (all_cut c.args.whole.now c.loop-rest.rest.now held all c.loop-rest.invariant
    (c.in_ok-push-2.ensures.items ∙ ap (λ (x : List ℕ). held ++ x ∷ []) c.in_ok-new-2.ensures))
