use Rattle.std.proofs.Common.{◌+◌, refl, ◌∙◌, arith}
use Rattle.lsp_lined.proofs.MarkedPlaces.{all_left, next_left, up_to_mark, none_left}
use Rattle.lsp_lined.proofs.ends.push_marked.Goals as goal

pub loop-left-init : goal.loop-left-init
loop-left-init c = (c.args.at, all_left c.args.bytes.now c.args.at c.args.marks c.requires.within c.requires.marks, refl)

pub loop-left-preserved : goal.loop-left-preserved
loop-left-preserved c =
    let bs = c.args.bytes.now in
    let at = c.args.at in
    let so_far = c.loop-left.invariant in
    let left = so_far.1 in
    let k = c.lowest-k.result in
    let mark = c.lowest-k.ensures in
    let less = c.without-left.ensures in
    let there = left.within k mark.set in (
      at + k + 1,
      next_left bs at so_far.0 c.loop-left.left k c.without-left.result left mark.set mark.below less.cleared less.kept less.no_more,
      c.in_ok-push_if_end.ensures
          ∙ up_to_mark bs c.loop-left.places.items at so_far.0 c.loop-left.left k left c.requires.within (omega (arith, there.1)) there.0 mark.below
          ∙ so_far.2,
    )

pub returns : goal.returns
returns c =
    let so_far = c.loop-left.invariant in
    none_left c.args.bytes.now c.args.places.now.items c.loop-left.places.items c.args.at so_far.0 c.loop-left.left so_far.1 c.requires.within c.loop-left-test.false so_far.2
