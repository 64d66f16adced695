use Rattle.std.proofs.Common.{arith}
use Rattle.serde_json.specs.Data.{no_members, put}
use Rattle.lsp_walk.proofs.Walking.{no_members_yet, member_turn, last_member, without_members}
use Rattle.lsp_outline.proofs.members.rest_of_object.Goals as goal

pub returns-then-byte_at-eq125 : goal.returns-then-byte_at-eq125
returns-then-byte_at-eq125 g c =
    let bytes = c.as_bytes-bytes.ensures.value in
    let begin = c.spaces_end-at in (
      no_members,
      without_members c.args.depth c.args.text.now c.args.from begin.result
          (rw (← bytes) begin.ensures.same) (rw (← bytes) (grind arith)) begin.ensures.forward,
      c.requires.none,
    )

pub members-init : goal.members-init
members-init g c =
    let bytes = c.as_bytes-bytes.ensures.value in
    let begin = c.spaces_end-at in (
      no_members,
      no_members_yet c.args.depth c.args.text.now c.args.from begin.result
          (rw (← bytes) begin.ensures.same) begin.ensures.forward
          (rw (← bytes) begin.ensures.within),
      c.requires.none,
    )

pub members-preserved : goal.members-preserved
members-preserved g c =
    let l = c.members in
    let bytes = c.as_bytes-bytes.ensures.value in
    let name = c.in_ok-name in
    let taken = c.in_ok-end.ensures in
    let k = name.name.now in
    let next = c.spaces_end-next in
    let again = c.spaces_end-at-in-members in (
      put k taken.0 l.invariant.0,
      member_turn c.args.depth c.args.text.now c.args.from l.at name.begin c.in_ok-end.end
          next.result again.result k taken.0 l.invariant.0 l.invariant.1 name.ensures taken.1
          (rw (← bytes) next.ensures.same) (rw (← bytes) (grind arith))
          (rw (← bytes) again.ensures.same) next.ensures.forward again.ensures.forward
          (rw (← bytes) again.ensures.within),
      taken.2 l.invariant.0 l.invariant.2,
    )

pub returns-then-mark-eq125 : goal.returns-then-mark-eq125
returns-then-mark-eq125 g c =
    let l = c.members in
    let bytes = c.as_bytes-bytes.ensures.value in
    let name = c.in_ok-name in
    let taken = c.in_ok-end.ensures in
    let k = name.name.now in
    let next = c.spaces_end-next in (
      put k taken.0 l.invariant.0,
      last_member c.args.depth c.args.text.now c.args.from l.at name.begin c.in_ok-end.end
          next.result k taken.0 l.invariant.0 l.invariant.1 name.ensures taken.1
          (rw (← bytes) next.ensures.same) (rw (← bytes) (grind arith)) next.ensures.forward,
      taken.2 l.invariant.0 l.invariant.2,
    )
