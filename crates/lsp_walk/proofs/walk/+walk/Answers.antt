use Rattle.std.proofs.Common.{true, false, arith}
use Rattle.std.proofs.lemmas.Option.{IfSome_then}
use Rattle.serde_json.specs.Data.{string, boolean, null, array, object, no_items, no_members, put}
use Rattle.lsp_walk.proofs.Walking.{number_value, true_value, false_value, null_value, array_value}
use Rattle.lsp_walk.proofs.Walking.{object_value, no_items_yet, item_turn, last_item, without_items}
use Rattle.lsp_walk.proofs.Walking.{no_members_yet, member_turn, last_member, without_members}
use Rattle.lsp_walk.proofs.walk.+walk.Goals as goal

pub value_end-returns-in-34 : goal.value_end-returns-in-34
value_end-returns-in-34 t c =
    IfSome_then c.string_end.result c.string_end.ensures (λ end h. (string h.0, h.1 c.args.depth))

pub value_end-returns-else-depth-eq0 : goal.value_end-returns-else-depth-eq0
value_end-returns-else-depth-eq0 t c =
    IfSome_then c.items_end.result c.items_end.ensures
    (λ end h. (
      array h.0,
      array_value c.args.depth c.args.bytes.now c.args.from end h.0
          (grind arith) (grind arith) h.1,
    ))

pub value_end-returns-in_default-plain_place_end : goal.value_end-returns-in_default-plain_place_end
value_end-returns-in_default-plain_place_end t c =
    IfSome_then c.members_end.result c.members_end.ensures
    (λ end h. (
      object h.0,
      object_value c.args.depth c.args.bytes.now c.args.from end h.0
          (grind arith) (grind arith) h.1,
    ))

pub value_end-returns-in-116 : goal.value_end-returns-in-116
value_end-returns-in-116 t c =
    IfSome_then c.literal_end.result c.literal_end.ensures
    (λ end h. (
      boolean true,
      true_value c.args.depth c.args.bytes.now c.args.from end
          (grind arith) h,
    ))

pub value_end-returns-in-102 : goal.value_end-returns-in-102
value_end-returns-in-102 t c =
    IfSome_then c.literal_end-in-102.result c.literal_end-in-102.ensures
    (λ end h. (
      boolean false,
      false_value c.args.depth c.args.bytes.now c.args.from end
          (grind arith) h,
    ))

pub value_end-returns-in-110 : goal.value_end-returns-in-110
value_end-returns-in-110 t c =
    IfSome_then c.literal_end-in-110.result c.literal_end-in-110.ensures
    (λ end h. (null, null_value c.args.depth c.args.bytes.now c.args.from end (grind arith) h))

pub value_end-returns-in_default : goal.value_end-returns-in_default
value_end-returns-in_default t c =
    IfSome_then c.number_end.result c.number_end.ensures
    (λ end h. let found = number_value c.args.bytes.now c.args.from end h in
    (found.0, found.1 c.args.depth))

pub items_end-returns-then-byte_at-eq93 : goal.items_end-returns-then-byte_at-eq93
items_end-returns-then-byte_at-eq93 t c = (
  no_items,
  without_items c.args.depth c.args.bytes.now c.args.from c.spaces_end-at.result
      c.spaces_end-at.ensures.same (grind arith) c.spaces_end-at.ensures.forward,
)

pub items_end-items-init : goal.items_end-items-init
items_end-items-init t c =
    no_items_yet c.args.depth c.args.bytes.now c.args.from c.spaces_end-at.result
    c.spaces_end-at.ensures.same c.spaces_end-at.ensures.forward c.spaces_end-at.ensures.within

pub items_end-items-preserved : goal.items_end-items-preserved
items_end-items-preserved t c =
    let found = c.in_ok-end.ensures in
    let begin = c.plain_items_end-begin in
    let next = c.spaces_end-next in
    let again = c.spaces_end-at-in-items in
    item_turn c.args.depth c.args.bytes.now c.args.from begin.result c.in_ok-end.end next.result
    again.result found.0 (begin.ensures.passed c.args.depth c.args.from c.items.invariant)
    found.1
    next.ensures.same (grind arith) again.ensures.same next.ensures.forward again.ensures.forward
    again.ensures.within

pub items_end-returns-then-mark-eq93 : goal.items_end-returns-then-mark-eq93
items_end-returns-then-mark-eq93 t c =
    let found = c.in_ok-end.ensures in
    let begin = c.plain_items_end-begin in
    let next = c.spaces_end-next in
    last_item c.args.depth c.args.bytes.now c.args.from begin.result c.in_ok-end.end next.result
    found.0 (begin.ensures.passed c.args.depth c.args.from c.items.invariant) found.1
    next.ensures.same (grind arith) next.ensures.forward

pub members_end-returns-then-byte_at-eq125 : goal.members_end-returns-then-byte_at-eq125
members_end-returns-then-byte_at-eq125 t c = (
  no_members,
  without_members c.args.depth c.args.bytes.now c.args.from c.spaces_end-at.result
      c.spaces_end-at.ensures.same (grind arith) c.spaces_end-at.ensures.forward,
)

pub members_end-members-init : goal.members_end-members-init
members_end-members-init t c = (
  no_members,
  no_members_yet c.args.depth c.args.bytes.now c.args.from c.spaces_end-at.result
      c.spaces_end-at.ensures.same c.spaces_end-at.ensures.forward c.spaces_end-at.ensures.within,
)

pub members_end-members-preserved : goal.members_end-members-preserved
members_end-members-preserved t c =
    let key = c.in_ok-begin.ensures in
    let found = c.in_ok-end.ensures in (
      put key.0 found.0 c.members.invariant.0,
      member_turn c.args.depth c.args.bytes.now c.args.from c.members.at c.in_ok-begin.begin
          c.in_ok-end.end c.spaces_end-next.result c.spaces_end-at-in-members.result key.0 found.0
          c.members.invariant.0 c.members.invariant.1 key.1 found.1 c.spaces_end-next.ensures.same
          (grind arith) c.spaces_end-at-in-members.ensures.same
          c.spaces_end-next.ensures.forward c.spaces_end-at-in-members.ensures.forward
          c.spaces_end-at-in-members.ensures.within,
    )

pub members_end-returns-then-mark-eq125 : goal.members_end-returns-then-mark-eq125
members_end-returns-then-mark-eq125 t c =
    let key = c.in_ok-begin.ensures in
    let found = c.in_ok-end.ensures in (
      put key.0 found.0 c.members.invariant.0,
      last_member c.args.depth c.args.bytes.now c.args.from c.members.at c.in_ok-begin.begin
          c.in_ok-end.end c.spaces_end-next.result key.0 found.0
          c.members.invariant.0 c.members.invariant.1 key.1 found.1 c.spaces_end-next.ensures.same
          (grind arith) c.spaces_end-next.ensures.forward,
    )
