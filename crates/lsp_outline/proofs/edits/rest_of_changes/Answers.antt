use Rattle.std.proofs.Common.{◌≡◌, ◌++◌, [], ◌∷◌, Some, option_map, append-nil, ap, ◌∙◌, sym, arith}
use Rattle.std.proofs.lemmas.List.{map-append}
use Rattle.serde_json.specs.Data.{object, no_items}
use Rattle.lsp_rpc.specs.Params.{all_of, change_at}
use Rattle.lsp_rpc.specs.View.{change_view, changes_view}
use Rattle.lsp_outline.proofs.Editing.{none_done, one_more}
use Rattle.lsp_walk.proofs.Walking.{no_items_yet, item_turn, last_item, without_items}
use Rattle.lsp_outline.proofs.edits.rest_of_changes.Goals as goal

pub returns-then-byte_at-eq93 : goal.returns-then-byte_at-eq93
returns-then-byte_at-eq93 c =
    let bytes = c.as_bytes-bytes.ensures.value in
    let begin = c.spaces_end-at in (
      no_items,
      without_items c.args.depth c.args.text.now c.args.from begin.result
          (rw (← bytes) begin.ensures.same) (rw (← bytes) (grind arith)) begin.ensures.forward,
      ap (λ xs. Some (changes_view xs)) (sym c.new-found.ensures.items),
    )

pub changes-init : goal.changes-init
unfolding no_items_yet
changes-init c =
    let bytes = c.as_bytes-bytes.ensures.value in
    let begin = c.spaces_end-at in (
      no_items_yet c.args.depth c.args.text.now c.args.from begin.result
          (rw (← bytes) begin.ensures.same) begin.ensures.forward
          (rw (← bytes) begin.ensures.within),
      (λ rest. none_done (changes_view c.new-found.result.items) (all_of change_at rest)
          (ap changes_view c.new-found.ensures.items)),
    )

pub changes-preserved : goal.changes-preserved
unfolding item_turn
changes-preserved c =
    let l = c.changes in
    let some = l.invariant.0 in
    let bytes = c.as_bytes-bytes.ensures.value in
    let read = c.in_ok-change.ensures in
    let change = c.in_ok-change.change in
    let next = c.spaces_end-next in
    let again = c.spaces_end-at-in-changes in
    let pushed : c.push.new.self.items ≡ l.found.items ++ change ∷ [] = grind arith in
    let seen = ap changes_view pushed ∙ map-append change_view l.found.items (change ∷ []) in (
      item_turn c.args.depth c.args.text.now c.args.from l.at c.in_ok-change.end next.result
          again.result (object read.0) some read.1
          (rw (← bytes) next.ensures.same) (rw (← bytes) (grind arith))
          (rw (← bytes) again.ensures.same) next.ensures.forward again.ensures.forward
          (rw (← bytes) again.ensures.within),
      (λ rest. one_more change_at some.front (changes_view l.found.items) (object read.0)
          (change_view change) read.2 l.invariant.1 rest
          ∙ ap (λ done. option_map (λ more. done ++ more) (all_of change_at rest)) (sym seen)),
    )

pub returns-then-mark-eq93 : goal.returns-then-mark-eq93
unfolding last_item
returns-then-mark-eq93 c =
    let l = c.changes in
    let some = l.invariant.0 in
    let bytes = c.as_bytes-bytes.ensures.value in
    let read = c.in_ok-change.ensures in
    let change = c.in_ok-change.change in
    let next = c.spaces_end-next in
    let pushed : c.push.new.self.items ≡ l.found.items ++ change ∷ [] = grind arith in
    let seen = ap changes_view pushed ∙ map-append change_view l.found.items (change ∷ []) in
    let last = last_item c.args.depth c.args.text.now c.args.from l.at c.in_ok-change.end
    next.result (object read.0) some read.1 (rw (← bytes) next.ensures.same)
    (rw (← bytes) (grind arith)) next.ensures.forward in (
      last.0,
      last.1,
      one_more change_at some.front (changes_view l.found.items) (object read.0)
          (change_view change) read.2 l.invariant.1 no_items
          ∙ ap (λ done. Some (done ++ [])) (sym seen)
          ∙ ap Some (append-nil (changes_view c.push.new.self.items)),
    )
