use Rattle.std.proofs.Common.{◌≡◌, ◌≤◌, ◌+◌, drop}
use Rattle.lsp_trail.specs.SentEdits.{most_size, sents_view, total_size}
use Rattle.lsp_trail.proofs.base.room_beside.Given as goal

abbrev pub invariant-loop-one : goal.invariant-loop-one
invariant-loop-one l =
    (l.room + total_size (sents_view l.sent)
    ≡ most_size + total_size (sents_view (drop l.one-index l.sent)))
    × (total_size (sents_view (drop l.one-index l.sent)) ≤ total_size (sents_view l.sent))
