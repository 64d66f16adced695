use Rattle.std.proofs.Common.{List, [], ◌∷◌, ◌++◌}
use Rattle.lsp_replay.specs.Common.{Bounds, Event, Format, record_view}
use Rattle.lsp_log.specs.Log.{Record}
use Rattle.lsp_replay.specs.Streams.{left_in}
use Rattle.lsp_verdict.specs.Placed.{Raw}
use Rattle.lsp_judge.specs.Standing.{AreHeard, IsHearing}
use Rattle.lsp_judge.proofs.contents.hear_record.Given as goal

abbrev pub invariant-loop-raw : goal.invariant-loop-raw
invariant-loop-raw g l =
    (limits : Bounds) (format : Format) (records : List Record)
    → AreHeard limits format l.fn.streams l.fn.events.session l.fn.events.docs l.fn.events.counts
    records
    → (heard : List Event) × (due : List Raw)
    × IsHearing limits format l.streams l.events.session l.events.docs l.events.counts
    (records ++ record_view l.fn.next ∷ []) heard due

abbrev pub decreases-loop-raw : goal.decreases-loop-raw
decreases-loop-raw g l = left_in l.streams
