-- Open documents of which the URI differs from another one in its spelling alone.
use Rattle.std.specs.Prelude.{ℕ, List, Option, Some, nat_lt, Bool, not, None, ◌*◌, length, false}
use Rattle.std.specs.Prelude.{◌&&◌, ◌==◌, is_some}
use Rattle.std.specs.Str.{bytes_eq}
use Rattle.lsp_replay.specs.Common.{calls, Event, folded, held, kept_of, Terms}
use Rattle.lsp_replay.specs.declared.heard.EventPlace.{EventPlace}
use Rattle.lsp_trail.specs.History.{last_ones, OnDocument}
use Rattle.lsp_trail.specs.Openings.{last_on, most_openings, openings}

abbrev pub is_long : ℕ → ℕ → Bool
is_long size other = nat_lt (3 * size) other

-- the other is at most three times as long as a URI of this size, and has the same in common with
-- those that differ from it in their spelling alone
abbrev pub is_spelled : ℕ → List ℕ → List ℕ → Bool
is_spelled size spelling other =
    not (is_long size (length other)) && bytes_eq spelling (folded other)

-- ---- the documents that are open

abbrev pub is_at : EventPlace → Option EventPlace → Bool
is_at p None = false
is_at p (Some other) = p.event == other.event

-- the messages that opened documents last
abbrev pub last_openings : Terms → List Event → List OnDocument
last_openings terms before = last_ones most_openings (openings terms before)

-- this one opened a document that is open, and none of them opened it later
abbrev pub is_standing : Terms → List Event → OnDocument → Bool
is_standing terms before on =
    is_some (held terms on.uri (calls (kept_of terms before)))
    && is_at on.place (last_on on.uri (last_openings terms before))
