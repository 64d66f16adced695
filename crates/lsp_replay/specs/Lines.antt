-- The places of events, and the lines that show them.
use Rattle.std.specs.Prelude.{List, ◌+◌, length, ℕ, [], ◌∷◌, ◌++◌, Option, Some, None, unwrap_or}
use Rattle.std.specs.List.{flat_map}
use Rattle.lsp_docs.specs.State.{capped}
use Rattle.lsp_verdict.specs.Event.{Event}
use Rattle.lsp_verdict.specs.Verdict.{belongs_to, count_of, whose}
use Rattle.lsp_verdict.specs.declared.verdict.Who.{Who}
use Rattle.lsp_verdict.specs.declared.lines.Lines.{Lines}
use Rattle.lsp_verdict.specs.Heard.{Heard, heard_events}
use Rattle.lsp_verdict.specs.Shown.{line_at}
use Rattle.lsp_replay.specs.declared.heard.EventPlace.{EventPlace}

-- ---- the places of events

-- the place of the event of theirs that comes after these, as far as 64 bits tell it
abbrev pub place_next : List Event → Who → EventPlace
place_next before by = record {
  event = capped (length before + 1);
  who = by;
  number = capped (count_of (belongs_to by) before + 1);
}

-- **the place of the event that comes after these**: its number among all, whose it is, and its
-- number among theirs
abbrev pub place_of : List Event → Event → EventPlace
place_of before event = place_next before (whose event)

-- ---- the lines that show events, and their words

-- the line of an event after these, empty for a fault
abbrev pub heard_line : Lines → List Heard → Heard → List ℕ
heard_line lines before h = unwrap_or (line_at lines (heard_events before) h.note.event) []

-- the same, where such lines are shown
abbrev pub shown_line : Option Lines → List Heard → Heard → List ℕ
shown_line None before h = []
shown_line (Some lines) before h = heard_line lines before h

-- each word after a space
abbrev pub spaced : List (List ℕ) → List ℕ
spaced words = flat_map (λ word. 32 ∷ word) words

-- words with a space between each two
abbrev pub row : List (List ℕ) → List ℕ
row [] = []
row (word ∷ words) = word ++ spaced words
