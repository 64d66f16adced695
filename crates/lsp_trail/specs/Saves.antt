-- Which messages saved a document that was not open.
use Rattle.std.specs.Prelude.{◌≡◌, ℕ, List, Option, None, option_and_then, option_map}
use Rattle.lsp_replay.specs.Common.{Call, call_at, calls, Event, saves, Terms}
use Rattle.lsp_replay.specs.declared.heard.EventPlace.{EventPlace}
use Rattle.lsp_trail.specs.History.{OnDocument, each_kept, last_ones, on_document}
use Rattle.lsp_trail.specs.Naming.{if_unopened}
use Rattle.lsp_trail.specs.Openings.{last_on, ons_view}
use Rattle.lsp_trail.specs.declared.saves.Saves as code

-- the document that a call saves, if it is not open after these
abbrev pub unopened_save : Terms → List Call → Call → Option (List ℕ)
unopened_save terms before (saves uri text) = if_unopened terms before uri
unopened_save terms before _ = None

-- such a call, the event of this place
abbrev pub save_by : Terms → List Call → EventPlace → Call → Option OnDocument
save_by terms before p call =
    option_map (λ uri. on_document uri p) (unopened_save terms before call)

abbrev pub event_save : Terms → EventPlace → List Event → Event → Option OnDocument
event_save terms p before event =
    option_and_then (save_by terms (calls before) p) (call_at before event)

-- **the messages that are kept and save documents that are not open**, in order
abbrev pub saves_unopened : Terms → List Event → List OnDocument
saves_unopened terms events = each_kept (event_save terms) terms events

-- how many of the last ones are looked at
abbrev pub most_saves : ℕ
most_saves = 64

-- **the last of them that saved the document of this URI**
abbrev pub saved_unopened : Terms → List Event → List ℕ → Option EventPlace
saved_unopened terms events uri = last_on uri (last_ones most_saves (saves_unopened terms events))

-- ---- as they are held

abbrev pub AreSaves : Terms → code.Saves → List Event → Type 0
AreSaves terms s events =
    ons_view s.saved.items ≡ last_ones most_saves (saves_unopened terms events)
