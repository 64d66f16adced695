-- The notes on messages, as they are held.
use Rattle.std.specs.Prelude.{List, Bool, if◌then◌else◌}
use Rattle.lsp_trail.specs.Common.{Event, Terms}
use Rattle.lsp_notes.specs.Refusals.{AreRefusals}
use Rattle.lsp_notes.specs.ServerEdits.{AreServerEdits}
use Rattle.lsp_notes.specs.Spellings.{AreSpellings}
use Rattle.lsp_notes.specs.declared.messages.MessageNotes.{MessageNotes}

-- the events of which it is noted what the server sends: no more where one broke a rule
abbrev pub served_with : Bool → List Event → List Event → List Event
served_with broken served events = if broken then served else events

-- **it is what these events leave of it**; of the second list it is noted what the server sends
pub record AreNoted (terms : Terms) (m : MessageNotes) (events served : List Event) : Type 0 where
  pub refusals : AreRefusals terms m.refusals events
  pub spellings : AreSpellings terms m.spellings events
  pub server : AreServerEdits terms m.server_edits served
