-- What is kept of the events of a session on the way.
use Rattle.std.specs.Prelude.{[], ◌++◌, List, Option, unwrap_or}
use Rattle.std.specs.List.{cons_option}
use Rattle.lsp_replay.specs.Common.{Encoding, encoding, Event, Holds, kept_of, sent_in, Terms}
use Rattle.lsp_replay.specs.Common.{Utf16}
use Rattle.lsp_trail.specs.Bases.{AreBases}
use Rattle.lsp_trail.specs.History.{KeptCall}
use Rattle.lsp_trail.specs.Marking.{AreMarks, MarkedBy}
use Rattle.lsp_trail.specs.Openings.{AreOpenings, OpenedBy}
use Rattle.lsp_trail.specs.Saves.{AreSaves}
use Rattle.lsp_trail.specs.Uncompared.{AreUncompared}
use Rattle.lsp_trail.specs.LastChange.{IsLastChange}
use Rattle.lsp_trail.specs.Conversations.{IsConversation}
use Rattle.lsp_trail.specs.declared.marks.Marks.{Marks}
use Rattle.lsp_trail.specs.declared.openings.Openings.{Openings}
use Rattle.lsp_trail.specs.declared.trail.Trail.{Trail}
use Rattle.lsp_trail.specs.declared.trail.Past.{Past}

-- ---- what is kept

-- **the trail is what these events left**
pub record IsTrail (terms : Terms) (t : Trail) (events : List Event) : Type 0 where
  pub marked : AreMarks terms t.marks.map.entries events
  pub opened : AreOpenings terms t.openings events
  pub based : AreBases terms t.bases.map.entries events
  pub changed : IsLastChange terms t.last_change events
  pub saved : AreSaves terms t.saves events
  pub shown : AreUncompared terms t.uncompared.map.entries events
  pub said : IsConversation terms t.said events

-- with one more kept call, or none
pub record Keeps (more : Option KeptCall) (marks : Marks) (openings : Openings) (next : Marks)
    (behind : Openings) : Type 0 where
  pub marked : (calls : List KeptCall) → MarkedBy marks.map.entries calls
      → MarkedBy next.map.entries (calls ++ cons_option more [])
  pub opened : (calls : List KeptCall) → OpenedBy openings calls
      → OpenedBy behind (calls ++ cons_option more [])

-- ---- for which events it stands, where each that offends is skipped

-- the terms of its log
abbrev pub terms_in : Past → Terms
terms_in p = p.held.now.docs.terms

-- **what is held, and the trail, are the result of these events**
pub record StandsAfter (p : Past) (before : List Event) : Type 0 where
  pub holds : Holds p.held.now.session p.held.now.docs (kept_of (terms_in p) before)
  pub trail : IsTrail (terms_in p) p.trail.now before

-- the encoding that was agreed
abbrev pub agreed_encoding : List Event → Encoding
agreed_encoding kept = unwrap_or (encoding (sent_in kept)) Utf16
