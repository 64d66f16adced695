-- What is kept of requests and phases, and for which messages it stands.
use Rattle.std.specs.Prelude.{◌≡◌, Bool, List, ◌++◌, map, Option, Some, None, if◌then◌else◌}
use Rattle.std.specs.Prelude.{unwrap_or, option_to_list}
use Rattle.std.specs.Option.{option_or}
use Rattle.lsp_replay.specs.Common.{answered_from, Event, Id, id_view, Ident, Message, Phase, phase}
use Rattle.lsp_replay.specs.Common.{same_id, Side, Terms}
use Rattle.lsp_types.specs.declared.side.Side.TheVariants.{Editor, Server}
use Rattle.lsp_uris.specs.Held.{asked_in}
use Rattle.lsp_trail.specs.Asking.{Numbered, Reply, asks, asked, replies, reply_of}
use Rattle.lsp_trail.specs.Asking.{most_replies, leads, numbered, sents, since}
use Rattle.lsp_trail.specs.History.{last_ones}
use Rattle.lsp_trail.specs.SessionNotes.{AreNotes, NotesBy}
use Rattle.lsp_trail.specs.Renames.{AreRenames}
use Rattle.lsp_trail.specs.declared.asked.AskedRequests.{AskedRequests}
use Rattle.lsp_trail.specs.declared.asked.RequestEvent.{RequestEvent}
use Rattle.lsp_trail.specs.declared.exchange.Exchange.{Exchange}
use Rattle.lsp_replay.specs.declared.heard.EventPlace.{EventPlace}
use Rattle.lsp_trail.specs.declared.conversation.Conversation.{Conversation}

-- ---- the requests of one side

abbrev pub given_view : RequestEvent → Reply
given_view g = record { id = id_view g.id; place = g.place }

-- the place of the request that was asked last, if it has this id
abbrev pub last_at : Option RequestEvent → Ident → Option EventPlace
last_at None id = None
last_at (Some a) id = if same_id (id_view a.id) id then Some a.place else None

-- the place of an open request
abbrev pub place_in : AskedRequests → Ident → Option EventPlace
place_in a id = option_or (last_at a.last id) (asked_in a.others.entries id)

abbrev pub replies_in : Exchange → List Reply
replies_in e = map given_view e.replies.items

-- one more message of the sender, the event of this place
pub record Exchanges (side : Side) (p : EventPlace) (sender : Side) (m : Message)
    (old new : Exchange) : Type
    0 where
  pub asked : (k : Id) → place_in new.asked (id_view k)
      ≡ unwrap_or (asks side (id_view k) p sender m) (place_in old.asked (id_view k))
  pub replies : (given : List Reply) → replies_in old ≡ last_ones most_replies given
      → replies_in new ≡ last_ones most_replies
      (given ++ option_to_list (reply_of p (answered_from side sender m)))

-- what is kept of the side's requests is what these messages left of it
pub record IsExchange (side : Side) (e : Exchange) (said : List Numbered) : Type 0 where
  pub asked_is : (k : Id) → place_in e.asked (id_view k) ≡ asked side (id_view k) said
  pub replies_are : replies_in e ≡ last_ones most_replies (replies side said)

-- ---- a session

-- **it stands for these messages**
pub record SessionStands (s : Conversation) (said : List Numbered) : Type 0 where
  pub editor : IsExchange Editor s.editor said
  pub server : IsExchange Server s.server said
  pub phase_is : s.phase ≡ phase (sents said)
  pub since_is : s.since ≡ since said
  pub notes_are : AreNotes s.notes said
  pub renames_are : AreRenames s.renames said

-- one more message of the sender, the event of this place, after which the session is in this
-- phase, and the handshake is settled or is not
pub record Says (p : EventPlace) (sender : Side) (m : Message) (after : Phase) (done : Bool)
    (old new : Conversation) : Type 0 where
  pub editor : Exchanges Editor p sender m old.editor new.editor
  pub server : Exchanges Server p sender m old.server new.server
  pub phase_is : new.phase ≡ after
  pub since_is : new.since ≡ unwrap_or (leads p old.phase after) old.since
  pub notes_more : NotesBy p sender m old.phase after done old.notes new.notes

-- **they stand for the kept messages of these events**
abbrev pub IsConversation : Terms → Conversation → List Event → Type 0
IsConversation terms s events = SessionStands s (numbered terms events)
