-- What a session is made of, in the editor's order: messages, faults of a side, and snapshots.
use Rattle.std.specs.Prelude.{ℤ, List, ℕ, Option, Some, None, map, option_map, unwrap_or, chars}
use Rattle.std.specs.List.{filter_map}
use Rattle.lsp_types.specs.declared.side.Side.{Side}
use Rattle.lsp_types.specs.declared.position.Encoding.{Encoding}
use Rattle.lsp_types.specs.declared.position.Encoding.TheVariants.{Utf16}
use Rattle.lsp_types.specs.declared.change.SyncKind.{SyncKind}
use Rattle.lsp_types.specs.declared.change.SyncKind.TheVariants.{Nothing}
use Rattle.lsp_session.specs.Sent.{Sent}
use Rattle.lsp_session.specs.Negotiation.{encoding, sync_kind}
use Rattle.lsp_rpc.specs.Act as act
use Rattle.lsp_rpc.specs.Act.{Act, did_open, did_change, did_close, did_save}
use Rattle.lsp_text.specs.Edits.{Edit}
use Rattle.lsp_docs.specs.Calls.{Call, opens, changes, closes, saves, shows}
use Rattle.lsp_verdict.specs.LookBack.{each_of}

-- a message, with its side and what it means; a side's frame or content that breaks this rule; a
-- snapshot of a URI, a version and a text. A URI is the bytes of its UTF-8, a text its characters
pub data Event : Type 0 where
  message : Sent → Event
  fault : Side → ℕ → Event
  snapshot : List ℕ → ℤ → List ℕ → Event

abbrev pub sent_of : Event → Option Sent
sent_of (message m) = Some m
sent_of _ = None

-- the messages among the events
abbrev pub sent_in : List Event → List Sent
sent_in events = filter_map sent_of events

-- ---- what they say about documents

-- a change, with the characters of its text
abbrev pub edit_of : act.Change → Edit
edit_of change = record {
  span = change.span;
  range_length = change.range_length;
  text = chars change.text;
}

-- what an act says about a document, under this encoding and kind
abbrev pub call_of : Encoding → SyncKind → Act → Option Call
call_of enc kind (did_open uri number text) = Some (opens uri number (chars text))
call_of enc kind (did_change uri number edits) = Some (changes enc kind uri number (map edit_of edits))
call_of enc kind (did_close uri) = Some (closes uri)
call_of enc kind (did_save uri text) = Some (saves uri (option_map chars text))
call_of _ _ _ = None

-- what an event says about a document, under what was agreed before it
abbrev pub call_at : List Event → Event → Option Call
call_at before (message m) = call_of (unwrap_or (encoding (sent_in before)) Utf16) (unwrap_or (sync_kind (sent_in before)) Nothing) m.act
call_at before (snapshot uri number text) = Some (shows uri number text)
call_at before (fault side rule) = None

-- what the events say about documents, in order
abbrev pub calls : List Event → List Call
calls events = each_of call_at events
