-- What the notes say of the messages of a session.
use Rattle.std.specs.Prelude.{ℕ, List, [], ◌∷◌, map, if◌then◌else◌, Option, Some, None, ◌++◌, Bool}
use Rattle.std.specs.Prelude.{option_and_then, option_map, string_bytes, ◌≡◌, ◌&&◌, ◌||◌, not}
use Rattle.std.specs.Prelude.{codes, unwrap_or}
use Rattle.std.specs.Str.{bytes_eq}
use Rattle.std.specs.List.{filter_map, list_any}
use Rattle.lsp_replay.specs.Common.{each_of, first_settled, is_done, last_or, Message, notification}
use Rattle.lsp_replay.specs.Common.{Phase, phase, request, required, response, Sent, Side}
use Rattle.lsp_types.specs.declared.side.Side.TheVariants.{Editor, Server}
use Rattle.lsp_replay.specs.declared.heard.EventPlace.{EventPlace}
use Rattle.serde_json.specs.Data.{Data}
use Rattle.serde_json.specs.Find.{as_str}
use Rattle.lsp_session.specs.Handshake.{result_of}
use Rattle.lsp_session.specs.declared.phase.Phase.TheVariants.{Stopping, Exited}
use Rattle.lsp_trail.specs.declared.standard_methods.MethodUse.{MethodUse}
use Rattle.lsp_trail.specs.Asking.{Numbered, same_phase, sents}
use Rattle.lsp_trail.specs.StandardMethods.{use_of}
use Rattle.lsp_trail.specs.declared.misuses.Misuse.{Misuse}
use Rattle.lsp_trail.specs.declared.misuses.Misuse.TheVariants.{AsRequest, AsNotification}
use Rattle.lsp_trail.specs.declared.misuses.Misuse.TheVariants.{ByEditor, ByServer}
use Rattle.lsp_trail.specs.declared.misuses.Misused as code
use Rattle.lsp_trail.specs.declared.standard_methods.MethodUse.TheVariants as uses
use Rattle.lsp_trail.specs.declared.notes.Notes.{Notes}

-- ---- a call that is misused

-- a call that this side sends in LSP 3.17, and that side did
abbrev pub sent_by : Side → Side → Option Misuse
sent_by Server Editor = Some ByEditor
sent_by Editor Server = Some ByServer
sent_by by side = None

abbrev pub as_request : Side → MethodUse → Option Misuse
as_request side (uses.Request by) = sent_by by side
as_request side other = Some AsRequest

abbrev pub as_notification : Side → MethodUse → Option Misuse
as_notification side (uses.Notification by) = sent_by by side
as_notification side uses.Shared = None
as_notification side (uses.Request by) = Some AsNotification

abbrev pub request_misuse : Side → List ℕ → Option Misuse
request_misuse side name = option_and_then (as_request side) (use_of name)

abbrev pub notification_misuse : Side → List ℕ → Option Misuse
notification_misuse side name = option_and_then (as_notification side) (use_of name)

-- a call of this method, the event of this place, that was sent in another way than LSP 3.17 has
-- it
pub record Misused : Type 0 where
  pub misuse : Misuse
  pub method : List ℕ
  pub place : EventPlace

abbrev pub misused : EventPlace → List ℕ → Misuse → Misused
misused p name misuse = record { misuse = misuse; method = name; place = p }

-- the misuse that a message of the side is; of no method that LSP 3.17 does not have
abbrev pub misuse_in : EventPlace → Side → Message → Option Misused
misuse_in p side (request id name params) = option_map (misused p name) (request_misuse side name)
misuse_in p side (notification name params) =
    option_map (misused p name) (notification_misuse side name)
misuse_in p side (response id reply) = None

abbrev pub misuse_at : Numbered → Option Misused
misuse_at m = misuse_in m.place m.sent.side m.sent.message

-- ---- all such calls

-- one of these has the method
abbrev pub has_method : List ℕ → List Misused → Bool
has_method name found = list_any (λ (x : Misused). bytes_eq x.method name) found

-- after these one more, where its method is new
abbrev pub with_misuse : List Misused → Option Misused → List Misused
with_misuse found None = found
with_misuse found (Some x) = if has_method x.method found then found else found ++ x ∷ []

-- after those found, the first of these of each other method
abbrev pub misuses_after : List Misused → List Misused → List Misused
misuses_after found [] = found
misuses_after found (x ∷ xs) = misuses_after (with_misuse found (Some x)) xs

-- **the calls that LSP 3.17 has in another way than they were sent**, of each method the first
abbrev pub misuses : List Numbered → List Misused
misuses said = misuses_after [] (filter_map misuse_at said)

-- ---- such calls as they are held

abbrev pub misused_view : code.Misused → Misused
misused_view x = record {
  misuse = x.misuse;
  method = string_bytes x.method;
  place = x.place;
}

abbrev pub misused_views : List code.Misused → List Misused
misused_views found = map misused_view found

-- ---- `exit` without `shutdown`

-- the session has exited, and was not told to shut down before
abbrev pub is_abrupt : Phase → Phase → Bool
is_abrupt before after =
    same_phase after Exited && not (same_phase before Exited || same_phase before Stopping)

-- the message of this place leads from one phase to the other
abbrev pub abrupt : EventPlace → Phase → Phase → Option (Option EventPlace)
abrupt p before after = if is_abrupt before after then Some (Some p) else None

abbrev pub abrupt_by : List Numbered → Numbered → Option (Option EventPlace)
abrupt_by before m = abrupt m.place (phase (sents before)) (phase (sents (before ++ m ∷ [])))

-- **the event of the `exit` without a `shutdown` before it**
abbrev pub abrupt_exit : List Numbered → Option EventPlace
abrupt_exit said = last_or None (each_of abrupt_by said)

-- ---- the encoding that was agreed in an older way

-- the text of the member `offsetEncoding` of a result
abbrev pub older_in : Data → Option (List ℕ)
older_in d = required (codes "offsetEncoding") as_str d

-- **the encoding that the answer to `initialize` names in the older way**, which LSP 3.17 does not
-- have
abbrev pub older_encoding : List Sent → Option (List ℕ)
older_encoding before = option_and_then (λ s. older_in s.value) (first_settled before)

-- ---- all notes as they are held

-- what a message answers names an encoding so
abbrev pub older_of : Message → Option (List ℕ)
older_of said = option_and_then older_in (result_of said)

abbrev pub older_held : Notes → Option (List ℕ)
older_held r = option_map string_bytes r.older_encoding

-- **it is what these messages left of it**
pub record AreNotes (r : Notes) (said : List Numbered) : Type 0 where
  pub misuses_are : misused_views r.misuses.items ≡ misuses said
  pub abrupt_is : r.abrupt_exit ≡ abrupt_exit said
  pub done_is : r.is_done ≡ is_done (sents said)
  pub older_is : older_held r ≡ older_encoding (sents said)

-- one more message of the sender, the event of this place, before and after which the session is
-- in these phases, and after which the handshake is settled or is not
pub record NotesBy (p : EventPlace) (sender : Side) (m : Message) (before after : Phase)
    (done : Bool)
    (old new : Notes) : Type 0 where
  pub misuses_are : misused_views new.misuses.items
      ≡ with_misuse (misused_views old.misuses.items) (misuse_in p sender m)
  pub abrupt_is : new.abrupt_exit ≡ unwrap_or (abrupt p before after) old.abrupt_exit
  pub done_is : new.is_done ≡ done
  pub older_is : older_held new
      ≡ (if not old.is_done && done then older_of m else older_held old)
