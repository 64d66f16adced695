-- Which document was opened or changed under a URI that it lost when its file was renamed.
use Rattle.std.specs.Prelude.{◌≡◌, ◌&&◌, ◌||◌, ℕ, List, [], ◌++◌, map, Bool, true, false}
use Rattle.std.specs.Prelude.{if◌then◌else◌, Option, Some, None, option_map, option_and_then, codes}
use Rattle.std.specs.Prelude.{string_bytes, unwrap_or}
use Rattle.std.specs.List.{flat_map}
use Rattle.std.specs.Option.{option_or}
use Rattle.std.specs.Str.{bytes_eq}
use Rattle.serde_json.specs.Data.{Data, Items}
use Rattle.serde_json.specs.Find.{as_array, as_str}
use Rattle.lsp_replay.specs.Common.{all_of, both, Call, call_at, changes, first_of, Message}
use Rattle.lsp_replay.specs.Common.{message, notification, opens, outline, request, required}
use Rattle.lsp_replay.specs.Common.{response, Side, uri_of}
use Rattle.lsp_rpc.specs.Reading.{Reads}
use Rattle.lsp_types.specs.declared.side.Side.TheVariants.{Editor, Server}
use Rattle.lsp_replay.specs.declared.heard.EventPlace.{EventPlace}
use Rattle.lsp_trail.specs.Asking.{Numbered, sents}
use Rattle.lsp_trail.specs.History.{OnDocument, on_document, last_ones, last_that}
use Rattle.lsp_trail.specs.Openings.{on_view}
use Rattle.lsp_trail.specs.declared.renames.Move as held
use Rattle.lsp_trail.specs.declared.renames.Renames.{Renames}

-- ---- what the editor says of files

-- the file of this URI is gone, since it was renamed; or there is one
pub record Move : Type 0 where
  pub uri : List ℕ
  pub is_gone : Bool

abbrev pub move : Bool → List ℕ → Move
move gone uri = record { uri = uri; is_gone = gone }

abbrev pub each_move : Bool → List (List ℕ) → List Move
each_move gone uris = map (move gone) uris

-- the files that params list
abbrev pub files_in : Data → Option Items
files_in params = required (codes "files") as_array params

-- the member of this name of each file, where every file has it
abbrev pub uris_at : List ℕ → Data → Option (List (List ℕ))
uris_at name params = option_and_then (all_of (required name as_str)) (files_in params)

-- files of these URIs got those
abbrev pub renames : List (List ℕ) → List (List ℕ) → List Move
renames olds news = each_move true olds ++ each_move false news

abbrev pub renames_in : Data → Option (List Move)
renames_in params =
    both renames (uris_at (codes "oldUri") params) (uris_at (codes "newUri") params)

abbrev pub creations_in : Data → Option (List Move)
creations_in params = option_map (each_move false) (uris_at (codes "uri") params)

-- by a notification of this method with these params; of another shape they say nothing
abbrev pub moves_of : List ℕ → Data → Option (List Move)
moves_of method params =
    if bytes_eq method (codes "workspace/didRenameFiles") then renames_in params
    else (if bytes_eq method (codes "workspace/didCreateFiles") then creations_in params
    else None)

abbrev pub or_none : Option (List Move) → List Move
or_none moved = unwrap_or moved []

abbrev pub moves_in : Message → List Move
moves_in (notification method params) = or_none (option_and_then (moves_of method) params)
moves_in _ = []

-- only the editor says it
abbrev pub moves_by : Side → Message → List Move
moves_by Editor m = moves_in m
moves_by Server m = []

abbrev pub moves_at : Numbered → List Move
moves_at m = moves_by m.sent.side m.sent.message

-- **what the kept messages say of files**, in order
abbrev pub moves : List Numbered → List Move
moves said = flat_map moves_at said

-- how many of the last ones are looked at
abbrev pub most_moves : ℕ
most_moves = 128

abbrev pub recent_moves : List Numbered → List Move
recent_moves said = last_ones most_moves (moves said)

-- ---- a URI that is gone

abbrev pub is_of : List ℕ → Move → Bool
is_of uri m = bytes_eq m.uri uri

-- **the file of this URI was renamed**, and none has the URI since
abbrev pub is_gone : List ℕ → List Move → Bool
is_gone uri moved =
    unwrap_or (option_map (λ (m : Move). m.is_gone) (last_that (is_of uri) moved)) false

-- ---- a message about a document of such a URI

-- a call that opens or changes its document
abbrev pub is_edit : Call → Bool
is_edit (opens uri version text) = true
is_edit (changes enc kind uri version edits) = true
is_edit _ = false

abbrev pub renamed_by : EventPlace → List Move → Call → Option OnDocument
renamed_by p moved call =
    if is_edit call && is_gone (uri_of call) moved then Some (on_document (uri_of call) p) else None

-- what a message says about a document, under what was agreed before it
abbrev pub call_by : List Numbered → Numbered → Option Call
call_by before m = call_at (map message (sents before)) (message m.sent)

abbrev pub renamed_at : List Numbered → Numbered → Option OnDocument
renamed_at before m =
    option_and_then (renamed_by m.place (recent_moves before)) (call_by before m)

-- **the first message that opens or changes a document under a URI that is gone**
abbrev pub renamed : List Numbered → Option OnDocument
renamed said = first_of renamed_at said

-- ---- as it is held

abbrev pub move_view : held.Move → Move
move_view m = record { uri = string_bytes m.uri; is_gone = m.is_gone }

abbrev pub moves_view : List held.Move → List Move
moves_view moved = map move_view moved

abbrev pub renamed_held : Renames → Option OnDocument
renamed_held r = option_map on_view r.renamed

-- these more are held, of which the last ones stay
abbrev pub Moves : List Move → List held.Move → List held.Move → Type 0
Moves more old new =
    (before : List Move) → moves_view old ≡ last_ones most_moves before
    → moves_view new ≡ last_ones most_moves (before ++ more)

-- one more message of the sender, the event of this place, which says this about a document
pub record RenamesBy (p : EventPlace) (sender : Side) (m : Message) (said : Option Call)
    (old new : Renames) : Type 0 where
  pub moves : Moves (moves_by sender m) old.moves.items new.moves.items
  pub renamed : renamed_held new ≡ option_or (renamed_held old)
      (option_and_then (renamed_by p (moves_view old.moves.items)) said)

-- the same of a message that a content is, of which this was heard
abbrev pub RenamesIn : EventPlace → Side → List ℕ → Message → Option Call → Renames → Renames
    → Type 0
RenamesIn p sender bytes heard said old new =
    (m : Message) → Reads bytes m → outline m ≡ outline heard
    → RenamesBy p sender m said old new

-- **it is what these messages left of it**
pub record AreRenames (r : Renames) (said : List Numbered) : Type 0 where
  pub moves_are : moves_view r.moves.items ≡ recent_moves said
  pub renamed_is : renamed_held r ≡ renamed said

-- ---- the methods that are read again

-- the notification has one of these two methods, or the message is such a notification of the
-- editor's
abbrev pub is_on_files : List ℕ → Bool
is_on_files method =
    bytes_eq method (codes "workspace/didRenameFiles")
    || bytes_eq method (codes "workspace/didCreateFiles")

abbrev pub notifies_files : Message → Bool
notifies_files (notification method params) = is_on_files method
notifies_files _ = false

abbrev pub tells_files : Side → Message → Bool
tells_files Editor m = notifies_files m
tells_files Server m = false
