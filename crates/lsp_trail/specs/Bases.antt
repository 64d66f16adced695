-- From which text a document may have drifted, and what changed it since.
use Rattle.std.specs.Prelude.{◌≡◌, ℕ, ℤ, int_lt, ◌+◌, Bool, true, false, List, [], ◌∷◌, ◌++◌}
use Rattle.std.specs.Prelude.{filter, slice_get, if◌then◌else◌, Option, Some, None, is_some}
use Rattle.std.specs.Prelude.{option_and_then, option_map, option_to_list, ◌||◌, ◌⊎◌, IfNone}
use Rattle.std.specs.Prelude.{MatchBool, MatchOption, String}
use Rattle.std.specs.Global.{Global}
use Rattle.std.specs.List.{filter_map, find}
use Rattle.std.specs.Str.{bytes_eq}
use Rattle.lsp_replay.specs.Common.{Bytes, Call, calls, changes, Counted, Edit, Equal, Event}
use Rattle.lsp_replay.specs.Common.{has_number, held, is_at, kept_of, Match, past, Terms, uri_of}
use Rattle.lsp_replay.specs.Common.{Version}
use Rattle.lsp_docs.specs.Calls.{Text}
use Rattle.lsp_docs.specs.Documents.{opening}
use Rattle.lsp_docs.specs.Rules.{text_at}
use Rattle.lsp_docs.specs.Snapshots.{kept}
use Rattle.lsp_uris.specs.Held.{held_by}
use Rattle.lsp_trail.specs.History.{since_last}
use Rattle.lsp_trail.specs.Marking.{agreed, steps}
use Rattle.lsp_trail.specs.SentEdits.{SentEdits, are_few, edits_size, most_size, sent_edits}
use Rattle.lsp_trail.specs.SentEdits.{sents_view, total_size}
use Rattle.lsp_trail.specs.declared.mark.VersionEvent.{VersionEvent}
use Rattle.lsp_trail.specs.declared.base.Base.{Base}
use Rattle.lsp_trail.specs.declared.step.Step.{Step}
use Rattle.lsp_trail.specs.declared.step.Step.TheVariants.{Closes, Reaches, Shows}

-- ---- the text

-- the versions of the standing opening of this URI with their texts, the held one last
abbrev pub revisions : Terms → Bytes → List Call → List Version
revisions terms uri before =
    past terms uri before ++ option_to_list (held terms uri before)

-- the version at which a snapshot was equal, or else the first one
abbrev pub base_number : Option VersionEvent → List Version → Option ℤ
base_number (Some shown) all = Some shown.version
base_number None all = option_map (λ (v : Version). v.number) (slice_get all 0)

-- the first of these versions that has this number
abbrev pub numbered : List Version → ℤ → Option Version
numbered all number = find (is_at number) all

-- **the version from which a document may have drifted**, where these are its versions
abbrev pub base_in : Option VersionEvent → List Version → Option Version
base_in equal all = option_and_then (numbered all) (base_number equal all)

-- that of the document of this URI: the greatest at which a snapshot was equal in its standing
-- opening, or else the one that it was opened with
abbrev pub base_at : Terms → List Event → Bytes → Option Version
base_at terms before uri =
    base_in (agreed (steps terms uri before)) (revisions terms uri (calls (kept_of terms before)))

-- ---- the changes

-- those of a call that changes the document of this URI
abbrev pub sent_by : Bytes → Call → Option SentEdits
sent_by uri (changes enc kind u number cs) =
    if bytes_eq uri u then Some (sent_edits number cs) else None
sent_by uri _ = None

abbrev pub is_opening : Bytes → Call → Bool
is_opening uri call = is_some (opening uri call)

-- **the changes of a document since it was opened last**, message by message
abbrev pub sent_since : Bytes → List Call → List SentEdits
sent_since uri before = filter_map (sent_by uri) (since_last (is_opening uri) before)

-- it set a version after this one
abbrev pub is_later : ℤ → SentEdits → Bool
is_later number s = int_lt number s.number

abbrev pub later : ℤ → List SentEdits → List SentEdits
later number sent = filter (is_later number) sent

-- ---- as they are held

abbrev pub sent_in : Base → List SentEdits
sent_in b = sents_view b.sent.items

abbrev pub text_in : Base → Option Text
text_in b = option_map (λ (s : Counted). s.content) b.text

-- a snapshot may still be found equal at this version, where these versions are kept and held
abbrev pub MayBeEqual : Version → List Version → Version → ℤ → Type 0
MayBeEqual base kept v number =
    (int_lt number base.number ≡ false) × (has_number number kept (Some v) ≡ true)

-- **what is held of a document** that was changed so since it was opened, where this is its base:
-- the changes after a version, and the text of the base, if they are all that come after it.
-- Changes after the base are missing only if all of these are not few; likewise those after any
-- version at which a snapshot may still be found equal
pub record HoldsBase (base : Version) (kept : List Version) (v : Version) (all : List SentEdits)
    (b : Base) : Type 0 where
  pub few : are_few (sent_in b) ≡ true
  pub sent : sent_in b ≡ later b.since all
  pub within : int_lt v.number b.since ≡ false
  pub text : MatchOption (text_in b) (int_lt base.number b.since ≡ true)
      (λ t. (b.since ≡ base.number) × (t ≡ base.text))
  pub since_base : int_lt base.number b.since ≡ true → are_few (later base.number all) ≡ false
  pub since_others : (number : ℤ) → MayBeEqual base kept v number → int_lt number b.since ≡ true
      → are_few (later number all) ≡ false

-- nothing is held of it: the changes after the base are not few, and no earlier version is kept
pub record HoldsNothing (terms : Terms) (base : Version) (all : List SentEdits) : Type 0 where
  pub none_kept : terms.kept ≡ 0
  pub many : are_few (later base.number all) ≡ false

abbrev pub HoldsFrom : Terms → Version → List Version → Version → List SentEdits → Option Base
    → Type 0
HoldsFrom terms base kept v all None = HoldsNothing terms base all
HoldsFrom terms base kept v all (Some b) = HoldsBase base kept v all b

-- the same of an open document, where a snapshot was found equal so, and these are its versions
pub record HoldsOpen (terms : Terms) (equal : Option VersionEvent) (versions kept : List Version)
    (v : Version) (all : List SentEdits) (b : Option Base) : Type 0 where
  pub base : Version
  pub is : base_in equal versions ≡ Some base
  pub within : int_lt v.number base.number ≡ false
  pub holds : HoldsFrom terms base kept v all b

-- and of one that may be closed
abbrev pub HoldsAny : Terms → Option VersionEvent → List Version → List Version → Option Version
    → List SentEdits → Option Base → Type 0
HoldsAny terms equal versions kept None all b = (equal ≡ None) × (b ≡ None)
HoldsAny terms equal versions kept (Some v) all b = HoldsOpen terms equal versions kept v all b

-- of the document of a URI after these calls
abbrev pub HoldsAfter : Terms → Bytes → List Call → Option VersionEvent → Option Base → Type 0
HoldsAfter terms uri before equal b =
    HoldsAny terms equal (revisions terms uri before) (kept terms uri before)
    (held terms uri before) (sent_since uri before) b

abbrev pub held_of : List (String Global × Base) → Bytes → Option Base
held_of es uri = held_by (λ b. b) es uri

-- **what is held of each document is what these events left of it**
abbrev pub AreBases : Terms → List (String Global × Base) → List Event → Type 0
AreBases terms es events =
    (uri : Bytes) → HoldsAfter terms uri (calls (kept_of terms events))
    (agreed (steps terms uri events)) (held_of es uri)

-- ---- with one call more: one document

-- a text of this version, in which nothing was changed
pub record IsNewBase (number : ℤ) (t : Text) (b : Base) : Type 0 where
  pub since : b.since ≡ number
  pub text : text_in b ≡ Some t
  pub sent : sent_in b ≡ []

-- the text of this version, and those of the changes that come after it
pub record Begins (number : ℤ) (t : Text) (old new : Base) : Type 0 where
  pub since : new.since ≡ number
  pub text : text_in new ≡ Some t
  pub sent : sent_in new ≡ later number (sent_in old)

-- the same, unless some of these changes are no longer held
pub record BeginsAt (number : ℤ) (t : Text) (old new : Base) : Type 0 where
  pub stays : int_lt number old.since ≡ true → new ≡ old
  pub begins : int_lt number old.since ≡ false → Begins number t old new

-- with these changes behind the others
pub record HoldsMore (more : SentEdits) (old new : Base) : Type 0 where
  pub since : new.since ≡ old.since
  pub text : text_in new ≡ text_in old
  pub sent : sent_in new ≡ sent_in old ++ more ∷ []

-- without the text and the first message
pub record DropsFirst (old new : Base) : Type 0 where
  pub first : SentEdits
  pub all : sent_in old ≡ first ∷ sent_in new
  pub since : new.since ≡ first.number
  pub text : text_in new ≡ None

-- without the text and the first messages, up to one with which they are not few, where these
-- changes are added
pub record LetsGo (edits : List Edit) (old new : Base) : Type 0 where
  pub front : List SentEdits
  pub last : SentEdits
  pub all : sent_in old ≡ front ++ last ∷ sent_in new
  pub many : (number : ℤ) → are_few (last ∷ sent_in new ++ sent_edits number edits ∷ []) ≡ false
  pub since : new.since ≡ last.number
  pub text : text_in new ≡ None

-- how much room is left behind these messages by those changes of one more, if they are few with it
abbrev pub IsRoom : List SentEdits → SentEdits → Option ℕ → Type 0
IsRoom sent more room =
    MatchOption room (are_few (sent ++ more ∷ []) ≡ false)
    (λ left. (are_few (sent ++ more ∷ []) ≡ true)
    × (left + (edits_size more.edits + total_size sent) ≡ most_size))

-- so much room is left for these changes: messages were let go of, until they were few with them,
-- or none was held any longer
pub record LeavesRoom (edits : List Edit) (room : Option ℕ) (old new : Base) : Type 0 where
  pub how : (new ≡ old) ⊎ LetsGo edits old new
  pub is : (number : ℤ) → IsRoom (sent_in new) (sent_edits number edits) room
  pub none : IfNone room (sent_in new ≡ [])

-- the same with those of a message behind the others, without the text and the first ones: up to
-- one with which they are not few
pub record Outgrows (more : SentEdits) (old new : Base) : Type 0 where
  pub front : List SentEdits
  pub last : SentEdits
  pub all : sent_in old ++ more ∷ [] ≡ front ++ last ∷ sent_in new
  pub many : are_few (last ∷ sent_in new) ≡ false
  pub since : new.since ≡ last.number
  pub text : text_in new ≡ None

-- with the changes of a message, without others if there is no room for all
pub record AddsTo (more : SentEdits) (old new : Base) : Type 0 where
  pub few : are_few (sent_in new) ≡ true
  pub how : HoldsMore more old new ⊎ Outgrows more old new

-- ---- with one call more: by URI

-- what is held of this URI becomes something else, and of all others it stays
pub record ChangesOne (uri : Bytes) (How : Option Base → Option Base → Type 0)
    (old new : List (String Global × Base)) : Type 0 where
  pub own : How (held_of old uri) (held_of new uri)
  pub others : (u : Bytes) → bytes_eq uri u ≡ false → held_of new u ≡ held_of old u

abbrev pub BegunBy : ℤ → Text → Option Base → Option Base → Type 0
BegunBy number t None new = (b : Base) × (new ≡ Some b) × IsNewBase number t b
BegunBy number t (Some old) new = (b : Base) × (new ≡ Some b) × BeginsAt number t old b

-- it is told where the text is held no longer
abbrev pub AddedAt : SentEdits → Bool → Option Base → Option Base → Type 0
AddedAt more lost None new = ⊥
AddedAt more lost (Some old) new =
    (b : Base) × AddsTo more old b × (new ≡ Some b) × (lost ≡ true → text_in b ≡ None)

-- nothing is held any longer, where no version is kept
abbrev pub ClosedBy : List Version → Option Base → Option Base → Type 0
ClosedBy kept old new = (new ≡ old) ⊎ ((new ≡ None) × (kept ≡ []))

-- this becomes of what is held, or nothing is held any longer, where no version is kept
abbrev pub AddedBy : SentEdits → List Version → Option Base → Option Base → Type 0
AddedBy more kept None new = new ≡ None
AddedBy more kept (Some old) new =
    (b : Base) × AddsTo more old b
    × ((new ≡ Some b) ⊎ ((new ≡ None) × (text_in b ≡ None) × (kept ≡ [])))

abbrev pub Begun : Terms → List Call → Bytes → ℤ → List (String Global × Base)
    → List (String Global × Base) → Type 0
Begun terms after uri number old new =
    (t : Text) → text_at number (kept terms uri after) (held terms uri after) ≡ Some t
    → ChangesOne uri (BegunBy number t) old new

-- a snapshot of this version, where it is compared, or waits
abbrev pub ShownBy : Terms → List Call → Bytes → ℤ → Match → List (String Global × Base)
    → List (String Global × Base) → Type 0
ShownBy terms after uri number Equal old new = Begun terms after uri number old new
ShownBy terms after uri number answer old new = new ≡ old

-- what a step makes of what is held, where these are the calls up to the one that does it: by it a
-- snapshot is found equal or not
abbrev pub KeepsBy : Terms → List Call → Call → Step → Bool → List (String Global × Base)
    → List (String Global × Base) → Type 0
KeepsBy terms after call (Reaches number first) equal old new =
    MatchBool (first || equal) (Begun terms after (uri_of call) number old new)
    ((more : SentEdits) → sent_by (uri_of call) call ≡ Some more
    → ChangesOne (uri_of call) (AddedBy more (kept terms (uri_of call) after)) old new)
KeepsBy terms after call Closes equal old new = ChangesOne (uri_of call) (λ o n. n ≡ None) old new
KeepsBy terms after call (Shows number answer) equal old new =
    ShownBy terms after (uri_of call) number answer old new
