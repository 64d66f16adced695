-- What documents and queues of snapshots hold, apart from where it lies in memory.
use Rattle.std.specs.Prelude.{◌≡◌, ℕ, ℤ, int_lt, not, Bool, false, if◌then◌else◌, List, []}
use Rattle.std.specs.Prelude.{◌∷◌, ◌++◌, map, length, string_bytes, String, Option, Some, None}
use Rattle.std.specs.Prelude.{Result, Ok}
use Rattle.std.specs.Global.{Global}
use Rattle.std.specs.List.{list_any}
use Rattle.std.specs.Str.{chars}
use Rattle.lsp_types.specs.declared.line_ends.LineEnds.{LineEnds}
use Rattle.lsp_types.specs.declared.line_ends.LineEnds.TheVariants.{Exact, Ignored}
use Rattle.lsp_text.specs.SameText.{same_text}
use Rattle.lsp_docs.specs.Calls.{Text, Bytes, Call}
use Rattle.lsp_docs.specs.Documents.{Version, versioned, Held, held}
use Rattle.lsp_docs.specs.State.{Queue, KeepsOn, held_in, set_in, State, Stands}
use Rattle.lsp_docs.specs.Snapshots.{kept, is_ahead, has_number}
use Rattle.lsp_docs.specs.declared.snapshot.Match.{Match}
use Rattle.lsp_docs.specs.declared.snapshot.Match.TheVariants.{Equal, Waits, Missed}

-- ---- queues of snapshots

abbrev pub text_of : String Global → Text
text_of s = chars (string_bytes s)

abbrev pub texts_of : List (String Global) → List Text
texts_of ss = map text_of ss

-- one of the texts is another than the first
abbrev pub are_mixed : LineEnds → List Text → Bool
are_mixed ends [] = false
are_mixed ends (first ∷ texts) = list_any (λ text. not (same_text ends text first)) texts

-- two of the texts differ, and two in more than their line ends
pub record AreMixed (texts : List Text) (exactly in_lines : Bool) : Type 0 where
  pub exact : exactly ≡ are_mixed Exact texts
  pub lines : in_lines ≡ are_mixed Ignored texts

-- the snapshots of a queue, which are kept as the texts of each version, the least first
abbrev pub versions_in : List (ℤ × List Text) → List Version
versions_in [] = []
versions_in (e ∷ es) = map (versioned e.0) e.1 ++ versions_in es

-- the first version is no greater than the number
abbrev pub is_first_within : ℤ → List (ℤ × List Text) → Bool
is_first_within number [] = false
is_first_within number (e ∷ es) = not (int_lt number e.0)

abbrev pub rest_of : List (ℤ × List Text) → List (ℤ × List Text)
rest_of [] = []
rest_of (e ∷ es) = es

-- how many snapshots are of the first version, where that is below the number
abbrev pub first_before : ℤ → List (ℤ × List Text) → ℕ
first_before number [] = 0
first_before number (e ∷ es) = if int_lt e.0 number then length e.1 else 0

abbrev pub queue_at : String Global × List Version → Queue
queue_at e = record { uri = string_bytes e.0; versions = e.1 }

-- the map of the snapshots, as queues
abbrev pub queues_in : List (String Global × List Version) → List Queue
queues_in es = map queue_at es

-- ---- open documents, each under its URI

-- the open documents in the order in which they were opened, and the versions that are kept of each
-- URI
pub record Opened : Type 0 where
  pub held : List Held
  pub kept : List Queue

-- the documents under their URIs
abbrev pub held_of : {D : Type 0} → (D → Version) → List (String Global × D) → List Held
held_of seen es = map (λ e. record { uri = string_bytes e.0; version = seen e.1 }) es

-- what is kept of them
abbrev pub kept_of : {D : Type 0} → (D → List Version) → List (String Global × D) → List Queue
kept_of keeps es = map (λ e. record { uri = string_bytes e.0; versions = keeps e.1 }) es

-- changes that break no rule were made: the URI is at this version, with the text that they made,
-- and what it held is kept
pub record IsChanged (broken : Option ℕ) (made : Result Text ℕ) (most : ℕ) (uri : Bytes)
    (number : ℤ) (old new : Opened) : Type 0 where
  pub accepted : broken ≡ None
  pub text : Text
  pub is_made : made ≡ Ok text
  pub held : new.held ≡ set_in uri (versioned number text) old.held
  pub kept : KeepsOn most uri (held_in uri old.held) old.kept new.kept

-- ---- what a snapshot's answer says

-- it is compared at once where its version is held or kept, it waits where its version is still to
-- come, and else it is missed
abbrev pub answer_of : ℤ → List Version → Option Version → Match
answer_of number kept h =
    if has_number number kept h then Equal else (if is_ahead number h then Waits else Missed)

-- the outcome for a snapshot after any calls that the state stands for
abbrev pub IsAnswer : State → Bytes → ℤ → Match → Type 0
IsAnswer s uri number answer =
    (calls : List Call) → Stands s calls
    → answer ≡ answer_of number (kept s.terms uri calls) (held s.terms uri calls)
