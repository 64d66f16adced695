-- The versions that an opening keeps, and the snapshots that wait or were never compared.
use Rattle.std.specs.Prelude.{ℕ, ◌-◌, List, [], ◌∷◌, ◌++◌, drop, length, ◌&&◌, not, if◌then◌else◌}
use Rattle.std.specs.Prelude.{option_to_list, ℤ, int_lt, ◌+◌, map, filter, Bool, true, false, ◌||◌}
use Rattle.std.specs.Prelude.{Option, Some, None}
use Rattle.std.specs.List.{list_any}
use Rattle.std.specs.Ordering.{int_eq}
use Rattle.std.specs.Str.{bytes_eq}
use Rattle.lsp_docs.specs.Documents.{Terms, Version, held, versioned, is_at}
use Rattle.lsp_docs.specs.Calls.{Bytes, Call, is_close, is_change, opens, changes, shows, closes}
use Rattle.lsp_docs.specs.Calls.{Text}

-- ---- the versions that an opening held before the present one, and which of them are kept

-- the version that a `didChange` of the URI replaced, where no `didClose` follows it
abbrev pub past_entry : Terms → Bytes → List Call → Call → List Call → List Version
past_entry terms uri before c after =
    if is_change uri c && not (list_any (is_close uri) after) then option_to_list
    (held terms uri before) else []

abbrev pub past_in : Terms → Bytes → List Call → List Call → List Version
past_in terms uri before [] = []
past_in terms uri before (c ∷ after) =
    past_entry terms uri before c after ++ past_in terms uri (before ++ c ∷ []) after

-- the versions that the standing opening of this URI held before the present one, oldest first
abbrev pub past : Terms → Bytes → List Call → List Version
past terms uri calls = past_in terms uri [] calls

-- the last versions, at most this many
abbrev pub last_of : ℕ → List Version → List Version
last_of n vs = drop (length vs - n) vs

-- those of them that are kept: the last ones, as many as the terms say
abbrev pub kept : Terms → Bytes → List Call → List Version
kept terms uri calls = last_of terms.kept (past terms uri calls)

-- ---- snapshots that wait for their version

-- a snapshot that was shown
pub record Shown : Type 0 where
  pub uri : Bytes
  pub version : Version

-- no opening stands, or it holds a lesser version
abbrev pub is_ahead : ℤ → Option Version → Bool
is_ahead number None = true
is_ahead number (Some v) = int_lt v.number number

-- a snapshot waits after `all`, where `after` followed it: its opening was not closed, and is still
-- to come or holds a lesser version
abbrev pub waits : Terms → List Call → Bytes → ℤ → List Call → Bool
waits terms all uri number after =
    is_ahead number (held terms uri all) && not (list_any (is_close uri) after)

abbrev pub shown_entry : Terms → List Call → Call → List Call → List Shown
shown_entry terms all (shows uri number t) after =
    if waits terms all uri number after then record {
      uri = uri;
      version = versioned number t;
    } ∷ [] else []
shown_entry terms all _ after = []

abbrev pub waiting_in : Terms → List Call → List Call → List Shown
waiting_in terms all [] = []
waiting_in terms all (c ∷ after) = shown_entry terms all c after ++ waiting_in terms all after

-- the snapshots that wait after the calls
abbrev pub waiting : Terms → List Call → List Shown
waiting terms all = waiting_in terms all all

abbrev pub is_of : Bytes → Shown → Bool
is_of uri s = bytes_eq uri s.uri

-- those of one URI
abbrev pub versions_of : Bytes → List Shown → List Version
versions_of uri ss = map (λ s. s.version) (filter (is_of uri) ss)

-- the texts of those of this version
abbrev pub texts_at : ℤ → List Version → List Text
texts_at number vs = map (λ (v : Version). v.text) (filter (is_at number) vs)

-- ---- snapshots that were never compared

-- this is the version that is held
abbrev pub holds_number : ℤ → Option Version → Bool
holds_number number None = false
holds_number number (Some v) = int_eq v.number number

-- this is the version that is held, or a kept one
abbrev pub has_number : ℤ → List Version → Option Version → Bool
has_number number kept h = list_any (is_at number) kept || holds_number number h

-- the call brings the URI to this version
abbrev pub sets : Bytes → ℤ → Call → Bool
sets uri number (opens u n t) = bytes_eq uri u && int_eq n number
sets uri number (changes enc kind u n cs) = bytes_eq uri u && int_eq n number
sets uri number _ = false

-- one of the calls brings the URI to this version, and none before it closes it
abbrev pub comes_to : Bytes → ℤ → List Call → Bool
comes_to uri number [] = false
comes_to uri number (c ∷ after) =
    sets uri number c || (not (is_close uri c) && comes_to uri number after)

-- a snapshot between these calls is compared: its version is held or kept at its place, or a later
-- call reaches it before the URI is closed
abbrev pub is_compared : Terms → List Call → Bytes → ℤ → List Call → Bool
is_compared terms before uri number after =
    has_number number (kept terms uri before) (held terms uri before) || comes_to uri number after

abbrev pub unmatched_entry : Terms → List Call → Call → List Call → ℕ
unmatched_entry terms before (shows uri number t) after =
    if is_compared terms before uri number after then 0 else 1
unmatched_entry terms before _ after = 0

abbrev pub unmatched_in : Terms → List Call → List Call → ℕ
unmatched_in terms before [] = 0
unmatched_in terms before (c ∷ after) =
    unmatched_entry terms before c after + unmatched_in terms (before ++ c ∷ []) after

-- how many snapshots were never compared: skipped, between kept versions, closed with their
-- opening, or waiting still
abbrev pub unmatched : Terms → List Call → ℕ
unmatched terms calls = unmatched_in terms [] calls

-- ---- the snapshots that can be compared no more: a count that only rises

-- a call skips a snapshot that waits, or closes its opening
abbrev pub ends_waiting : Call → Shown → Bool
ends_waiting (opens uri number t) s = bytes_eq uri s.uri && int_lt s.version.number number
ends_waiting (changes enc kind uri number cs) s =
    bytes_eq uri s.uri && int_lt s.version.number number
ends_waiting (closes uri) s = bytes_eq uri s.uri
ends_waiting _ s = false

-- the version was skipped before the snapshot came, and is neither held nor kept
abbrev pub is_missed : ℤ → List Version → Option Version → Bool
is_missed number kept h = not (is_ahead number h) && not (has_number number kept h)

-- one snapshot, where it is shown when its version was skipped
abbrev pub missed_at : Terms → List Call → Call → ℕ
missed_at terms before (shows uri number t) =
    if is_missed number (kept terms uri before) (held terms uri before) then 1 else 0
missed_at terms before _ = 0

abbrev pub missed_from : Terms → List Call → List Call → ℕ
missed_from terms before [] = 0
missed_from terms before (c ∷ after) =
    missed_at terms before c + length (filter (ends_waiting c) (waiting terms before)) + missed_from
    terms (before ++ c ∷ []) after

-- how many snapshots were skipped before they were shown, or were skipped or lost their opening
-- while they waited
abbrev pub missed : Terms → List Call → ℕ
missed terms calls = missed_from terms [] calls
