-- The rules of documents and snapshots: which one a call breaks, and which calls are accepted.
use Rattle.std.specs.Prelude.{◌≡◌, ℕ, ℤ, int_lt, List, [], ◌∷◌, ◌++◌, Bool, true, false, ◌&&◌, ◌||◌}
use Rattle.std.specs.Prelude.{not, if◌then◌else◌, Option, Some, None, is_some, is_none, Result, Ok}
use Rattle.std.specs.Prelude.{Err, nat_lt, option_to_list, option_map}
use Rattle.std.specs.List.{list_any, list_all, find}
use Rattle.std.specs.Ordering.{int_eq}
use Rattle.lsp_types.specs.declared.line_ends.LineEnds.{LineEnds}
use Rattle.lsp_types.specs.declared.position.Encoding.{Encoding}
use Rattle.lsp_types.specs.declared.change.SyncKind.{SyncKind}
use Rattle.lsp_types.specs.declared.change.SyncKind.TheVariants.{Nothing, Full, Incremental}
use Rattle.lsp_types.specs.declared.rules.TheConstants as rules
use Rattle.lsp_text.specs.Edits.{Edit, applied}
use Rattle.lsp_text.specs.SameText.{same_text}
use Rattle.lsp_docs.specs.Documents.{Terms, Version, versioned, is_after, held, is_at}
use Rattle.lsp_docs.specs.Calls.{Text, byte_len, Call, opens, changes, closes, saves, shows, uri_of}
use Rattle.lsp_docs.specs.Snapshots.{kept, waiting, versions_of}

-- ---- the least rule that a call breaks, and the calls that break none

-- the rule of the first row whose test holds
abbrev pub first_row : List (Bool × Option ℕ) → Option ℕ
first_row [] = None
first_row (row ∷ rows) = if row.0 then row.1 else first_row rows

-- the snapshot is of this version, and has another text
abbrev pub differs : LineEnds → Version → Version → Bool
differs ends v s = int_eq v.number s.number && not (same_text ends v.text s.text)

-- 702: a snapshot that waits for this version has another text
abbrev pub version_rule : LineEnds → List Version → Version → Option ℕ
version_rule ends waits v = if list_any (differs ends v) waits
    then Some rules.SNAPSHOT_DIFFERS else None

-- a change is of the kind: under Full it has no span, and under None there is no change
abbrev pub is_of_kind : SyncKind → Edit → Bool
is_of_kind Nothing c = false
is_of_kind Full c = is_none c.span
is_of_kind Incremental c = true

-- changes are of the agreed kind
abbrev pub fits_kind : SyncKind → List Edit → Bool
fits_kind Nothing cs = false
fits_kind kind cs = list_all (is_of_kind kind) cs

-- what refuses the changes, 605 to 607, or else 702
abbrev pub text_rule : LineEnds → List Version → ℤ → Result Text ℕ → Option ℕ
text_rule ends waits number (Err rule) = Some rule
text_rule ends waits number (Ok t) = version_rule ends waits (versioned number t)

-- `didChange`: 602 not open; 603 the version does not rise; 604 not of the agreed kind; else what
-- its changes break of the held text
abbrev pub rule_of_change : SyncKind → ℤ → List Edit → (Version → Option ℕ) → Option Version
    → Option ℕ
rule_of_change kind number cs broken None = Some rules.DOCUMENT_NOT_OPEN
rule_of_change kind number cs broken (Some v) =
    first_row (
    (not (int_lt v.number number), Some rules.VERSION_DOES_NOT_RISE)
    ∷ (not (fits_kind kind cs), Some rules.CHANGE_NOT_OF_KIND)
    ∷ (true, broken v)
    ∷ [])

-- its changes break 605 to 607 where one is refused, or 702
abbrev pub change_rule : Terms → List Version → Encoding → SyncKind → ℤ → List Edit → Option Version
    → Option ℕ
change_rule terms waits enc kind number cs h =
    rule_of_change kind number cs
    (λ v. text_rule terms.line_ends waits number (applied terms.limit enc v.text cs)) h

-- `didSave`: 608 the document is open, and the saved text is another than the held one
abbrev pub save_rule : LineEnds → Option Text → Option Version → Option ℕ
save_rule ends (Some t) (Some v) = if same_text ends v.text t
    then None else Some rules.SAVED_TEXT_DIFFERS
save_rule ends _ _ = None

-- a snapshot: 701 its version is below each kept one and the held one; 702 a kept one or the held
-- one is of its version, with another text
abbrev pub show_rule : LineEnds → ℤ → Text → List Version → Option Version → Option ℕ
show_rule ends number t kept None = None
show_rule ends number t kept (Some v) =
    first_row (
    (list_all (is_after number) kept && int_lt number v.number, Some rules.LATE_SNAPSHOT)
    ∷ (
      list_any (λ w. differs ends w (versioned number t)) kept
          || differs ends v (versioned number t),
      Some rules.SNAPSHOT_DIFFERS,
    )
    ∷ [])

-- the least rule that a call breaks, where this is held of its URI, these versions are kept and
-- these snapshots wait
abbrev pub rule_of : Terms → Option Version → List Version → List Version → Call → Option ℕ
rule_of terms h kept waits (opens uri number t) =
    first_row (
    (is_some h, Some rules.DOCUMENT_ALREADY_OPEN)
    ∷ (nat_lt terms.limit (byte_len t), Some rules.DOCUMENT_OVER_LIMIT)
    ∷ (true, version_rule terms.line_ends waits (versioned number t))
    ∷ [])
rule_of terms h kept waits (changes enc kind uri number cs) =
    change_rule terms waits enc kind number cs h
rule_of terms h kept waits (closes uri) = if is_some h then None else Some rules.DOCUMENT_NOT_OPEN
rule_of terms h kept waits (saves uri t) = save_rule terms.line_ends t h
rule_of terms h kept waits (shows uri number t) = show_rule terms.line_ends number t kept h

-- the least rule that a call breaks after these calls, or none
abbrev pub call_rule : Terms → List Call → Call → Option ℕ
call_rule terms before c =
    rule_of terms (held terms (uri_of c) before) (kept terms (uri_of c) before)
    (versions_of (uri_of c) (waiting terms before)) c

abbrev pub AreAcceptedFrom : Terms → List Call → List Call → Type 0
AreAcceptedFrom terms before [] = Unit {0}
AreAcceptedFrom terms before (c ∷ after) =
    (call_rule terms before c ≡ None) × AreAcceptedFrom terms (before ++ c ∷ []) after

-- no call breaks a rule after those before it
abbrev pub AreAccepted : Terms → List Call → Type 0
AreAccepted terms calls = AreAcceptedFrom terms [] calls

-- ---- the text at a version, and one that differs from a snapshot's

-- the text of the first of these versions that is of this number
abbrev pub text_in : ℤ → List Version → Option Text
text_in number vs = option_map (λ (v : Version). v.text) (find (is_at number) vs)

-- the same of the kept versions and the held one
abbrev pub text_at : ℤ → List Version → Option Version → Option Text
text_at number kept h = text_in number (kept ++ option_to_list h)

abbrev pub differs_from : LineEnds → Version → Version → Bool
differs_from ends s v = differs ends v s

-- the text of the first of these versions that is of the snapshot's number and has another text
abbrev pub other_in : LineEnds → Version → List Version → Option Text
other_in ends s vs = option_map (λ (v : Version). v.text) (find (differs_from ends s) vs)

-- the same of the kept versions and the held one
abbrev pub other_than : LineEnds → Version → List Version → Option Version → Option Text
other_than ends s kept h = other_in ends s (kept ++ option_to_list h)
