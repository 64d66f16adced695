-- Whether a log that is to be written shows the verdict on the log that was read.
use Rattle.std.specs.Prelude.{◌≡◌, ◌&&◌, ◌==◌, ℕ, List, [], ◌∷◌, Bool, true, false, not, Option}
use Rattle.std.specs.Prelude.{Some, None, if◌then◌else◌}
use Rattle.std.specs.Ordering.{int_eq}
use Rattle.lsp_extract.specs.Normal.{is_frame_rule}
use Rattle.lsp_replay.specs.Common.{bad_log, Bounds, Encoding, IsJudged, IsVerdict, no, same_side}
use Rattle.lsp_replay.specs.Common.{Side, Summary, SyncKind, Unlike, Who, yes}
use Rattle.lsp_session.specs.Entry.{Entry}
use Rattle.lsp_types.specs.declared.change.SyncKind.TheVariants as kinds
use Rattle.lsp_types.specs.declared.position.Encoding.TheVariants as encodings
use Rattle.lsp_verdict.specs.Verdict.{Document, Verdict}
use Rattle.lsp_verdict.specs.declared.outcome.Outcome.{Outcome}
use Rattle.lsp_verdict.specs.declared.outcome.Outcome.TheVariants.{Done}
use Rattle.lsp_verdict.specs.declared.verdict.Who.TheVariants as who

-- ---- the same verdict, but for names

abbrev pub same_who : Who → Who → Bool
same_who who.Editor who.Editor = true
same_who who.Server who.Server = true
same_who who.Snapshot who.Snapshot = true
same_who _ _ = false

abbrev pub same_encoding : Option Encoding → Option Encoding → Bool
same_encoding None None = true
same_encoding (Some encodings.Utf8) (Some encodings.Utf8) = true
same_encoding (Some encodings.Utf16) (Some encodings.Utf16) = true
same_encoding (Some encodings.Utf32) (Some encodings.Utf32) = true
same_encoding _ _ = false

abbrev pub same_kind : Option SyncKind → Option SyncKind → Bool
same_kind None None = true
same_kind (Some kinds.Nothing) (Some kinds.Nothing) = true
same_kind (Some kinds.Full) (Some kinds.Full) = true
same_kind (Some kinds.Incremental) (Some kinds.Incremental) = true
same_kind _ _ = false

-- documents, but for their URIs
abbrev pub same_document : Document → Document → Bool
same_document a b = int_eq a.number b.number && a.bytes == b.bytes

abbrev pub same_documents : List Document → List Document → Bool
same_documents [] [] = true
same_documents (a ∷ rest) (b ∷ others) = same_document a b && same_documents rest others
same_documents _ _ = false

abbrev pub same_flag : Bool → Bool → Bool
same_flag true flag = flag
same_flag false flag = not flag

-- requests, but for their ids and methods
abbrev pub same_request : Side × Entry → Side × Entry → Bool
same_request a b = same_side a.0 b.0 && same_flag a.1.cancelled b.1.cancelled

abbrev pub same_requests : List (Side × Entry) → List (Side × Entry) → Bool
same_requests [] [] = true
same_requests (a ∷ rest) (b ∷ others) = same_request a b && same_requests rest others
same_requests _ _ = false

abbrev pub same_counts : Summary → Summary → Bool
same_counts a b = a.editor == b.editor && a.server == b.server && a.snapshots == b.snapshots
    && a.unmatched == b.unmatched

abbrev pub same_summary : Summary → Summary → Bool
same_summary a b = same_counts a b && same_encoding a.encoding b.encoding
    && same_kind a.sync b.sync && same_documents a.documents b.documents
    && same_requests a.requests b.requests

abbrev pub same_but_names : Verdict → Verdict → Bool
same_but_names (yes s) (yes t) = same_summary s t
same_but_names (no rule by number event) (no other who count place) =
    rule == other && same_who by who && number == count && event == place
same_but_names _ _ = false

-- ---- what shows a verdict

-- a fault of the frames or of the log, which no log shows that has only whole frames
abbrev pub is_fault : Verdict → Bool
is_fault (yes s) = false
is_fault (no rule who number event) = is_frame_rule rule
is_fault (bad_log number code) = true

abbrev pub is_yes : Verdict → Bool
is_yes (yes s) = true
is_yes _ = false

-- **a log with the second verdict shows the first**: it is the same but for names, or Yes up to a
-- fault
abbrev pub shows : Verdict → Verdict → Bool
shows v own = if is_fault v then is_yes own else same_but_names v own

-- a log shows a verdict, or does not
abbrev pub IsShown : Bounds → List ℕ → Verdict → Bool → Type 0
IsShown limits log v shown = (own : Verdict) × IsVerdict limits log own × (shown ≡ shows v own)

-- ---- the run

-- how the run ends on a log with this verdict that it shows
abbrev pub EndsBy : Bool → Verdict → Outcome → Type 0
EndsBy true v outcome = IsJudged v outcome
EndsBy false v outcome = outcome ≡ Done

-- and how it ends where it shows it or not
abbrev pub EndsIf : Bool → Verdict → Outcome → Type 0
EndsIf true v outcome = EndsBy (is_fault v) v outcome
EndsIf false v outcome = outcome ≡ Unlike

-- **What is to be written is judged before it is said**: all of it is said where it shows the
-- verdict, and else nothing
pub record Checks (limits : Bounds) (written : List ℕ) (v : Verdict) (said : List ℕ)
    (outcome : Outcome) : Type 0 where
  pub own : Verdict
  pub judged : IsVerdict limits written own
  pub says : said ≡ (if shows v own then written else [])
  pub ends : EndsIf (shows v own) v outcome
