-- Which documents are behind: a message that was to change the text was skipped, since it broke a
-- rule, and none has given the whole text since.
use Rattle.std.specs.Prelude.{◌≡◌, ℕ, List, Bool, true, false, ◌==◌, if◌then◌else◌, Option, Some}
use Rattle.std.specs.Prelude.{None, String, unwrap_or}
use Rattle.std.specs.Global.{Global}
use Rattle.std.specs.Str.{bytes_eq}
use Rattle.lsp_trail.specs.Common.{broken, Call, calls, content, each_of, Editor, Heard}
use Rattle.lsp_trail.specs.Common.{heard_events, is_reopened, kept_before, last_or, Raw, rule_of}
use Rattle.lsp_trail.specs.Common.{said_at, Server, show, Terms, uri_of}
use Rattle.lsp_outline.specs.Named.{named_in}
use Rattle.lsp_uris.specs.Held.{has_uri}
use Rattle.lsp_types.specs.declared.rules.TheConstants as rules
use Rattle.lsp_verdict.specs.Offences.{renews, sets_text}
use Rattle.lsp_notes.specs.declared.behind.Behind.{Behind}

-- ---- an event that is skipped

-- a call that breaks this rule was to change the text that is held: it opens a document that is
-- open with another version or text (601), or it opens or changes one
abbrev pub parts : ℕ → Bool → Call → Bool
parts rule other call = if rule == rules.DOCUMENT_ALREADY_OPEN then other else sets_text call

-- the document that a message of the editor names
abbrev pub editor_names : Raw → Option (List ℕ)
editor_names (content Editor bytes) = named_in Editor bytes
editor_names _ = None

-- the one that it names though its params do not have their shape: it may have been to change that
abbrev pub malformed : Raw → ℕ → Option (List ℕ)
malformed raw rule = if rule == rules.BAD_METHOD_PARAMS then editor_names raw else None

-- the document that is left behind by an event that breaks this rule and says this of one, which it
-- opens again with another version or text or does not
abbrev pub skipped : Raw → ℕ → Bool → Option Call → Option (List ℕ)
skipped raw rule other None = malformed raw rule
skipped raw rule other (Some call) = if parts rule other call then Some (uri_of call) else None

-- ---- one that is kept

-- the document of which it gives the whole text
abbrev pub renewed : Option Call → Option (List ℕ)
renewed None = None
renewed (Some call) = if renews call then Some (uri_of call) else None

-- ---- documents

-- whether the document of this URI is behind, where this one is now, or is no more
abbrev pub left : List ℕ → Bool → Option (List ℕ) → Option Bool
left uri behind None = None
left uri behind (Some own) = if bytes_eq own uri then Some behind else None

-- the same of an event that breaks this rule, or is kept
abbrev pub left_by : List ℕ → Raw → Option ℕ → Bool → Option Call → Option Bool
left_by uri raw None other said = left uri false (renewed said)
left_by uri raw (Some rule) other said = left uri true (skipped raw rule other said)

-- of an event after these
abbrev pub behind_by : Terms → List ℕ → List Heard → Heard → Option Bool
behind_by terms uri before h =
    left_by uri h.raw (rule_of terms before h)
    (is_reopened terms (calls (kept_before terms before))
    (said_at terms (heard_events before) h.note.event))
    (said_at terms (heard_events before) h.note.event)

-- **the document of this URI is behind after these events**: the last one that says anything about
-- that left it so
abbrev pub is_behind : Terms → List ℕ → List Heard → Bool
is_behind terms uri heard = last_or false (each_of (behind_by terms uri) heard)

-- that is so of the one of which this is said
abbrev pub is_on_behind : Terms → List Heard → Option Call → Bool
is_on_behind terms before None = false
is_on_behind terms before (Some call) = is_behind terms (uri_of call) before

-- ---- as they are held

-- the one of which this is said is among these
abbrev pub is_among : {X : Type 0} → List (String Global × X) → Option Call → Bool
is_among uris None = false
is_among uris (Some call) = has_uri uris (uri_of call)

-- this one is among them now, or is no more
abbrev pub PutsBehind : {X : Type 0} → Bool → Option (List ℕ) → List (String Global × X)
    → List (String Global × X) → Type 0
PutsBehind behind own old new =
    (uri : List ℕ) → has_uri new uri ≡ unwrap_or (left uri behind own) (has_uri old uri)

-- **it is what these events leave of it**
abbrev pub AreBehind : Terms → Behind → List Heard → Type 0
AreBehind terms b heard =
    (uri : List ℕ) → has_uri b.uris.entries uri ≡ is_behind terms uri heard
