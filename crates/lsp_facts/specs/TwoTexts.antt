-- The two texts of a 608 or 702: what the messages make of a document, and what the editor saved
-- or showed of it.
use Rattle.std.specs.Prelude.{chars, ◌≡◌, ℕ, List, Bool, true, ◌||◌, ◌==◌, if◌then◌else◌, Option}
use Rattle.std.specs.Prelude.{Some, None, option_and_then, option_map}
use Rattle.lsp_docs.specs.Calls.{Text}
use Rattle.lsp_replay.specs.Common.{Bytes, Call, call_at, call_rule, calls, Counted, Event, held}
use Rattle.lsp_replay.specs.Common.{other_than, SameText, saves, shows, Terms, uri_of, Version}
use Rattle.lsp_replay.specs.Common.{versioned}
use Rattle.lsp_docs.specs.Snapshots.{kept}
use Rattle.lsp_types.specs.declared.rules.TheConstants as rules
use Rattle.lsp_facts.specs.declared.lent_text.LentText.{LentText}
use Rattle.lsp_facts.specs.declared.lent_text.LentText.TheVariants.{Whole, Stored}
use Rattle.lsp_facts.specs.declared.made.Brought.{Brought}
use Rattle.lsp_facts.specs.Refuting.{brings, first_other, waiting_texts}
use Rattle.lsp_facts.specs.declared.two_texts.TwoTexts as code

-- ---- a text that is lent, whole or as it is stored

-- its characters, where this is what a store holds
abbrev pub lent_text : {S : Type 0} → (S → Text) → LentText S → Text
lent_text content (Whole text) = chars text.now
lent_text content (Stored store) = content store.now

-- the version that a call brings its document to
abbrev pub brought_view : {S : Type 0} → (S → Text) → Brought S → Version
brought_view content b = versioned b.version (lent_text content b.text)

-- ---- two texts

-- the one that the messages make, and the one that was saved or that a snapshot has
pub record TwoTexts : Type 0 where
  pub by_messages : Text
  pub in_editor : Text

abbrev pub two_texts : Text → Text → TwoTexts
two_texts made other = record { by_messages = made; in_editor = other }

abbrev pub texts_view : {S : Type 0} → (S → Text) → code.TwoTexts S → TwoTexts
texts_view content t = two_texts (lent_text content t.by_messages) (chars t.in_editor.now)

-- the same of texts that are kept with their lines
abbrev pub seen_texts : code.TwoTexts Counted → TwoTexts
seen_texts texts = texts_view (λ (s : Counted). s.content) texts

-- ---- by what was called

-- the text of a version, and the first of those that wait for it that is another
abbrev pub against : Terms → List Call → Bytes → Version → Option TwoTexts
against terms before uri v = option_map (two_texts v.text)
    (first_other terms.line_ends v.text (waiting_texts terms before uri v.number))

-- a text that was recorded, and the one that is held of its document, where there is one
abbrev pub recorded : Text → Option Text → Option TwoTexts
recorded text held = option_map (λ other. two_texts other text) held

-- **the two texts that differ, where a call after these compares a text with another**: a save has
-- another than is held, a snapshot another than is held or kept of its version, and an opening and
-- a change bring one that a waiting snapshot refutes
abbrev pub compared : Terms → List Call → Call → Option TwoTexts
compared terms before (saves uri text) =
    option_and_then (λ t. recorded t (option_map (λ (v : Version). v.text) (held terms uri before)))
    text
compared terms before (shows uri number text) =
    recorded text (other_than terms.line_ends (versioned number text) (kept terms uri before)
    (held terms uri before))
compared terms before call =
    option_and_then (against terms before (uri_of call)) (brings terms before call)

-- the rule says that two texts differ
abbrev pub is_of_texts : ℕ → Bool
is_of_texts rule = rule == rules.SAVED_TEXT_DIFFERS || rule == rules.SNAPSHOT_DIFFERS

-- the two texts of a call that breaks this rule after these
abbrev pub texts_of : Terms → List Call → Call → ℕ → Option TwoTexts
texts_of terms before call rule = if is_of_texts rule then compared terms before call else None

-- **Where a call breaks 608 or 702 there are two texts, and they differ.**
abbrev pub TextsDiffer : Type 0
TextsDiffer = (terms : Terms) (before : List Call) (call : Call) (rule : ℕ)
    → is_of_texts rule ≡ true → call_rule terms before call ≡ Some rule
    → (texts : TwoTexts) × (compared terms before call ≡ Some texts)
    × (SameText terms.line_ends texts.by_messages texts.in_editor → ⊥)

-- ---- of an event

-- **the two texts of an event that offends by this rule after these kept ones**
abbrev pub texts_at : Terms → List Event → Event → ℕ → Option TwoTexts
texts_at terms kept event rule =
    option_and_then (λ call. texts_of terms (calls kept) call rule) (call_at kept event)
