-- The facts on a call that breaks a rule on documents: 601 to 608, 701, 702.
use Rattle.std.specs.Prelude.{List, [], ◌∷◌, ◌++◌, slice_get, Bool, false, is_some, ◌==◌}
use Rattle.std.specs.Prelude.{if◌then◌else◌, option_map, ◌≡◌, ◌⊎◌, ◌+◌, ℕ, ℤ, length, take, map}
use Rattle.std.specs.Prelude.{Option, Some, None, option_to_list, Result, Ok, Err, codes, decimal}
use Rattle.std.specs.Fmt.{signed_decimal}
use Rattle.std.specs.List.{flat_map, prefix_len}
use Rattle.lsp_replay.specs.Common.{applied, byte_len, Call, changed, changes, closes, compared}
use Rattle.lsp_replay.specs.Common.{Edit, Encoding, encoding_name, held, is_of_kind, LiesInside}
use Rattle.lsp_replay.specs.Common.{Line, LineEnds, lines_of, opens, Position, same_text, saves}
use Rattle.lsp_replay.specs.Common.{shows, Span, SyncKind, Terms, units, uri_of, Utf16, Utf8}
use Rattle.lsp_replay.specs.Common.{Version}
use Rattle.lsp_types.specs.declared.position.Encoding.TheVariants.{Utf32}
use Rattle.lsp_types.specs.declared.line_ends.LineEnds.TheVariants.{Ignored}
use Rattle.lsp_types.specs.declared.rules.TheConstants as rules
use Rattle.lsp_text.specs.Places.{place_of}
use Rattle.lsp_text.specs.Findings.{text_extent}
use Rattle.lsp_text.specs.Difference.{DifferFirst, position_at}
use Rattle.lsp_text.specs.Sizes.{IsSizeWith}
use Rattle.lsp_docs.specs.Calls.{Text}
use Rattle.lsp_docs.specs.Snapshots.{kept}
use Rattle.json.specs.Print.{quoted}
use Rattle.lsp_replay.specs.declared.heard.EventPlace.{EventPlace}
use Rattle.lsp_facts.specs.declared.earlier.Earlier.{Earlier}
use Rattle.lsp_verdict.specs.Report.{line, kind_name}
use Rattle.lsp_facts.specs.Fact.{Fact, holds, sends, counts_in, fails, would_have, may_have}
use Rattle.lsp_facts.specs.Fact.{part_line, position_words, quoted_text, spaced, part_around}
use Rattle.lsp_facts.specs.Fact.{differing_codes}
use Rattle.lsp_facts.specs.TwoTexts.{TwoTexts, texts_of}
use Rattle.lsp_facts.specs.EndsApart.{ends_apart}

-- ---- the encodings in which a column lies at the edge of a character

-- it lies in its line, and denotes a place there
abbrev pub is_edge : Text → Position → Encoding → Bool
is_edge t p enc = if is_some (text_extent enc t p) then false else is_some (place_of enc t p)

abbrev pub edge_in : Text → Position → Encoding → List Encoding
edge_in t p enc = if is_edge t p enc then enc ∷ [] else []

-- **the encodings in which a position lies at the edge of a character of its line**
abbrev pub edges : Text → Position → List Encoding
edges t p = edge_in t p Utf8 ++ edge_in t p Utf16 ++ edge_in t p Utf32

-- ---- what is said under each rule

-- the version that is held, where the URI is open, and the event that set it
abbrev pub held_fact : Option EventPlace → Option Version → List Fact
held_fact set_by None = []
held_fact set_by (Some v) = holds v.number set_by ∷ []

-- the version that was sent, and how many changes; or that of a snapshot
abbrev pub sent_facts : Call → List Fact
sent_facts (opens uri number text) = sends number ∷ []
sent_facts (changes enc kind uri number edits) =
    sends number ∷ line (codes "changes" ∷ decimal (length edits) ∷ []) ∷ []
sent_facts (shows uri number text) = line (codes "version" ∷ signed_decimal number ∷ []) ∷ []
sent_facts _ = []

abbrev pub head_facts : Option EventPlace → Option Version → Call → List Fact
head_facts set_by h call =
    line (codes "uri" ∷ quoted (uri_of call) ∷ []) ∷ (held_fact set_by h ++ sent_facts call)

-- ---- lines of a text

-- the units of the line of a position, its line end not counted, where the text has that line
abbrev pub line_length : Encoding → Text → Position → List Fact
line_length enc t p = option_to_list
    (option_map (λ (l : Line). line (codes "length" ∷ decimal (units enc l.text) ∷ []))
    (slice_get (lines_of t) p.line))

-- the same of the first position of a span, where there is one
abbrev pub first_length : Encoding → Text → Option Span → List Fact
first_length enc t None = []
first_length enc t (Some span) = line_length enc t span.first

-- ---- 604: changes of another kind than agreed

-- how many changes come before the first that is not of the kind
abbrev pub fitting : SyncKind → List Edit → ℕ
fitting kind cs = prefix_len (is_of_kind kind) cs

-- the length of the line in the text that the changes before it make, unless one of them is refused
abbrev pub made_length : Encoding → Option Span → Result Text ℕ → List Fact
made_length enc span (Ok t) = first_length enc t span
made_length enc span (Err rule) = []

-- change n, from 0, where there is such
abbrev pub misfit_facts : ℕ → Encoding → Text → List Edit → ℕ → Option Edit → List Fact
misfit_facts limit enc t cs n None = []
misfit_facts limit enc t cs n (Some edit) =
    counts_in enc ∷ fails (n + 1) edit.span ∷ made_length enc edit.span
    (applied limit enc t (take n cs))

abbrev pub kind_facts : ℕ → Encoding → SyncKind → Text → List Edit → List Fact
kind_facts limit enc kind t cs =
    line (codes "sync" ∷ kind_name (Some kind) ∷ [])
    ∷ misfit_facts limit enc t cs (fitting kind cs) (slice_get cs (fitting kind cs))

-- ---- 605 to 607: a change that fails

-- the position of a span that lies inside a character: the first, unless that denotes a place
abbrev pub stray : Encoding → Text → Span → Position
stray enc t span = if is_some (place_of enc t span.first) then span.second else span.first

-- one of the positions of a span lies inside a character
pub record HasStray (enc : Encoding) (t : Text) (span : Option Span) : Type 0 where
  pub of : Span
  pub there : span ≡ Some of
  pub nowhere : place_of enc t (stray enc t of) ≡ None

-- the character into which a column falls
abbrev pub falls_inside : ℕ → Fact
falls_inside char = line (codes "inside" ∷ quoted_text (char ∷ []) ∷ [])

-- a key and encodings, where there are any
abbrev pub encodings_fact : List ℕ → List Encoding → List Fact
encodings_fact key [] = []
encodings_fact key (enc ∷ encs) =
    (key ++ flat_map (λ e. spaced (encoding_name (Some e))) (enc ∷ encs) ++ 10 ∷ []) ∷ []

-- the encodings in which a column fits
abbrev pub fits_fact : List Encoding → List Fact
fits_fact encs = encodings_fact (codes "fits") encs

-- 605: the line of that position, the character, and the encodings in which it would fit
pub record IsStray (enc : Encoding) (t : Text) (span : Option Span) (facts : List Fact) : Type 0
  where
    pub of : Span
    pub there : span ≡ Some of
    pub char : ℕ
    pub lies : LiesInside enc t (stray enc t of) char
    pub are : facts ≡ line_length enc t (stray enc t of)
        ++ falls_inside char ∷ fits_fact (edges t (stray enc t of))

-- 607: the bytes that the text would have, and how many it may have
pub record IsTooLong (limit : ℕ) (enc : Encoding) (t : Text) (edit : Edit)
    (facts : List Fact) : Type 0 where
  pub size : ℕ
  pub would : IsSizeWith enc t edit.span edit.text size
  pub are : facts ≡ would_have size ∷ may_have limit ∷ []

-- with the length of the line in which the span begins
pub record IsLongWithLine (limit : ℕ) (enc : Encoding) (t : Text) (edit : Edit)
    (facts : List Fact) : Type 0 where
  pub sizes : List Fact
  pub long : IsTooLong limit enc t edit sizes
  pub are : facts ≡ first_length enc t edit.span ++ sizes

-- why this rule refuses a change of the text `t`
abbrev pub IsReason : ℕ → Encoding → Text → Edit → ℕ → List Fact → Type 0
IsReason limit enc t edit rule facts =
    ((rule ≡ rules.POSITION_INSIDE_CHARACTER) × IsStray enc t edit.span facts)
    ⊎ (((rule ≡ rules.RANGE_REVERSED) × (facts ≡ first_length enc t edit.span))
    ⊎ ((rule ≡ rules.DOCUMENT_OVER_LIMIT) × IsLongWithLine limit enc t edit facts))

-- change n, from 0, and why this rule refuses it
pub record IsRefused (limit : ℕ) (enc : Encoding) (t : Text) (n : ℕ) (edit : Edit) (rule : ℕ)
    (facts : List Fact) : Type 0 where
  pub reason : List Fact
  pub says : IsReason limit enc t edit rule reason
  pub are : facts ≡ counts_in enc ∷ fails (n + 1) edit.span ∷ reason

-- the first change that fails, by this rule, on the text that those before it make
pub record IsFailing (limit : ℕ) (enc : Encoding) (t : Text) (cs : List Edit) (rule : ℕ)
    (facts : List Fact) : Type 0 where
  pub n : ℕ
  pub text : Text
  pub made : applied limit enc t (take n cs) ≡ Ok text
  pub edit : Edit
  pub here : slice_get cs n ≡ Some edit
  pub failed : changed enc text edit.span edit.text limit ≡ Err rule
  pub refused : IsRefused limit enc text n edit rule facts

-- ---- 608 and 702: texts that differ

abbrev pub differs_at : Position → Fact
differs_at place = codes "at" ++ position_words place ++ 10 ∷ []

-- where they first differ, the line of each there, of a long one the part around the place, and
-- the character of each; the key is that of the other text
abbrev pub difference_facts : Encoding → Text → Text → List ℕ → ℕ → List Fact
difference_facts enc t other key n =
    counts_in enc ∷ differs_at (position_at enc t n)
    ∷ part_line (codes "by-messages") (part_around t n) ∷ part_line key (part_around other n)
    ∷ differing_codes (slice_get t n) (slice_get other n) ∷ []

abbrev pub AreOfDifference : Encoding → Text → Text → List ℕ → List Fact → Type 0
AreOfDifference enc t other key facts =
    DifferFirst t other (λ n. facts ≡ difference_facts enc t other key n)

-- the option that ignores line ends. Where texts of the document were equal, line ends included, a
-- message changed one since, and the option would hide that
abbrev pub offer_facts : Bool → List Fact
offer_facts was_equal =
    if was_equal then []
    else line (codes "line-ends" ∷ codes "option" ∷ codes "--ignore-line-ends" ∷ []) ∷ []

-- **where they differ in line ends alone, in which**, and the option
abbrev pub ends_facts : Bool → Text → Text → List Fact
ends_facts was_equal t other =
    if same_text Ignored t other then ends_apart t other ∷ offer_facts was_equal else []

-- **two texts that are not the same**: where they first differ, as they are compared, and whether
-- they differ in line ends alone
pub record AreApart (ends : LineEnds) (enc : Encoding) (was_equal : Bool) (t other : Text)
    (key : List ℕ) (facts : List Fact) : Type 0 where
  pub place : List Fact
  pub at : AreOfDifference enc (compared ends t) (compared ends other) key place
  pub are : facts ≡ place ++ ends_facts was_equal t other

-- ---- by what was called

-- what was saved, or what the editor really had
abbrev pub editor_key : Call → List ℕ
editor_key (saves uri text) = codes "saved"
editor_key _ = codes "in-editor"

-- 603 to 607, of a text that is held
abbrev pub AreOfChange : ℕ → Encoding → SyncKind → Text → List Edit → ℕ → List Fact → Type 0
AreOfChange limit enc kind t cs rule facts =
    ((rule ≡ rules.VERSION_DOES_NOT_RISE) × (facts ≡ []))
    ⊎ (((rule ≡ rules.CHANGE_NOT_OF_KIND) × (facts ≡ kind_facts limit enc kind t cs))
    ⊎ IsFailing limit enc t cs rule facts)

-- 607 of an opening
abbrev pub opening_facts : ℕ → Text → ℕ → List Fact
opening_facts limit t rule =
    if rule == rules.DOCUMENT_OVER_LIMIT then would_have (byte_len t) ∷ may_have limit ∷ [] else []

-- the versions that are kept, where there are any
abbrev pub keeps : List ℤ → Fact
keeps numbers =
    codes "kept" ++ flat_map (λ number. spaced (signed_decimal number)) numbers ++ 10 ∷ []

abbrev pub kept_fact : List Version → List Fact
kept_fact [] = []
kept_fact (v ∷ vs) = keeps (v.number ∷ map (λ (w : Version). w.number) vs) ∷ []

-- a rule that compares no texts, where this is held of the URI and these versions are kept
abbrev pub AreOfRule : ℕ → Option Version → List Version → Call → ℕ → List Fact → Type 0
AreOfRule limit h kept (opens uri number text) rule facts = facts ≡ opening_facts limit text rule
AreOfRule limit (Some v) kept (changes enc kind uri number cs) rule facts =
    AreOfChange limit enc kind v.text cs rule facts
AreOfRule limit h kept (shows uri number text) rule facts = facts ≡ kept_fact kept
AreOfRule limit h kept call rule facts = facts ≡ []

-- **under 608 and 702 the two texts that differ**, under another rule what it is about
abbrev pub AreDetails : Terms → Encoding → List Call → Call → ℕ → Bool → Option TwoTexts
    → List Fact → Type 0
AreDetails terms enc before call rule was_equal (Some texts) facts =
    AreApart terms.line_ends enc was_equal texts.by_messages texts.in_editor (editor_key call)
    facts
AreDetails terms enc before call rule was_equal None facts =
    AreOfRule terms.limit (held terms (uri_of call) before) (kept terms (uri_of call) before) call
    rule facts

-- **the facts on a call that breaks this rule after these calls**, where this is known of the
-- events before it. Columns count units of the encoding
pub record AreDocumentFacts (terms : Terms) (enc : Encoding) (before : List Call) (call : Call)
    (rule : ℕ) (earlier : Earlier) (facts : List Fact) : Type 0 where
  pub details : List Fact
  pub says : AreDetails terms enc before call rule earlier.was_equal
      (texts_of terms before call rule) details
  pub are : facts ≡ head_facts earlier.set_by (held terms (uri_of call) before) call ++ details

-- ---- two texts that may differ

-- nothing where they are equal, or where they differ
abbrev pub FindsDifference : Encoding → Text → Text → List ℕ → Option (List Fact) → Type 0
FindsDifference enc t other key None = t ≡ other
FindsDifference enc t other key (Some facts) =
    (t ≡ other → ⊥) × AreOfDifference enc t other key facts
