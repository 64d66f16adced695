-- What is said of suspects, where there are none, and where something is held of a document.
use Rattle.std.specs.Prelude.{ℤ, int_lt, if◌then◌else◌, MatchOption, option_to_list}
use Rattle.std.proofs.Common.{◌≡◌, ℕ, Bool, true, false, List, [], ◌∷◌, ◌++◌, Option, Some, None}
use Rattle.std.proofs.Common.{refl, sym, ap, ◌∙◌, append-nil, append_assoc, subst}
use Rattle.lsp_trail.specs.Common.{are_few, Call, Encoding, Event, EventPlace, if_later, later}
use Rattle.lsp_trail.specs.Common.{SentEdits, ShownText, Terms, Text, Version}
use Rattle.lsp_facts.specs.DocumentFacts.{fits_fact}
use Rattle.lsp_facts.specs.Fact.{Fact}
use Rattle.lsp_facts.specs.TwoTexts.{TwoTexts}
use Rattle.lsp_trail.specs.Bases.{HoldsAny, base_in, sent_in, text_in}
use Rattle.lsp_origins.specs.Fits.{if_named, own_edits, reached, suspected}
use Rattle.lsp_origins.specs.Told.{fitting_any, setters_until, taken_any, told, told_facts, told_of}
use Rattle.lsp_origins.specs.declared.suspects.Until.{Until}
use Rattle.lsp_origins.specs.declared.suspects.Until.TheVariants as until
use Rattle.lsp_trail.specs.declared.base.Base.{Base}
use Rattle.lsp_trail.specs.declared.mark.VersionEvent.{VersionEvent}
use Rattle.lsp_trail.proofs.LaterChanges.{many-front}

-- ---- no suspects

-- too many changes follow the base
pub unsuspected : (base : Version) (limit : Until) (sent : List SentEdits) (call : Call)
    → are_few (later base.number sent) ≡ false → suspected base limit sent call ≡ []
unsuspected base limit sent call many =
    ap (λ (b : Bool). if b then if_named (reached limit (later base.number sent) ++ own_edits call)
    else [])
    (many-front (later base.number sent) (own_edits call) many)

abbrev told_any : Terms → Encoding → Text → List VersionEvent → Option ShownText → List SentEdits
    → Text → List Fact
told_any terms enc t setters shown sent other =
    fits_fact (fitting_any terms enc t sent other) ++ taken_any terms enc t setters shown sent other

-- then nothing is said
pub none_told : (terms : Terms) (enc : Encoding) (limit : Until) (setters : List VersionEvent)
    (shown : Option ShownText) (sent : List SentEdits) (call : Call) (base : Version)
    (texts : Option TwoTexts)
    → suspected base limit sent call ≡ []
    → told_of terms enc limit setters shown sent call (Some base) texts ≡ []
none_told terms enc limit setters shown sent call base None none = refl
none_told terms enc limit setters shown sent call base (Some texts) none =
    ap (λ l. told_any terms enc base.text setters (if_later base.number shown) l texts.in_editor)
    none

-- nor without two texts
pub none_differ : (terms : Terms) (enc : Encoding) (limit : Until) (setters : List VersionEvent)
    (shown : Option ShownText) (sent : List SentEdits) (call : Call) (base : Option Version)
    → told_of terms enc limit setters shown sent call base None ≡ []
none_differ terms enc limit setters shown sent call None = refl
none_differ terms enc limit setters shown sent call (Some base) = refl

-- ---- what is held of a document

-- a base of it is known
pub record IsKnown (terms : Terms) (equal : Option VersionEvent) (versions : List Version)
    (sent : List SentEdits) (b : Base) (t : Text) : Type 0 where
  pub base : Version
  pub is : base_in equal versions ≡ Some base
  pub since : b.since ≡ base.number
  pub text : t ≡ base.text
  pub all : sent_in b ≡ later base.number sent
  pub few : are_few (sent_in b) ≡ true

module _ (terms : Terms) (equal : Option VersionEvent) (past kept : List Version)
    (sent : List SentEdits) where
  abbrev Holds : Option Version → Option Base → Type 0
  Holds h b = HoldsAny terms equal (past ++ option_to_list h) kept h sent b

  -- nothing is held: nothing is said
  pub nothing_told : (enc : Encoding) (limit : Until) (setters : List VersionEvent)
      (shown : Option ShownText) (call : Call) (h : Option Version) (texts : Option TwoTexts)
      → (h ≡ None → past ≡ []) → Holds h None
      → told_of terms enc limit setters shown sent call
      (base_in equal (past ++ option_to_list h)) texts ≡ []
  nothing_told enc limit setters shown call None texts empty holds =
      ap (λ e. told_of terms enc limit setters shown sent call (base_in e (past ++ [])) texts)
      holds.0
      ∙ ap (λ ps. told_of terms enc limit setters shown sent call (base_in None (ps ++ [])) texts)
      (empty refl)
  nothing_told enc limit setters shown call (Some v) texts empty holds =
      ap (λ o. told_of terms enc limit setters shown sent call o texts) holds.is
      ∙ none_told terms enc limit setters shown sent call holds.base texts
      (unsuspected holds.base limit sent call holds.holds.many)

  -- no text is held
  pub no_text_told : (enc : Encoding) (limit : Until) (setters : List VersionEvent)
      (shown : Option ShownText) (call : Call) (h : Option Version) (b : Base)
      (texts : Option TwoTexts) → text_in b ≡ None → Holds h (Some b)
      → told_of terms enc limit setters shown sent call
      (base_in equal (past ++ option_to_list h)) texts ≡ []
  no_text_told enc limit setters shown call None b texts none holds = absurd (cc holds.1)
  no_text_told enc limit setters shown call (Some v) b texts none holds =
      let gone : int_lt holds.base.number b.since ≡ true =
      subst (λ o. MatchOption o (int_lt holds.base.number b.since ≡ true)
      (λ t. (b.since ≡ holds.base.number) × (t ≡ holds.base.text))) none holds.holds.text in
      ap (λ o. told_of terms enc limit setters shown sent call o texts) holds.is
      ∙ none_told terms enc limit setters shown sent call holds.base texts
      (unsuspected holds.base limit sent call (holds.holds.since_base gone))

  -- a text is held: it is that of the base
  pub known : (h : Option Version) (b : Base) (t : Text) → text_in b ≡ Some t → Holds h (Some b)
      → IsKnown terms equal (past ++ option_to_list h) sent b t
  known None b t is holds = absurd (cc holds.1)
  known (Some v) b t is holds =
      let own : (b.since ≡ holds.base.number) × (t ≡ holds.base.text) =
      subst (λ o. MatchOption o (int_lt holds.base.number b.since ≡ true)
      (λ t. (b.since ≡ holds.base.number) × (t ≡ holds.base.text))) is holds.holds.text in
      record {
        base = holds.base;
        is = holds.is;
        since = own.0;
        text = own.1;
        all = holds.holds.sent ∙ ap (λ n. later n sent) own.0;
        few = holds.holds.few;
      }

-- ---- some suspects

-- it is what these tell
pub some_told : (terms : Terms) (enc : Encoding) (t other : Text) (setters : List VersionEvent)
    (shown : Option ShownText) (sent : List SentEdits) → (sent ≡ [] → ⊥)
    → told_any terms enc t setters shown sent other ≡ told terms enc t setters shown sent other
some_told terms enc t other setters shown [] some = absurd (some refl)
some_told terms enc t other setters shown (s ∷ more) some = refl

-- ---- nothing is said

pub untold : (old : List Fact) (terms : Terms) (before : List Event) (rule : ℕ) (limit : Until)
    (call : Call) → told_facts terms before rule limit call ≡ []
    → old ≡ old ++ told_facts terms before rule limit call
untold old terms before rule limit call none =
    sym (append-nil old) ∙ ap (λ (more : List Fact). old ++ more) (sym none)

-- ---- the messages that may be named

-- the text did not come about by the call
pub no_own_setter : (limit : Until) (done : List VersionEvent)
    → ((p : EventPlace) (number : ℤ) → limit ≡ until.Message p number → ⊥)
    → done ≡ setters_until limit done
no_own_setter (until.Message p number) done not = absurd (not p number refl)
no_own_setter _ done not = sym (append-nil done)

-- ---- the lines, one after another

pub told_in_turn : (old a b c d e f : List Fact)
    → old ++ a ++ b ++ c ++ d ++ e ++ f ≡ old ++ (a ++ (b ++ c ++ d ++ e ++ f))
told_in_turn old a b c d e f =
    ap (λ (l : List Fact). l ++ d ++ e ++ f) (append_assoc (old ++ a) b c)
    ∙ ap (λ (l : List Fact). l ++ e ++ f) (append_assoc (old ++ a) (b ++ c) d)
    ∙ ap (λ (l : List Fact). l ++ f) (append_assoc (old ++ a) (b ++ c ++ d) e)
    ∙ append_assoc (old ++ a) (b ++ c ++ d ++ e) f
    ∙ append_assoc old a (b ++ c ++ d ++ e ++ f)
