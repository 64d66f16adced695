-- Which edits were made in a text that had changed since they were asked for, as the code has it.
use Rattle.std.specs.Prelude.{◌&&◌, if◌then◌else◌, not, option_and_then}
use Rattle.std.proofs.Common.{◌≡◌, ℕ, ℤ, Bool, true, false, List, Option, Some, None, refl, sym, ap}
use Rattle.std.proofs.Common.{◌∙◌}
use Rattle.lsp_trail.specs.Common.{Bytes, Call, closing_of, closings, Edit, Encoding, Event}
use Rattle.lsp_trail.specs.Common.{EventPlace, held, kept, last_setter, last_that, recent, steps}
use Rattle.lsp_trail.specs.Common.{Terms, Text}
use Rattle.lsp_notes.specs.AtOnce.{makes}
use Rattle.lsp_notes.specs.LateEdits.{LateAnswer, are_held, has_changed, if_late, is_since}
use Rattle.lsp_notes.specs.LateEdits.{late_answer, late_words, made_late, makes_late}
use Rattle.lsp_notes.specs.LateEdits.{words_if_late, words_since}
use Rattle.lsp_notes.specs.ServerEdits.{if_unsent}
use Rattle.lsp_notes.specs.TextsSince.{version_at}
use Rattle.lsp_notes.specs.Unsent.{is_never, is_unsent, is_unset, unsent_words}
use Rattle.lsp_trail.specs.declared.mark.VersionEvent.{VersionEvent}
use Rattle.lsp_trail.specs.declared.openings.Closing.{Closing}

-- ---- of the newer text, and not of the older one

module _ (enc : Encoding) (edits : List Edit) (older newer now : Option Text) where
  pub no_older : None ≡ older → false ≡ makes_late enc edits older newer now
  no_older is = ap (λ (o : Option Text). makes_late enc edits o newer now) is

  module _ (a b t : Text) (has : Some a ≡ older) (also : Some b ≡ newer) (is : Some t ≡ now) where
    so : (makes enc edits t b && not (makes enc edits t a))
        ≡ makes_late enc edits older newer now
    so = λ i. makes_late enc edits (has i) (also i) (is i)

    pub made_not : makes enc edits t b ≡ false
        → false ≡ makes_late enc edits older newer now
    made_not none = sym (ap (λ (x : Bool). x && not (makes enc edits t a)) none) ∙ so

    pub made_newer : (m : Bool) → makes enc edits t b ≡ true
        → m ≡ makes enc edits t a
        → not m ≡ makes_late enc edits older newer now
    made_newer m of_newer of_older =
        ap not of_older
        ∙ sym (ap (λ (x : Bool). x && not (makes enc edits t a)) of_newer) ∙ so

-- ---- the words of a note

module _ (terms : Terms) (made : List Call) (uri : Bytes) (enc : Encoding)
    (setters : List VersionEvent) where
  module _ (setter : VersionEvent) (a : LateAnswer) (newer : ℤ) (own : setter.version ≡ newer) where
    abbrev so_late : ℤ → ℤ → Bool
    so_late older number =
        made_late enc a.edits older number (kept terms uri made) (held terms uri made)

    -- the version at the request is not known
    pub words_unknown : None ≡ version_at a.asked setters
        → None ≡ words_if_late terms made uri enc setters setter a
    words_unknown is =
        ap (option_and_then (λ older. if so_late older setter.version then Some (late_words a)
        else None)) is

    pub words_not : (older : ℤ) → Some older ≡ version_at a.asked setters
        → so_late older newer ≡ false → None ≡ words_if_late terms made uri enc setters setter a
    words_not older is late =
        sym (ap (λ (b : Bool). if b then Some (late_words a) else None)
        (ap (so_late older) own ∙ late))
        ∙ ap (option_and_then (λ (o : ℤ). if so_late o setter.version then Some (late_words a)
        else None)) is

    pub words_so : (older : ℤ) (words : List ℕ) → Some older ≡ version_at a.asked setters
        → so_late older newer ≡ true → words ≡ late_words a
        → Some words ≡ words_if_late terms made uri enc setters setter a
    words_so older words is late are =
        ap Some are
        ∙ sym (ap (λ (b : Bool). if b then Some (late_words a) else None)
        (ap (so_late older) own ∙ late))
        ∙ ap (option_and_then (λ (o : ℤ). if so_late o setter.version then Some (late_words a)
        else None)) is

  -- no message set a version
  pub words_first : (answers : List LateAnswer) → None ≡ last_setter setters
      → None ≡ words_since terms made uri enc setters answers
  words_first answers is =
      ap (option_and_then (λ setter. option_and_then
      (words_if_late terms made uri enc setters setter)
      (last_that (is_since uri setter) answers))) is

  -- the last of the answers that came since
  pub words_by : (answers : List LateAnswer) (setter : VersionEvent) (o : Option LateAnswer)
      (words : Option (List ℕ)) → Some setter ≡ last_setter setters
      → o ≡ last_that (is_since uri setter) answers
      → words ≡ option_and_then (words_if_late terms made uri enc setters setter) o
      → words ≡ words_since terms made uri enc setters answers
  words_by answers setter o words is last are =
      are
      ∙ ap (option_and_then (words_if_late terms made uri enc setters setter)) last
      ∙ ap (option_and_then (λ s. option_and_then (words_if_late terms made uri enc setters s)
      (last_that (is_since uri s) answers))) is

-- ---- answers that came late

module _ (uri : List ℕ) (asked answered : EventPlace) (texts : List Text) (edits : List Edit) where
  abbrev answer_by : Bool → Bool → Option LateAnswer
  answer_by changed held =
      if changed && held then Some (late_answer uri asked answered edits) else None

  pub not_changed : has_changed texts ≡ false → if_late uri asked answered texts edits ≡ None
  not_changed is = ap (λ b. answer_by b (are_held edits)) is

  pub not_held : are_held edits ≡ false → if_late uri asked answered texts edits ≡ None
  not_held is = ap (answer_by (has_changed texts)) is ∙ none_so (has_changed texts)
    where
      none_so : (b : Bool) → answer_by b false ≡ None
      none_so true = refl
      none_so false = refl

  pub is_late : has_changed texts ≡ true → are_held edits ≡ true
      → if_late uri asked answered texts edits
      ≡ Some (late_answer uri asked answered edits)
  is_late changed held = λ i. answer_by (changed i) (held i)

-- ---- a version that no message has set

module _ (terms : Terms) (before : List Event) (uri : List ℕ) (number : ℤ)
    (setters : List VersionEvent) (closing : Closing) (unset never : Bool)
    (are : setters ≡ recent (steps terms uri before))
    (closes : closing ≡ closing_of uri (closings terms before))
    (unset_is : unset ≡ is_unset number setters) (never_is : never ≡ is_never closing) where
  sent_by : (unset && never) ≡ is_unsent terms before uri number
  sent_by = λ i. ((unset_is ∙ ap (is_unset number) are) i) && ((never_is ∙ ap is_never closes) i)

  words_by_test : (b : Bool) → (unset && never) ≡ b
      → (if b then Some (unsent_words number) else None) ≡ if_unsent terms before uri number
  words_by_test b is =
      ap (λ (x : Bool). if x then Some (unsent_words number) else None) (sym is ∙ sent_by)

  pub closed_before : unset ≡ true → never ≡ false → None ≡ if_unsent terms before uri number
  closed_before is none = words_by_test false (λ i. is i && none i)

  pub unsent_so : unset ≡ true → never ≡ true
      → Some (unsent_words number) ≡ if_unsent terms before uri number
  unsent_so is never_so = words_by_test true (λ i. is i && never_so i)

-- a message may have set it
pub set_before : (terms : Terms) (before : List Event) (uri : List ℕ) (number : ℤ)
    (setters : List VersionEvent) (unset : Bool) → setters ≡ recent (steps terms uri before)
    → unset ≡ is_unset number setters → unset ≡ false
    → None ≡ if_unsent terms before uri number
set_before terms before uri number setters unset are is none =
    let never = is_never (closing_of uri (closings terms before)) in
    ap (λ (b : Bool). if b && never then Some (unsent_words number) else None)
    (sym none ∙ is ∙ ap (is_unset number) are)
