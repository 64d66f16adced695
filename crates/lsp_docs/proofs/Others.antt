-- Versions of a given number, as they are looked for, and texts that are the same.
use Rattle.std.specs.Prelude.{ℤ, int_lt, ◌&&◌, not, if◌then◌else◌, option_to_list}
use Rattle.std.specs.Ordering.{int_eq}
use Rattle.std.proofs.Common.{◌≡◌, ◌↔◌, ℕ, Bool, true, false, List, [], ◌∷◌, ◌++◌, map, Option}
use Rattle.std.proofs.Common.{Some, None, refl, sym, ap, subst, ◌∙◌, inl, inr, true≢false}
use Rattle.std.proofs.lemmas.Bool.{and_parts, cases_Bool}
use Rattle.std.proofs.lemmas.Bool.Decides.{Decides-int_eq}
use Rattle.std.proofs.lemmas.List.Folds.{find-append}
use Rattle.std.specs.List.{find, list_all}
use Rattle.std.specs.Option.{option_map, option_or}
use Rattle.std.specs.Str.{bytes_eq, chars, IsUtf8}
use Rattle.std.proofs.lemmas.Slice.Eq.{bytes_eq-Decides}
use Rattle.lsp_text.proofs.Counting.{chars_same}
use Rattle.lsp_types.specs.declared.line_ends.LineEnds.{LineEnds}
use Rattle.lsp_docs.specs.Calls.{Text, Bytes, Call}
use Rattle.lsp_docs.specs.Documents.{Version, held, is_after, is_at, versioned, Terms}
use Rattle.lsp_docs.specs.Laws.{rises}
use Rattle.lsp_docs.specs.Rules.{differs_from, other_in, other_than, text_at, text_in, AreAccepted}
use Rattle.lsp_docs.specs.Snapshots.{kept}
use Rattle.lsp_docs.proofs.Past.{kept-rises}
use Rattle.lsp_docs.proofs.Due.{apart, eq_flip}
use Rattle.lsp_text.specs.SameText.{SameText, compared, same_text}

-- a test on the parts of a list
pub find-map : {A B : Type 0} (p : B → Bool) (f : A → B) (xs : List A)
    → find p (map f xs) ≡ option_map f (find (λ x. p (f x)) xs)
find-map p f [] = refl
find-map p f (x ∷ xs) = elim (cases_Bool (p (f x)))
    [ inl h ↦ rw h refl | inr h ↦ rw h (find-map p f xs) ]

pub map-twice : {A B C : Type 0} (g : B → C) (f : A → B) (o : Option A)
    → option_map g (option_map f o) ≡ option_map (λ x. g (f x)) o
map-twice g f None = refl
map-twice g f (Some x) = refl

-- texts are the same where their bytes are
pub same_characters : (a b : List ℕ) → IsUtf8 a → IsUtf8 b
    → bytes_eq a b ≡ bytes_eq (chars b) (chars a)
same_characters a b u v =
    elim (cases_Bool (bytes_eq a b)) [
      | inl h ↦ h ∙ sym ((bytes_eq-Decides (chars b) (chars a)).1
          (ap chars (sym ((bytes_eq-Decides a b).0 h))))
      | inr h ↦ elim (cases_Bool (bytes_eq (chars b) (chars a))) [
        | inl k ↦ absurd (true≢false (sym ((bytes_eq-Decides a b).1
            (sym (chars_same b a v u ((bytes_eq-Decides (chars b) (chars a)).0 k)))) ∙ h))
        | inr k ↦ h ∙ sym k
      ]
    ]

pub map-seen : {A B C : Type 0} (g : B → C) (f : A → B) (xs : List A)
    → map g (map f xs) ≡ map (λ x. g (f x)) xs
map-seen g f [] = refl
map-seen g f (x ∷ xs) = ap (λ l. g (f x) ∷ l) (map-seen g f xs)

-- ---- among what is kept, and then what is held

pub at-first : (number : ℤ) (ks : List Version) (v : Version) (t : Text)
    → text_in number ks ≡ Some t → text_at number ks (Some v) ≡ Some t
at-first number ks v t h =
    ap (option_map (λ (w : Version). w.text)) (find-append (is_at number) ks (v ∷ []))
    ∙ first_of (find (is_at number) ks) (find (is_at number) (v ∷ [])) t h
  where
    first_of : (o p : Option Version) (t : Text) → option_map (λ (w : Version). w.text) o ≡ Some t
        → option_map (λ (w : Version). w.text) (option_or o p) ≡ Some t
    first_of None p t h = absurd (cc)
    first_of (Some w) p t h = h

pub at-behind : (number : ℤ) (ks : List Version) (v : Version) → text_in number ks ≡ None
    → text_at number ks (Some v) ≡ text_in number (v ∷ [])
at-behind number ks v h =
    ap (option_map (λ (w : Version). w.text)) (find-append (is_at number) ks (v ∷ []))
    ∙ behind (find (is_at number) ks) (find (is_at number) (v ∷ [])) h
  where
    behind : (o p : Option Version) → option_map (λ (w : Version). w.text) o ≡ None
        → option_map (λ (w : Version). w.text) (option_or o p)
        ≡ option_map (λ (w : Version). w.text) p
    behind None p h = refl
    behind (Some w) p h = absurd (cc)

-- ---- where they rise, only one is of a number

-- of a version below all of these none has the number
none_behind : (ends : LineEnds) (x : Version) (t : Text) (vs : List Version)
    → list_all (is_after x.number) vs ≡ true → other_in ends (versioned x.number t) vs ≡ None
none_behind ends x t [] h = refl
none_behind ends x t (v ∷ vs) h =
    let parts = and_parts (int_lt x.number v.number) (list_all (is_after x.number) vs) h in
    let away : int_eq v.number x.number ≡ false =
    eq_flip x.number v.number (apart x.number v.number parts.0) in
    ap (λ b. option_map (λ (w : Version). w.text)
    (if b && not (same_text ends v.text t) then Some v
    else find (differs_from ends (versioned x.number t)) vs)) away
    ∙ none_behind ends x t vs parts.1

-- the first of these with another text, or of the number, by what is said of its head
abbrev other_front : Version → Option Version → Bool → Bool → Option Text
other_front v o at same =
    option_map (λ (w : Version). w.text) (if at && not same then Some v else o)

abbrev at_front : Version → Option Version → Bool → Option Text
at_front v o at = option_map (λ (w : Version). w.text) (if at then Some v else o)

-- **so one with another text is the one of that number**
pub other-at : (ends : LineEnds) (number : ℤ) (t u : Text) (vs : List Version) → rises vs ≡ true
    → other_in ends (versioned number t) vs ≡ Some u → text_in number vs ≡ Some u
other-at ends number t u [] h e = absurd (cc)
other-at ends number t u (v ∷ vs) h e =
    by_number (int_eq v.number number) refl (same_text ends v.text t) refl
    (λ k. other-at ends number t u vs
    (and_parts (list_all (is_after v.number) vs) (rises vs) h).1 k)
  where
    others : Option Version
    others = find (differs_from ends (versioned number t)) vs

    front : Bool → Option Text
    front b = at_front v (find (is_at number) vs) b

    by_number : (b : Bool) → int_eq v.number number ≡ b → (same : Bool)
        → same_text ends v.text t ≡ same
        → (other_in ends (versioned number t) vs ≡ Some u → text_in number vs ≡ Some u)
        → text_in number (v ∷ vs) ≡ Some u
    by_number true at false other_text more =
        ap front at ∙ sym (ap (λ b. other_front v others b false) at)
        ∙ sym (ap (other_front v others (int_eq v.number number)) other_text) ∙ e
    by_number true at true same_text_is more =
        let number_is : v.number ≡ number = (Decides-int_eq v.number number).0 at in
        let above = (and_parts (list_all (is_after v.number) vs) (rises vs) h).0 in
        let none : other_in ends (versioned number t) vs ≡ None =
        subst (λ n. other_in ends (versioned n t) vs ≡ None) number_is
        (none_behind ends v t vs above) in
        let some : other_in ends (versioned number t) vs ≡ Some u =
        sym (ap (λ b. other_front v others b true) at)
        ∙ sym (ap (other_front v others (int_eq v.number number)) same_text_is) ∙ e in
        absurd (cc (sym none ∙ some))
    by_number false at same same_is more =
        ap front at
        ∙ more (sym (ap (λ b. other_front v others b same) at)
        ∙ sym (ap (other_front v others (int_eq v.number number)) same_is) ∙ e)

-- of what is held and kept after accepted calls
pub held-at : (terms : Terms) (uri : Bytes) (calls : List Call) (ends : LineEnds) (number : ℤ)
    (t u : Text) → AreAccepted terms calls
    → other_than ends (versioned number t) (kept terms uri calls) (held terms uri calls) ≡ Some u
    → text_at number (kept terms uri calls) (held terms uri calls) ≡ Some u
held-at terms uri calls ends number t u accepted e =
    other-at ends number t u (kept terms uri calls ++ option_to_list (held terms uri calls))
    (kept-rises terms uri calls accepted) e

-- what says of two texts that they are the same
pub same_where : (ends : LineEnds) (a b : List ℕ) (r : Bool) → (r ≡ true) ↔ SameText ends a b
    → r ≡ same_text ends a b
same_where ends a b r h =
    let is = bytes_eq-Decides (compared ends a) (compared ends b) in
    elim (cases_Bool r) [
      | inl p ↦ p ∙ sym (is.1 (h.0 p))
      | inr p ↦ elim (cases_Bool (same_text ends a b)) [
        | inl q ↦ absurd (true≢false (sym (h.1 (is.0 q)) ∙ p))
        | inr q ↦ p ∙ sym q
      ]
    ]
