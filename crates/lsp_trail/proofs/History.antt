-- What the kept events do, the last ones of a list, and the documents that were opened, closed,
-- changed and shown, with one more.
use Rattle.std.specs.Prelude.{◌-◌, drop, length, map, nat_lt, not, option_map, reverse}
use Rattle.std.specs.Prelude.{if◌then◌else◌, is_some, String}
use Rattle.std.specs.List.{find, take_while, cons_option, fold}
use Rattle.std.specs.Option.{option_or}
use Rattle.std.proofs.Common.{◌≡◌, ◌<◌, ◌+◌, ℕ, Bool, true, false, List, [], ◌∷◌, ◌++◌, Bor, Option}
use Rattle.std.proofs.Common.{Some, None, refl, sym, ap, ◌∙◌, arith, append-nil}
use Rattle.std.proofs.lemmas.Bool.Decides.{nat_tests}
use Rattle.std.proofs.lemmas.List.{drop-append-le, drop-drop, drop-map, length-drop, length-map}
use Rattle.std.proofs.lemmas.List.{length_push, map-append, reverse-append}
use Rattle.std.proofs.lemmas.List.Folds.{find-append}
use Rattle.std.proofs.lemmas.List.Sums.{take_while-cons, fold-append}
use Rattle.std.proofs.lemmas.List.Elements.{filter_map-append}
use Rattle.std.specs.Global.{Global}
use Rattle.indexmap.proofs.ReorderLemmas.{map-reverse}
use Rattle.lsp_docs.proofs.Others.{find-map}
use Rattle.lsp_replay.specs.Common.{Event, kept_of, place_of, rule_at, Terms}
use Rattle.lsp_verdict.proofs.LookBackLemmas.{each_of-snoc}
use Rattle.lsp_replay.specs.declared.heard.EventPlace.{EventPlace}
use Rattle.lsp_trail.specs.History.{HoldsLast, last_ones, last_that, since_last, with_room}
use Rattle.lsp_trail.specs.History.{KeptCall, doing, each_kept, kept_as, OnDocument, is_change}
use Rattle.lsp_trail.specs.History.{is_closing, is_opening, is_showing}
use Rattle.lsp_trail.specs.declared.step.Step.{Step}
use Rattle.lsp_trail.specs.Openings.{OpenedBy, OpensBy, Touches, most_closings}
use Rattle.lsp_trail.specs.Openings.{most_openings, names_view, touched, with_name}
use Rattle.lsp_trail.specs.declared.openings.Openings.{Openings}

-- ---- so many as may be

room_made : {A : Type 0} (most : ℕ) (xs : List A)
    → with_room most (last_ones most xs) ≡ drop (length xs + 1 - most) xs
room_made most xs =
    ap (λ (n : ℕ). if nat_lt n most then last_ones most xs else drop 1 (last_ones most xs))
    (length-drop (length xs - most) xs)
    ∙ by_test (nat_lt (length xs - (length xs - most)) most) refl
  where
    by_test : (b : Bool) → nat_lt (length xs - (length xs - most)) most ≡ b
        → (if b then last_ones most xs else drop 1 (last_ones most xs))
        ≡ drop (length xs + 1 - most) xs
    by_test true p =
        let few : length xs - (length xs - most) < most = grind (arith, nat_tests) in
        let none : length xs - most ≡ length xs + 1 - most = omega (arith, few) in
        ap (λ (n : ℕ). drop n xs) none
    by_test false p =
        let many : most < length xs - (length xs - most) + 1 = grind (arith, nat_tests) in
        let one : (length xs - most) + 1 ≡ length xs + 1 - most = omega (arith, many) in
        drop-drop 1 (length xs - most) xs ∙ ap (λ (n : ℕ). drop n xs) one

-- one more behind all, and behind those that are left with room for it
pub last_behind_all : {A : Type 0} (most : ℕ) (xs : List A) (x : A) → 0 < most
    → last_ones most (xs ++ x ∷ []) ≡ with_room most (last_ones most xs) ++ x ∷ []
last_behind_all most xs x some =
    ap (λ (n : ℕ). drop (n - most) (xs ++ x ∷ [])) (length_push xs x)
    ∙ drop-append-le (length xs + 1 - most) xs (x ∷ []) (omega (arith, some))
    ∙ ap (λ (l : List _). l ++ x ∷ []) (sym (room_made most xs))

-- one more is held, behind what is left of those held
pub held-push : {A B : Type 0} (view : A → B) (most : ℕ) (old new : List A) (x : A) (all : List B)
    → 0 < most → new ≡ with_room most old ++ x ∷ []
    → map view old ≡ last_ones most all → map view new ≡ last_ones most (all ++ view x ∷ [])
held-push view most old new x all some more are =
    ap (map view) more
    ∙ map-append view (with_room most old) (x ∷ [])
    ∙ ap (λ (l : List _). l ++ view x ∷ []) (by_test (nat_lt (length old) most))
    ∙ ap (λ (n : ℕ). (if nat_lt n most then map view old else drop 1 (map view old)) ++ view
    x ∷ []) (sym (length-map old view))
    ∙ ap (λ (l : List _). with_room most l ++ view x ∷ []) are
    ∙ sym (last_behind_all most all (view x) some)
  where
    by_test : (b : Bool) → map view (if b then old else drop 1 old)
        ≡ (if b then map view old else drop 1 (map view old))
    by_test true = refl
    by_test false = sym (drop-map view 1 old)

-- nothing more
pub none_held : {A B : Type 0} (view : A → B) (most : ℕ) (o : Option B) (kept : List A) → o ≡ None
    → HoldsLast view most (cons_option o []) kept kept
none_held {A} {B} view most o kept none = λ all are.
    are
    ∙ ap (last_ones most) (sym (append-nil all))
    ∙ ap (λ (w : Option B). last_ones most (all ++ cons_option w [])) (sym none)

-- one more
pub one_held : {A B : Type 0} (view : A → B) (most : ℕ) (x : A) (old new : List A) → 0 < most
    → new ≡ with_room most old ++ x ∷ [] → HoldsLast view most (view x ∷ []) old new
one_held view most x old new some pushed = λ all are.
    held-push view most old new x all some pushed are

-- ---- the last one that passes

-- the last of the second part, or else of the first
last_of_parts : {A : Type 0} (p : A → Bool) (first second all : List A) (x y : Option (Bor A))
    → option_map (λ r. r.now) x ≡ last_that p first → option_map (λ r. r.now) y ≡ last_that p second
    → first ++ second ≡ all → option_map (λ r. r.now) (option_or y x) ≡ last_that p all
last_of_parts p first second all x y is_x is_y whole =
    in_turn y
    ∙ (λ i. option_or (is_y i) (is_x i))
    ∙ sym (find-append p (reverse second) (reverse first))
    ∙ ap (find p) (sym (reverse-append first second))
    ∙ ap (last_that p) whole
  where
    in_turn : (y : Option (Bor _)) → option_map (λ r. r.now) (option_or y x)
        ≡ option_or (option_map (λ r. r.now) y) (option_map (λ r. r.now) x)
    in_turn None = refl
    in_turn (Some r) = refl

-- it is seen as the last one of those that are seen
last_seen : {A B : Type 0} (view : A → B) (p : B → Bool) (xs : List A)
    → option_map view (last_that (λ x. p (view x)) xs) ≡ last_that p (map view xs)
last_seen view p xs = sym (find-map p view (reverse xs)) ∙ ap (find p) (map-reverse view xs)

-- the same in two parts
pub last_held : {A B : Type 0} (view : A → B) (p : B → Bool) (first second all : List A)
    (x y : Option (Bor A)) → option_map (λ r. r.now) x ≡ last_that (λ a. p (view a)) first
    → option_map (λ r. r.now) y ≡ last_that (λ a. p (view a)) second → first ++ second ≡ all
    → option_map view (option_map (λ r. r.now) (option_or y x)) ≡ last_that p (map view all)
last_held view p first second all x y is_x is_y whole =
    ap (option_map view) (last_of_parts (λ a. p (view a)) first second all x y is_x is_y whole)
    ∙ last_seen view p all

-- one that is lent
pub last_lent : {A B : Type 0} (view : A → B) (p : B → Bool) (first second all : List A)
    (x y : Option (Bor A)) → option_map (λ r. r.now) x ≡ last_that (λ a. p (view a)) first
    → option_map (λ r. r.now) y ≡ last_that (λ a. p (view a)) second → first ++ second ≡ all
    → option_map (λ (r : Bor A). view r.now) (option_or y x) ≡ last_that p (map view all)
last_lent {A} {B} view p first second all x y is_x is_y whole =
    seen (option_or y x) ∙ last_held view p first second all x y is_x is_y whole
  where
    seen : (o : Option (Bor A)) → option_map (λ (r : Bor A). view r.now) o
        ≡ option_map view (option_map (λ (r : Bor A). r.now) o)
    seen None = refl
    seen (Some r) = refl

-- ---- what comes behind it

pub since_last-push : {A : Type 0} (p : A → Bool) (xs : List A) (x : A)
    → since_last p (xs ++ x ∷ []) ≡ (if p x then [] else since_last p xs ++ x ∷ [])
since_last-push p xs x =
    ap (λ (l : List _). reverse (take_while (λ y. not (p y)) l)) (reverse-append xs (x ∷ []))
    ∙ ap reverse (take_while-cons (λ y. not (p y)) x (reverse xs))
    ∙ by_test (p x)
  where
    by_test : (b : Bool)
        → reverse (if not b then x ∷ take_while (λ y. not (p y)) (reverse xs) else [])
        ≡ (if b then [] else since_last p xs ++ x ∷ [])
    by_test true = refl
    by_test false = reverse-append (x ∷ []) (take_while (λ y. not (p y)) (reverse xs))

-- ---- what the kept events do, with one event more

module _ {X : Type 0} (f : EventPlace → List Event → Event → Option X) (terms : Terms)
    (before : List Event) (e : Event) where
  abbrev more : Option ℕ → EventPlace → List X
  more rule p = each_kept f terms before
      ++ cons_option (if is_some rule then None else f p (kept_of terms before) e) []

  -- **an event that offends adds nothing**
  pub refused_more : (rule : ℕ) → rule_at terms before e ≡ Some rule
      → each_kept f terms (before ++ e ∷ []) ≡ each_kept f terms before
  refused_more rule is =
      each_of-snoc (kept_as f terms) before e
      ∙ ap (λ (o : Option ℕ). more o (place_of before e)) is
      ∙ append-nil (each_kept f terms before)

  -- **one that is kept adds this**
  pub kept_more : (p : EventPlace) (o : Option X) → rule_at terms before e ≡ None
      → p ≡ place_of before e → f p (kept_of terms before) e ≡ o
      → each_kept f terms (before ++ e ∷ []) ≡ each_kept f terms before ++ cons_option o []
  kept_more p o kept number is =
      each_of-snoc (kept_as f terms) before e
      ∙ ap (λ (r : Option ℕ). more r (place_of before e)) kept
      ∙ ap (more None) (sym number)
      ∙ ap (λ (w : Option X). each_kept f terms before ++ cons_option w []) is

-- those of one kind, with one call more
pub doing-push : (kind : Step → Bool) (calls : List KeptCall) (k : KeptCall)
    → doing kind (calls ++ k ∷ []) ≡ doing kind calls ++ doing kind (k ∷ [])
doing-push kind calls k = filter_map-append _ calls (k ∷ [])

-- ---- the documents that were opened, closed, changed and shown, with one kept call more

-- the first documents of these, and of those behind them
touched-more : (ons more : List OnDocument) (old new : List (String Global))
    → names_view old ≡ touched ons → Touches more old new → names_view new ≡ touched (ons ++ more)
touched-more ons more old new are is =
    is
    ∙ ap (λ (names : List (List ℕ)). fold with_next names more) are
    ∙ sym (fold-append with_next [] ons more)
  where
    with_next : List (List ℕ) → OnDocument → List (List ℕ)
    with_next names on = with_name names on.uri

-- **what is held stands for it too**
pub opened_more : (old new : Openings) (calls : List KeptCall) (k : KeptCall)
    → OpenedBy old calls → OpensBy k old new → OpenedBy new (calls ++ k ∷ [])
opened_more old new calls k are opens = record {
  opened_are = opens.opened (doing is_opening calls) are.opened_are
      ∙ ap (last_ones most_openings) (sym (doing-push is_opening calls k));
  closed_are = opens.closed (doing is_closing calls) are.closed_are
      ∙ ap (last_ones most_closings) (sym (doing-push is_closing calls k));
  changed_are = touched-more (doing is_change calls) (doing is_change (k ∷ [])) old.changed.items
      new.changed.items are.changed_are opens.changed
      ∙ ap touched (sym (doing-push is_change calls k));
  shown_are = touched-more (doing is_showing calls) (doing is_showing (k ∷ [])) old.shown.items
      new.shown.items are.shown_are opens.shown
      ∙ ap touched (sym (doing-push is_showing calls k));
}
