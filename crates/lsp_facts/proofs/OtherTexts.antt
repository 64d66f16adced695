-- The snapshots that refute a text, as a loop looks for the first of them.
use Rattle.std.proofs.Common.{◌≡◌, ◌<◌, ◌+◌, ℕ, Bool, true, false, List, [], ◌∷◌, ◌++◌, length}
use Rattle.std.proofs.Common.{get_or, take, drop, Some, None, sym, ap, ◌∙◌, ◌≤◌, zero, suc}
use Rattle.std.proofs.Common.{append-nil, Option, Result, Ok, Err, refl, arith, inl, inr}
use Rattle.std.proofs.Common.{Bor, String, true≢false}
use Rattle.std.proofs.lemmas.Bool.{cases_Bool, cond-true, cond-false}
use Rattle.std.proofs.lemmas.Slice.Eq.{bytes_eq-Decides}
use Rattle.std.proofs.lemmas.List.{length-map, take_more, take-append-drop, at_drop_more}
use Rattle.std.proofs.lemmas.List.Folds.{find-append}
use Rattle.std.specs.Global.{Global}
use Rattle.std.specs.List.{find, list_any}
use Rattle.std.specs.Option.{option_or, option_map}
use Rattle.std.specs.Prelude.{slice_get, if◌then◌else◌, unwrap_or, not, ◌||◌, option_and_then, ℤ}
use Rattle.std.specs.Str.{bytes_eq}
use Rattle.std.specs.Result.{result_ok}
use Rattle.std.proofs.lemmas.Option.{slice_get-get_or}
use Rattle.lsp_replay.specs.Common.{applied, are_mixed, Call, call_view, changes, closes, Edit}
use Rattle.lsp_replay.specs.Common.{Encoding, IsMade, LineEnds, opens, same_text, saves, shows}
use Rattle.lsp_replay.specs.Common.{Terms, text_of, texts_of, uri_of, Version}
use Rattle.lsp_text.specs.SameText.{compared as compared_text}
use Rattle.lsp_docs.specs.Calls.{Text}
use Rattle.lsp_docs.specs.declared.call.Call as code
use Rattle.lsp_docs.specs.declared.call.Call.TheVariants.{Opens, Changes, Closes, Saves, Shows}
use Rattle.lsp_docs.proofs.Mixed.{alike_any}
use Rattle.lsp_replay.specs.declared.heard.EventPlace.{EventPlace}
use Rattle.lsp_verdict.specs.declared.verdict.Who.TheVariants.{Editor}
use Rattle.lsp_facts.specs.Refuting.{brings, first_other, is_other, is_other_at, others_of}
use Rattle.lsp_facts.specs.Refuting.{made_text, refuting, waiting_texts}
use Rattle.lsp_facts.specs.TwoTexts.{TwoTexts, against, compared, two_texts}
use Rattle.lsp_facts.proofs.MadeChanges.{fails_some, makes_all}

module _ {X : Type 0} (p : X → Bool) (xs : List X) (i : ℕ) (x : X) (lt : i < length xs)
    (is : x ≡ get_or xs i x) where
  parts : xs ≡ take i xs ++ x ∷ drop (i + 1) xs
  parts = sym (take-append-drop i xs) ∙ (at_drop_more (λ (l : List X). take i xs ++ l) xs i x lt
      ∙ ap (λ y. take i xs ++ y ∷ drop (i + 1) xs) (sym is))

  -- one more that doesn't pass
  pub find-more : find p (take i xs) ≡ None → p x ≡ false → find p (take (i + 1) xs) ≡ None
  find-more none fails =
      ap (find p) (take_more xs i x lt)
      ∙ (find-append p (take i xs) (get_or xs i x ∷ [])
      ∙ (ap (λ o. option_or o (find p (get_or xs i x ∷ []))) none
      ∙ (ap (λ y. find p (y ∷ [])) (sym is) ∙ cond-false _ _ _ fails)))

  -- the first that passes
  pub find-here : find p (take i xs) ≡ None → p x ≡ true → find p xs ≡ Some x
  find-here none passes =
      ap (find p) parts
      ∙ (find-append p (take i xs) (x ∷ drop (i + 1) xs)
      ∙ (ap (λ o. option_or o (find p (x ∷ drop (i + 1) xs))) none ∙ cond-true _ _ _ passes))

-- ---- one more snapshot

-- a place, for want of another
abbrev nowhere : EventPlace
nowhere = record { event = 0; who = Editor; number = 0 }

module _ (ends : LineEnds) (t : Text) where
  -- the next one, where its text is another
  abbrev next : EventPlace → Option Text → List EventPlace
  next n u = if is_other_at ends t u then n ∷ [] else []

  more : (ns : List EventPlace) (us : List Text) (i : ℕ) (n : EventPlace) → slice_get ns i ≡ Some n
      → others_of ends t (take (suc i) ns) us
      ≡ others_of ends t (take i ns) us ++ next n (slice_get us i)
  more [] us i n h = absurd (cc)
  more (m ∷ ns) [] zero n h = refl
  more (m ∷ ns) (u ∷ us) zero n h =
      let same : m ≡ n = (let k : Some m ≡ Some n = h in cc) in
      ap (λ (k : EventPlace). if is_other ends t u then k ∷ [] else []) same
  more (m ∷ ns) [] (suc i) n h = refl
  more (m ∷ ns) (u ∷ us) (suc i) n h = by_test (is_other ends t u) (more ns us i n h)
    where
      by_test : (b : Bool) → others_of ends t (take (suc i) ns) us
          ≡ others_of ends t (take i ns) us ++ next n (slice_get us i)
          → (if b then m ∷ others_of ends t (take (suc i) ns) us else others_of ends t
          (take (suc i) ns) us)
          ≡ (if b then m ∷ others_of ends t (take i ns) us else others_of ends t (take i ns)
          us) ++ next n (slice_get us i)
      by_test true e = ap (λ (l : List EventPlace). m ∷ l) e
      by_test false e = e

  others-more : (ns : List EventPlace) (us : List Text) (i : ℕ) (n : EventPlace)
      → slice_get ns i ≡ Some n
      → others_of ends t (take (i + 1) ns) us
      ≡ others_of ends t (take i ns) us ++ next n (slice_get us i)
  others-more ns us i n h =
      let e : i + 1 ≡ suc i = omega arith in ap (λ (k : ℕ). others_of ends t (take k ns) us) e
      ∙ more ns us i n h

  pub others-there : (ns : List EventPlace) (us : List Text) (i : ℕ) (d : EventPlace)
      (xs : List EventPlace) → i < length ns
      → is_other_at ends t (slice_get us i) ≡ true → xs ≡ others_of ends t (take i ns) us
      → xs ++ get_or ns i d ∷ [] ≡ others_of ends t (take (i + 1) ns) us
  others-there ns us i d xs lt other is =
      ap (λ (l : List EventPlace). l ++ get_or ns i d ∷ []) is
      ∙ sym (others-more ns us i (get_or ns i d) (slice_get-get_or ns i d lt)
      ∙ ap (λ (b : Bool). others_of ends t (take i ns) us ++ (if b then get_or ns i d ∷ [] else []))
      other)

  pub others-passed : (ns : List EventPlace) (us : List Text) (i : ℕ) (xs : List EventPlace)
      → i < length ns
      → is_other_at ends t (slice_get us i) ≡ false → xs ≡ others_of ends t (take i ns) us
      → xs ≡ others_of ends t (take (i + 1) ns) us
  others-passed ns us i xs lt same is =
      let n = get_or ns i nowhere in
      is
      ∙ sym (others-more ns us i n (slice_get-get_or ns i nowhere lt)
      ∙ ap (λ (b : Bool). others_of ends t (take i ns) us ++ (if b then n ∷ [] else []))
      same ∙ append-nil (others_of ends t (take i ns) us))

-- ---- texts that are all the same

-- each is another, where the one that they equal is
all_others : (ends : LineEnds) (t first : Text) (us : List Text) (ns : List EventPlace)
    → is_other ends t first ≡ true → list_any (λ u. not (same_text ends u first)) us ≡ false
    → others_of ends t ns us ≡ take (length us) ns
all_others ends t first [] [] other alike = refl
all_others ends t first (u ∷ us) (n ∷ ns) other alike =
    let same = bytes_eq-Decides (compared_text ends u) (compared_text ends first) in
    elim (cases_Bool (same_text ends u first)) [
      | inl p ↦ rw (ap (λ x. not (bytes_eq (compared_text ends t) x)) (same.0 p) ∙ other)
          (ap (λ (l : List EventPlace). n ∷ l) (all_others ends t first us ns other (rw p at alike)))
      | inr p ↦ absurd (true≢false (rw p at alike))
    ]
all_others ends t first _ _ other alike = refl

-- so are all where one is
pub alike_others : (ends : LineEnds) (t : Text) (ss : List (String Global)) (ns : List EventPlace)
    → are_mixed ends (texts_of ss) ≡ false → list_any (is_other ends t) (texts_of ss) ≡ true
    → take (length ss) ns ≡ others_of ends t ns (texts_of ss)
alike_others ends t [] ns alike any = absurd (true≢false (sym any))
alike_others ends t (s ∷ ss) ns alike any =
    let first = text_of s in
    let itself = (bytes_eq-Decides (compared_text ends first) (compared_text ends first)).1 refl in
    ap (λ n. take n ns) (sym (length-map (s ∷ ss) text_of))
    ∙ sym (all_others ends t first (texts_of (s ∷ ss)) ns
    (alike_any ends t first (texts_of ss) alike ∙ any)
    (ap (λ b. not b || list_any (λ u. not (same_text ends u first)) (texts_of ss)) itself ∙ alike))

-- one is where the first is found
any_other : (ends : LineEnds) (us : List Text) (t : Text) (texts : TwoTexts)
    → option_map (two_texts t) (first_other ends t us) ≡ Some texts
    → list_any (is_other ends t) us ≡ true
any_other ends [] t texts h = absurd (cc)
any_other ends (u ∷ us) t texts h = elim (cases_Bool (is_other ends t u))
    [ inl e ↦ rw e refl | inr e ↦ rw e (any_other ends us t texts (rw e at h)) ]

-- the same of equal texts, as they are compared
pub others_as : (a b : LineEnds) (us ws : List Text) (t : Text) (ns others : List EventPlace)
    (texts : TwoTexts) → a ≡ b → us ≡ ws
    → (list_any (is_other a t) us ≡ true → others ≡ others_of a t ns us)
    → option_map (two_texts t) (first_other b t ws) ≡ Some texts → others ≡ others_of b t ns ws
others_as a b us ws t ns others texts p q are differ =
    are (ap (λ x. list_any (is_other x t) us) p ∙ ap (list_any (is_other b t)) q
    ∙ any_other b ws t texts differ)
    ∙ ap (λ x. others_of x t ns us) p ∙ ap (others_of b t ns) q

-- ---- the text that changes make

of_held : (terms : Terms) (enc : Encoding) (cs : List Edit) (h : Option Version) (t : Text) (r : Result Text ℕ) → Some t ≡ option_map (λ (v : Version). v.text) h → applied terms.limit enc t cs ≡ r
    → made_text terms enc cs h ≡ result_ok r
of_held terms enc cs None t r holds e = absurd (cc)
of_held terms enc cs (Some v) t r holds e =
    let same : v.text ≡ t = (let k : Some t ≡ Some v.text = holds in cc) in
    ap (λ (x : Text). result_ok (applied terms.limit enc x cs)) same ∙ ap result_ok e

-- none where nothing is held
pub none_held : (terms : Terms) (enc : Encoding) (cs : List Edit) (h : Option Version)
    → None ≡ option_map (λ (v : Version). v.text) h → None ≡ made_text terms enc cs h
none_held terms enc cs None holds = refl
none_held terms enc cs (Some v) holds = absurd (cc)

module _ (terms : Terms) (enc : Encoding) (cs : List Edit) (h : Option Version) (t : Text) (n : ℕ) (text : Text) (holds : Some t ≡ option_map (λ (v : Version). v.text) h) (made : IsMade terms.limit enc t cs n text) where
  pub all_make : length cs ≤ n → Some text ≡ made_text terms enc cs h
  all_make le = sym (of_held terms enc cs h t (Ok text) holds (makes_all terms.limit enc t cs n text made le))

  pub one_fails : n < length cs → None ≡ made_text terms enc cs h
  one_fails lt = let fails = fails_some terms.limit enc t cs n text made lt in sym (of_held terms enc cs h t (Err fails.0) holds fails.1)

-- ---- the version that a call brings its document to

-- it is compared with those that wait for it
pub compared_brought : (terms : Terms) (calls : List Call) (call : Call) (v : Version)
    → Some v ≡ brings terms calls call
    → against terms calls (uri_of call) v ≡ compared terms calls call
compared_brought terms calls (opens uri number text) v is =
    ap (option_and_then (against terms calls uri)) is
compared_brought terms calls (changes enc kind uri number edits) v is =
    ap (option_and_then (against terms calls uri)) is
compared_brought terms calls _ v is = absurd (cc)

-- so is one of a call that is neither a save nor a snapshot
pub by_brought : (terms : Terms) (calls : List Call) (call : code.Call)
    → ((uri : Bor (List ℕ)) (text : Option (Bor (List ℕ))) → call ≡ Saves uri text → ⊥)
    → ((uri : Bor (List ℕ)) (number : ℤ) (text : Bor (List ℕ)) → call ≡ Shows uri number text → ⊥)
    → option_and_then (against terms calls (uri_of (call_view call)))
    (brings terms calls (call_view call)) ≡ compared terms calls (call_view call)
by_brought terms calls (Saves uri text) no_save no_show = absurd (no_save uri text refl)
by_brought terms calls (Shows uri number text) no_save no_show = absurd (no_show uri number text refl)
by_brought terms calls _ no_save no_show = refl

pub refuting_brought : (terms : Terms) (calls : List Call) (call : Call) (v : Option Version)
    (ns others : List EventPlace) → v ≡ brings terms calls call
    → others ≡ unwrap_or (option_map (λ (w : Version). others_of terms.line_ends w.text ns
    (waiting_texts terms calls (uri_of call) w.number)) v) [] → others ≡ refuting terms calls call ns
refuting_brought terms calls call v ns others is are =
    are ∙ ap (λ o. unwrap_or (option_map (λ (w : Version). others_of terms.line_ends w.text ns
    (waiting_texts terms calls (uri_of call) w.number)) o) []) is
