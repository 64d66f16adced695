-- Where a JSON text ends, byte by byte, and how much of it lies behind a content.
use Rattle.std.specs.Prelude.{if◌then◌else◌, nat_lt, option_and_then, option_map, suc, MatchResult}
use Rattle.std.specs.Bool.{then_some}
use Rattle.std.specs.Result.{result_ok}
use Rattle.std.specs.Str.{IsUtf8, is_utf8}
use Rattle.std.proofs.Common.{◌≡◌, ◌+◌, ◌-◌, ◌<◌, ◌≤◌, ℕ, Bool, true, false, List, [], ◌∷◌, ◌++◌}
use Rattle.std.proofs.Common.{Option, Some, None, refl, sym, ap, ◌∙◌, append-nil, arith, drop, length}
use Rattle.std.proofs.Common.{Bor, Err, Ok, Result}
use Rattle.std.proofs.lemmas.Bool.Decides.{nat_tests}
use Rattle.std.proofs.lemmas.Str.{IsUtf8-from_is_utf8, is_utf8-from_IsUtf8}
use Rattle.lsp_facts.specs.Grammar.{is_whole, left_open, move_in, to}
use Rattle.lsp_facts.specs.Whole.{end_at, end_by, end_from, if_utf8, missing, past, text_end}
use Rattle.lsp_facts.specs.declared.grammar.Around.{Around}
use Rattle.lsp_facts.specs.declared.grammar.Gap.TheVariants as gaps
use Rattle.lsp_facts.specs.declared.grammar.Move.{Move}
use Rattle.lsp_facts.specs.declared.grammar.Place.{Place}
use Rattle.lsp_facts.specs.declared.grammar.Place.TheVariants as places
use Rattle.lsp_facts.specs.declared.json_text.Walk.{Walk}
use Rattle.lsp_facts.specs.declared.json_text.Walk.TheVariants as walks

-- ---- one byte

module _ (n k : ℕ) (place : Place) (opened : List Around) (x : ℕ) (bytes more : List ℕ)
    (here : drop k bytes ≡ x ∷ drop (k + 1) bytes) where
  one_on : end_from (n + k) place opened (drop k bytes ++ more)
      ≡ end_by (suc (n + k)) (λ place opened.
      end_from (suc (n + k)) place opened (drop (k + 1) bytes ++ more)) opened
      (move_in place opened x)
  one_on = ap (λ w. end_from (n + k) place opened (w ++ more)) here

  by_move : (o : Option Move) → move_in place opened x ≡ o
      → end_from (n + k) place opened (drop k bytes ++ more)
      ≡ end_by (suc (n + k)) (λ place opened.
      end_from (suc (n + k)) place opened (drop (k + 1) bytes ++ more)) opened o
  by_move o is = one_on ∙ ap (λ w. end_by (suc (n + k)) (λ place opened.
      end_from (suc (n + k)) place opened (drop (k + 1) bytes ++ more)) opened w) is

  -- it cannot stand there
  pub broken_at : move_in place opened x ≡ None
      → end_from (n + k) place opened (drop k bytes ++ more) ≡ None
  broken_at = by_move None

  module _ (by : Move) (moves : move_in place opened x ≡ Some by) where
    -- the text may end after it
    pub ended_at : is_whole (to by) (left_open opened by) ≡ true
        → end_from (n + k) place opened (drop k bytes ++ more) ≡ Some (n + (k + 1))
    ended_at whole =
        let at : suc (n + k) ≡ n + (k + 1) = omega arith in
        by_move (Some by) moves
        ∙ ap (λ b. if b then Some (suc (n + k)) else end_from (suc (n + k)) (to by)
        (left_open opened by) (drop (k + 1) bytes ++ more)) whole
        ∙ ap (λ (m : ℕ). Some m) at

    -- it goes on
    pub gone_on : is_whole (to by) (left_open opened by) ≡ false
        → end_from (n + k) place opened (drop k bytes ++ more)
        ≡ end_from (n + (k + 1)) (to by) (left_open opened by) (drop (k + 1) bytes ++ more)
    gone_on open_still =
        let at : suc (n + k) ≡ n + (k + 1) = omega arith in
        by_move (Some by) moves
        ∙ ap (λ b. if b then Some (suc (n + k)) else end_from (suc (n + k)) (to by)
        (left_open opened by) (drop (k + 1) bytes ++ more)) open_still
        ∙ ap (λ m. end_from m (to by) (left_open opened by) (drop (k + 1) bytes ++ more)) at

-- ---- a content, and what follows it

module _ (content behind : List ℕ) where
  abbrev size : ℕ
  size = length content

  within_content : (k : ℕ) → k ≤ size → past size k ≡ None
  within_content k less =
      let test : nat_lt size k ≡ false = grind (arith, nat_tests) in
      ap (λ b. then_some b (k - size)) test

  behind_it : (k : ℕ) → 0 < k → past size (size + k) ≡ Some k
  behind_it k some =
      let test : nat_lt size (size + k) ≡ true = grind (arith, nat_tests) in
      let left : size + k - size ≡ k = omega arith in
      ap (λ b. then_some b (size + k - size)) test ∙ ap (λ (m : ℕ). Some m) left

  module _ (opened : List Around) (walk : Walk)
      (first : (n : ℕ) (more : List ℕ)
      → end_from n (places.Gap gaps.Value) [] (content ++ more) ≡ end_at n walk size opened more) where
    text_at : (w : Walk) → walk ≡ w → text_end (content ++ behind) ≡ end_at 0 w size opened behind
    text_at w is = first 0 behind ∙ ap (λ v. end_at 0 v size opened behind) is

    -- the text ends in the content
    pub ends_inside : (k : ℕ) → walk ≡ walks.Ends k → k ≤ size → missing content behind ≡ None
    ends_inside k is less =
        ap (option_and_then (past size)) (text_at (walks.Ends k) is)
        ∙ within_content (0 + k) (omega (arith, less))

    -- it breaks there
    pub breaks_inside : walk ≡ walks.Breaks → missing content behind ≡ None
    breaks_inside is = ap (option_and_then (past size)) (text_at walks.Breaks is)

    module _ (place : Place) (on : walk ≡ walks.GoesOn place) (left : List Around) (second : Walk)
        (next : (n : ℕ) (more : List ℕ)
        → end_from n place opened (behind ++ more) ≡ end_at n second (length behind) left more) where
      goes_at : (w : Walk) → second ≡ w
          → text_end (content ++ behind) ≡ end_at size w (length behind) left []
      goes_at w is =
          let same : 0 + size ≡ size = omega arith in
          text_at (walks.GoesOn place) on
          ∙ ap (λ (m : ℕ). end_from m place opened behind) same
          ∙ ap (λ v. end_from size place opened v) (sym (append-nil behind))
          ∙ next size [] ∙ ap (λ v. end_at size v (length behind) left []) is

      -- it ends behind it
      pub ends_behind : (k : ℕ) → second ≡ walks.Ends k → 0 < k → missing content behind ≡ Some k
      ends_behind k is some =
          ap (option_and_then (past size)) (goes_at (walks.Ends k) is) ∙ behind_it k some

      -- it breaks there, or goes on
      breaks_behind : second ≡ walks.Breaks → missing content behind ≡ None
      breaks_behind is = ap (option_and_then (past size)) (goes_at walks.Breaks is)

      open_behind : (p : Place) → second ≡ walks.GoesOn p → missing content behind ≡ None
      open_behind p is = ap (option_and_then (past size)) (goes_at (walks.GoesOn p) is)

      pub not_behind : ((k : ℕ) → second ≡ walks.Ends k → ⊥) → missing content behind ≡ None
      not_behind not = by_walk second refl
        where
          by_walk : (w : Walk) → second ≡ w → missing content behind ≡ None
          by_walk (walks.Ends k) is = absurd (not k is)
          by_walk walks.Breaks is = breaks_behind is
          by_walk (walks.GoesOn p) is = open_behind p is

-- ---- bytes that may be a text

pub utf8_text : {E : Type 0} (Bad : E → Type 0) (r : Result (Bor (List ℕ)) E) (bytes : List ℕ)
    → MatchResult r (λ s. (s.now ≡ bytes) × IsUtf8 bytes) (λ e. (IsUtf8 bytes → ⊥) × Bad e)
    → option_map (λ t. t.now) (result_ok r) ≡ if_utf8 bytes
utf8_text Bad (Ok s) bytes (same, utf8) =
    ap (λ (w : List ℕ). Some w) same
    ∙ sym (ap (λ b. then_some b bytes) (is_utf8-from_IsUtf8 bytes utf8))
utf8_text Bad (Err e) bytes (not, bad) = sym (none (is_utf8 bytes) refl)
  where
    none : (b : Bool) → is_utf8 bytes ≡ b → then_some b bytes ≡ None
    none false is = refl
    none true is = absurd (not (IsUtf8-from_is_utf8 bytes is))
