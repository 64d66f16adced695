-- Lines of a text behind another that ends with a line end.
use Rattle.std.proofs.Common.{◌≡◌, ◌||◌, ℕ, Bool, true, false, List, [], ◌∷◌, ◌++◌, refl, sym, ap, subst, ◌∙◌, inl, inr}
use Rattle.std.proofs.lemmas.List.{append-nil}
use Rattle.std.proofs.lemmas.Bool.{false≢true, eqb-true}
use Rattle.lsp_text.specs.Lines.{Line, open_line, text_of, is_feed, is_return, has_no_line_end, IsEndBefore, lines_of, EndsWith, LinesOfJoined}
use Rattle.lsp_text.proofs.Cuts.{IsCut-lines_of, lines_of-joined, last_is_return, text_of-append, whole_parts}

pub text_of-open : (ls : List Line) (x : List ℕ) → text_of (ls ++ open_line x ∷ []) ≡ text_of ls ++ x
text_of-open ls x = text_of-append ls (open_line x ∷ []) ∙ ap (λ (y : List ℕ). text_of ls ++ y) (append-nil (x ++ []) ∙ append-nil x)

-- the last character ends a line, where the one before the text did by `b`
last_ends : Bool → List ℕ → Bool
last_ends b [] = b
last_ends b (c ∷ cs) = last_ends (is_feed c || is_return c) cs

last_ends-append : (b : Bool) (x y : List ℕ) → last_ends b (x ++ y) ≡ last_ends (last_ends b x) y
unfolding last_ends
last_ends-append b [] y = refl
last_ends-append b (c ∷ cs) y = last_ends-append (is_feed c || is_return c) cs y

last_ends-whole : (x : List ℕ) → has_no_line_end x ≡ true → last_ends false x ≡ false
unfolding last_ends
last_ends-whole [] h = refl
last_ends-whole (c ∷ cs) h =
    let p : (is_feed c ≡ false) × (is_return c ≡ false) × (has_no_line_end cs ≡ true) = whole_parts (is_feed c) (is_return c) (has_no_line_end cs) h in
    ap (λ x. last_ends x cs) (rw (p.0, p.1) refl) ∙ last_ends-whole cs p.2

last_ends-first : (a b : Bool) (c : ℕ) (cs : List ℕ) → last_ends a (c ∷ cs) ≡ last_ends b (c ∷ cs)
unfolding last_ends
last_ends-first a b c cs = refl

last_ends-nothing : (b : Bool) (x : List ℕ) → last_ends b x ≡ true → has_no_line_end x ≡ true → x ≡ []
last_ends-nothing b [] t h = refl
last_ends-nothing b (c ∷ cs) t h = absurd (false≢true (sym (last_ends-whole (c ∷ cs) h) ∙ last_ends-first false b c cs ∙ t))

last_ends-end : (b : Bool) (rest e : List ℕ) → IsEndBefore rest e → last_ends b e ≡ true
unfolding last_ends
last_ends-end b rest e h = elim h [ inl k ↦ rw k refl | inr j ↦ elim j [ inl k ↦ rw k refl | inr p ↦ let k = p.0 in rw k refl ] ]

-- a text that ends with a line end has an empty last line
pub record EndsLine (m : List ℕ) : Type 0 where
  pub front : List Line
  pub lines : lines_of m ≡ front ++ open_line [] ∷ []

pub ends_line : (u e rest : List ℕ) → IsEndBefore rest e → EndsLine (u ++ e)
ends_line u e rest h =
    let cut = IsCut-lines_of (u ++ e) in
    let t : last_ends false (text_of cut.front ++ cut.last) ≡ true = ap (last_ends false) cut.text ∙ last_ends-append false u e ∙ last_ends-end (last_ends false u) rest e h in
    let none : cut.last ≡ [] = last_ends-nothing (last_ends false (text_of cut.front)) cut.last (sym (last_ends-append false (text_of cut.front) cut.last) ∙ t) cut.whole in
    record { front = cut.front; lines = cut.lines ∙ ap (λ (x : List ℕ). cut.front ++ open_line x ∷ []) none }

one_before : (c : ℕ) (t end : List ℕ) → EndsWith t end → EndsWith (c ∷ t) end
one_before c t end h = record { before = c ∷ h.before; text = ap (λ (x : List ℕ). c ∷ x) h.text }

ends_with_return : (t : List ℕ) → last_is_return false t ≡ true → EndsWith t (13 ∷ [])
ends_with_return [] h = absurd (false≢true h)
ends_with_return (c ∷ []) h = record { before = []; text = ap (λ (x : ℕ). x ∷ []) (eqb-true c 13 h) }
ends_with_return (c ∷ d ∷ ds) h = one_before c (d ∷ ds) (13 ∷ []) (ends_with_return (d ∷ ds) h)

ends_line_of : (t e : List ℕ) → EndsWith t e → IsEndBefore [] e → EndsLine t
ends_line_of t e h is = subst EndsLine (sym h.text) (ends_line h.before e [] is)

-- **The law of re-cutting.**
pub lines_are_joined : LinesOfJoined
lines_are_joined t s ends apart =
    let last : EndsLine t =
    elim ends [
      | inl both ↦ ends_line_of t (13 ∷ 10 ∷ []) both (inl refl)
      | inr one ↦ elim one [ inl feed ↦ ends_line_of t (10 ∷ []) feed (inr (inl refl)) | inr return ↦ ends_line_of t (13 ∷ []) return (inr (inr (refl, refl))) ]
    ]
    in record { front = last.front; first = last.lines; both = lines_of-joined t s last.front last.lines (λ h. apart (ends_with_return t h)) }
