-- Texts that are the same up to line ends have the same lines, and texts with the same lines are
-- so.
use Rattle.std.proofs.Common.{◌≡◌, ◌&&◌, ℕ, Bool, true, false, cond, map, List, [], ◌∷◌}
use Rattle.std.proofs.Common.{◌++◌, refl, sym, ap, ◌∙◌, inl, inr, append-nil, append_assoc}
use Rattle.std.proofs.lemmas.Bool.{false≢true, and_right}
use Rattle.std.specs.List.{flat_map}
use Rattle.lsp_text.specs.Lines.{Line, open_line, is_feed, is_return, has_no_line_end}
use Rattle.lsp_text.specs.Lines.{IsEndBefore, AreEnded, text_of}
use Rattle.lsp_text.specs.SameText.{with_feeds, without_last_feed, is_nothing, no_more, with_feed}
use Rattle.lsp_text.specs.SameText.{feed_for, without_empty_last, that_count, line_texts}
use Rattle.lsp_text.specs.SameText.{SameByLines}
use Rattle.lsp_text.proofs.Cuts.{whole_parts, IsCut-lines_of}
use Rattle.lsp_text.proofs.SameBytes.{without_last-front}
use Rattle.lsp_text.proofs.SameTexts.{feeds_end_lines}

-- ---- lines with a LF between them

-- the lines that come after one
abbrev more_lines : List (List ℕ) → List ℕ
more_lines [] = []
more_lines (l ∷ ls) = 10 ∷ (l ++ more_lines ls)

abbrev in_lines : List (List ℕ) → List ℕ
in_lines [] = []
in_lines (l ∷ ls) = l ++ more_lines ls

abbrev texts : List Line → List (List ℕ)
texts ls = map (λ (l : Line). l.text) ls

-- none has a line end inside
abbrev AreFree : List (List ℕ) → Type 0
AreFree [] = Unit {0}
AreFree (l ∷ ls) = (has_no_line_end l ≡ true) × AreFree ls

free_in : (front : List Line) (last : List ℕ) → AreEnded last front → has_no_line_end last ≡ true
    → AreFree (texts (front ++ open_line last ∷ []))
free_in [] last ended whole = (whole, tt)
free_in (l ∷ front) last ended whole = (ended.0, free_in front last ended.2 whole)

more_in : (front : List Line) (last : List ℕ)
    → more_lines (texts (front ++ open_line last ∷ []))
    ≡ 10 ∷ in_lines (texts (front ++ open_line last ∷ []))
more_in [] last = refl
more_in (l ∷ front) last = refl

one_feed : (rest e : List ℕ) → IsEndBefore rest e → feed_for e ≡ 10 ∷ []
one_feed rest e h = elim h [
  | inl both ↦ ap feed_for both
  | inr k ↦ elim k [ inl feed ↦ ap feed_for feed | inr p ↦ ap feed_for p.0 ]
]

feeds_in : (front : List Line) (last : List ℕ) → AreEnded last front
    → flat_map with_feed (front ++ open_line last ∷ [])
    ≡ in_lines (texts (front ++ open_line last ∷ []))
feeds_in [] last ended = append-nil (last ++ [])
feeds_in (l ∷ front) last ended =
    let rest = front ++ open_line last ∷ [] in
    ap (λ (f : List ℕ). (l.text ++ f) ++ flat_map with_feed rest)
    (one_feed (text_of front ++ last) l.end ended.1)
    ∙ (ap (λ (x : List ℕ). (l.text ++ 10 ∷ []) ++ x) (feeds_in front last ended.2)
    ∙ (append_assoc l.text (10 ∷ []) (in_lines (texts rest))
    ∙ ap (λ (x : List ℕ). l.text ++ x) (sym (more_in front last))))

-- a text by its lines
record HasLines (t : List ℕ) : Type 0 where
  first : List ℕ
  rest : List (List ℕ)
  are : line_texts t ≡ first ∷ rest
  free : AreFree (first ∷ rest)
  feeds : with_feeds t ≡ first ++ more_lines rest

lines_from : (t : List ℕ) (ls : List (List ℕ)) → line_texts t ≡ ls → AreFree ls
    → with_feeds t ≡ in_lines ls → (ls ≡ [] → ⊥) → HasLines t
lines_from t [] are free feeds some = absurd (some refl)
lines_from t (l ∷ ls) are free feeds some =
    record { first = l; rest = ls; are = are; free = free; feeds = feeds }

some_text : (front : List Line) (last : List ℕ) → texts (front ++ open_line last ∷ []) ≡ [] → ⊥
some_text [] last e = absurd (cc)
some_text (l ∷ front) last e = absurd (cc)

has_lines : (t : List ℕ) → HasLines t
has_lines t =
    let cut = IsCut-lines_of t in
    let ls = cut.front ++ open_line cut.last ∷ [] in
    lines_from t (texts ls) (ap texts cut.lines) (free_in cut.front cut.last cut.ended cut.whole)
    (feeds_end_lines t ∙ (ap (flat_map with_feed) cut.lines
    ∙ feeds_in cut.front cut.last cut.ended)) (some_text cut.front cut.last)

-- ---- without the last LF

nothing_more : (l x : List ℕ) → is_nothing (l ++ 10 ∷ x) ≡ false
nothing_more [] x = refl
nothing_more (c ∷ l) x = refl

dropped : (x : List ℕ) (ls : List (List ℕ)) → has_no_line_end x ≡ true → AreFree ls
    → without_last_feed (x ++ more_lines ls) ≡ x ++ more_lines (without_empty_last ls)
dropped x [] h free = without_last-front x [] h
dropped x ([] ∷ []) h free = without_last-front x (10 ∷ []) h
dropped x ((c ∷ l) ∷ []) h free =
    without_last-front x (10 ∷ ((c ∷ l) ++ [])) h
    ∙ ap (λ (z : List ℕ). x ++ 10 ∷ z) (without_last-front (c ∷ l) [] free.0)
dropped x (l ∷ m ∷ ms) h free =
    let z = l ++ more_lines (m ∷ ms) in
    without_last-front x (10 ∷ z) h
    ∙ (ap (λ (b : Bool). x ++ cond b [] (10 ∷ without_last_feed z))
    (nothing_more l (m ++ more_lines ms))
    ∙ (ap (λ (y : List ℕ). x ++ 10 ∷ y) (dropped l (m ∷ ms) free.0 free.1)
    ∙ ap (λ (b : Bool). x ++ more_lines (cond b [] (l ∷ without_empty_last (m ∷ ms))))
    (sym (and_right (is_nothing l) false refl))))

free_kept : (ls : List (List ℕ)) → AreFree ls → AreFree (without_empty_last ls)
free_kept [] free = tt
free_kept (l ∷ ls) free =
    by (is_nothing l && no_more ls) (free_kept ls free.1)
  where
    by : (b : Bool) → AreFree (without_empty_last ls)
        → AreFree (cond b [] (l ∷ without_empty_last ls))
    by true h = tt
    by false h = (free.0, h)

-- ---- the lines of a text with LFs

no_feed : (c : ℕ) (x : List ℕ) → has_no_line_end (c ∷ x) ≡ true → c ≡ 10 → ⊥
no_feed c x h e =
    let p : (is_feed c ≡ false) × (is_return c ≡ false) × (has_no_line_end x ≡ true) =
    whole_parts (is_feed c) (is_return c) (has_no_line_end x) h in
    false≢true (sym p.0 ∙ ap is_feed e)

tail_free : (c : ℕ) (x : List ℕ) → has_no_line_end (c ∷ x) ≡ true → has_no_line_end x ≡ true
tail_free c x h =
    let p : (is_feed c ≡ false) × (is_return c ≡ false) × (has_no_line_end x ≡ true) =
    whole_parts (is_feed c) (is_return c) (has_no_line_end x) h in
    p.2

same_at : (x y : List ℕ) (ls ms : List (List ℕ)) → has_no_line_end x ≡ true
    → has_no_line_end y ≡ true → (more_lines ls ≡ more_lines ms → ls ≡ ms)
    → x ++ more_lines ls ≡ y ++ more_lines ms → (x ≡ y) × (ls ≡ ms)
same_at [] [] ls ms h k same e = (refl, same e)
same_at [] (d ∷ y) (l ∷ ls) ms h k same e = absurd (no_feed d y k (let is : d ≡ 10 = cc in is))
same_at (c ∷ x) [] ls (m ∷ ms) h k same e = absurd (no_feed c x h (let is : c ≡ 10 = cc in is))
same_at (c ∷ x) (d ∷ y) ls ms h k same e =
    let first : c ≡ d = cc in
    let more : x ++ more_lines ls ≡ y ++ more_lines ms = cc in
    let rest = same_at x y ls ms (tail_free c x h) (tail_free d y k) same more in
    (ap (λ (n : ℕ). n ∷ x) first ∙ ap (λ (z : List ℕ). d ∷ z) rest.0, rest.1)
same_at _ _ _ _ h k same e = absurd (cc)

same_more : (ls ms : List (List ℕ)) → AreFree ls → AreFree ms → more_lines ls ≡ more_lines ms
    → ls ≡ ms
same_more [] [] h k e = refl
same_more (l ∷ ls) (m ∷ ms) h k e =
    let more : l ++ more_lines ls ≡ m ++ more_lines ms = cc in
    let parts = same_at l m ls ms h.0 k.0 (same_more ls ms h.1 k.1) more in
    ap (λ (x : List ℕ). x ∷ ls) parts.0 ∙ ap (λ (xs : List (List ℕ)). m ∷ xs) parts.1
same_more _ _ h k e = absurd (cc)

-- what is compared of a text, by its lines
counted : (t : List ℕ) (h : HasLines t)
    → without_last_feed (with_feeds t) ≡ h.first ++ more_lines (without_empty_last h.rest)
counted t h = ap without_last_feed h.feeds ∙ dropped h.first h.rest h.free.0 h.free.1

-- **Two texts are the same exactly if their lines are.**
pub same_by_lines : SameByLines
same_by_lines a b = (forth, back)
  where
    h : HasLines a
    h = has_lines a

    k : HasLines b
    k = has_lines b

    forth : without_last_feed (with_feeds a) ≡ without_last_feed (with_feeds b)
        → that_count (line_texts a) ≡ that_count (line_texts b)
    forth e =
        let free = free_kept h.rest h.free.1 in
        let kept = free_kept k.rest k.free.1 in
        let ls = without_empty_last h.rest in
        let ms = without_empty_last k.rest in
        let parts =
        same_at h.first k.first ls ms h.free.0 k.free.0 (same_more ls ms free kept)
        (sym (counted a h) ∙ (e ∙ counted b k)) in
        ap that_count h.are
        ∙ (ap (λ (x : List ℕ). x ∷ ls) parts.0
        ∙ (ap (λ (xs : List (List ℕ)). k.first ∷ xs) parts.1 ∙ sym (ap that_count k.are)))

    back : that_count (line_texts a) ≡ that_count (line_texts b)
        → without_last_feed (with_feeds a) ≡ without_last_feed (with_feeds b)
    back e =
        let same = sym (ap that_count h.are) ∙ (e ∙ ap that_count k.are) in
        counted a h ∙ (ap in_lines same ∙ sym (counted b k))
