-- The line in which a place lies, found back from the place in the bytes of its text.
use Rattle.std.proofs.Common.{◌≡◌, ◌⊎◌, ◌<◌, ◌≤◌, ◌+◌, ◌-◌, ℕ, true, List, [], ◌∷◌, ◌++◌, length, get_or, take, drop, refl, sym, ap, subst, ◌∙◌, inl, inr, ⊎_elim, arith}
use Rattle.std.proofs.lemmas.List.{drop-drop, drop_more, get_or-drop, get_or-take, length-drop, length-take-le, same_from_push, take-append-drop, take_more}
use Rattle.std.proofs.lemmas.Bool.{false_from_ne_true, cases_lt, eqb-true, or_cases}
use Rattle.std.specs.Str.{chars, IsUtf8, IsCharBoundary}
use Rattle.std.proofs.lemmas.Str.{chars-append, chars-nil, IsUtf8-take, IsUtf8-drop, IsUtf8-between, IsCharBoundary-start, IsCharBoundary-before_ascii, IsCharBoundary-after_ascii}
use lib.Utf8.{encode}
use Rattle.memchr.specs.Find.{is_byte2, Passes, Nowhere, NoneAfter}
use Rattle.lsp_text.specs.Lines.{Line, lines_of, before_line, has_no_line_end, is_feed, is_return, AreJoined}
use Rattle.lsp_text.specs.Parting.{IsInsideEnd, IsSearchEnd, IsLineStart}
use Rattle.lsp_text.proofs.Cuts.{HasFirst, lines_of-HasFirst, lines_of-whole}
use Rattle.lsp_text.proofs.LineBytes.{ends, ascii_from_end, starts_with_feed-text, has_no_line_end-text, starts_at}
use Rattle.lsp_text.proofs.JoinedLines.{lines_are_joined}

-- ---- how many lines a text has

length-before_line : (cs : List ℕ) (ls : List Line) → HasFirst ls → length (before_line cs ls) ≡ length ls
length-before_line cs [] h = absurd (cc h.are)
length-before_line cs (l ∷ ls) h = refl

-- a text with no line end adds none
pub count-whole : (x u : List ℕ) → has_no_line_end x ≡ true → length (lines_of (x ++ u)) ≡ length (lines_of u)
count-whole x u h = ap length (lines_of-whole x u h) ∙ length-before_line x (lines_of u) (lines_of-HasFirst u)

-- nor does a CR before a LF
count-inside : (u : List ℕ) → length (lines_of (13 ∷ 10 ∷ u)) ≡ length (lines_of (10 ∷ u))
count-inside u = refl

-- ---- where a line begins

-- a line begins at the start of the text, or behind a byte that ends one
abbrev pub FollowsEnd : List ℕ → ℕ → Type 0
FollowsEnd bs start = (start ≡ 0) ⊎ ((k : ℕ) × (start ≡ k + 1) × (ends (get_or bs k 0) ≡ true))

-- no byte ends a line from `start` up to the place where the search began
pub record IsFound (bs : List ℕ) (offset end start : ℕ) : Type 0 where
  pub text : IsUtf8 bs
  pub boundary : IsCharBoundary bs offset
  pub searched : IsSearchEnd bs offset end
  pub within : start ≤ end
  pub none : (k : ℕ) → start ≤ k → k < end → ends (get_or bs k 0) ≡ true → ⊥
  pub follows : FollowsEnd bs start

search_end_within : (bs : List ℕ) (offset end : ℕ) → IsSearchEnd bs offset end → (end ≤ offset) × (offset ≤ end + 1)
search_end_within bs offset end h = elim h [ inl p ↦ (omega (arith, p.1), omega (arith, p.1)) | inr p ↦ (omega (arith, p.1), omega (arith, p.1)) ]

-- no LF stands where the search began, behind a CR
no_feed_behind : (bs : List ℕ) (offset end : ℕ) → IsSearchEnd bs offset end → 0 < end → end < length bs → get_or bs (end - 1) 0 ≡ 13 → get_or bs end 0 ≡ 10 → ⊥
no_feed_behind bs offset end h some more return feed =
    elim h [
      | inl p ↦
          let same : end ≡ offset - 1 = omega (arith, p.1) in
          let other : get_or bs end 0 ≡ 13 = ap (λ k. get_or bs k 0) same ∙ p.0.return in
          absurd (omega (arith, feed, other))
      | inr p ↦ p.0 (subst (λ k. IsInsideEnd bs k) p.1 (record { some = some; more = more; return = return; feed = feed }))
    ]

chars-end : (b : ℕ) → (b ≡ 13) ⊎ (b ≡ 10) → chars (b ∷ []) ≡ b ∷ []
unfolding chars
chars-end b h = elim h [ inl e ↦ rw e refl | inr e ↦ rw e refl ]

end_utf8 : (b : ℕ) → (b ≡ 13) ⊎ (b ≡ 10) → IsUtf8 (b ∷ [])
unfolding encode
end_utf8 b h = elim h [ inl e ↦ rw e (13 ∷ [], (refl, refl)) | inr e ↦ rw e (10 ∷ [], (refl, refl)) ]

end_byte : (b : ℕ) → ends b ≡ true → (b ≡ 13) ⊎ (b ≡ 10)
end_byte b h = ⊎_elim (λ r. inl (eqb-true b 13 r)) (λ f. inr (eqb-true b 10 f)) (or_cases (is_return b) (is_feed b) h)

-- the text before a line that begins behind a line end
joined_behind : (bs : List ℕ) (offset end k : ℕ) → IsFound bs offset end (k + 1) → ends (get_or bs k 0) ≡ true → k < length bs → IsCharBoundary bs (k + 1) →
    AreJoined (chars (take (k + 1) bs)) (chars (drop (k + 1) bs))
joined_behind bs offset end k h is lt cut =
    let b = get_or bs k 0 in
    let here : IsCharBoundary bs k = IsCharBoundary-before_ascii bs k lt (ascii_from_end b is) in
    let x = chars (take k bs) in
    let t : chars (take (k + 1) bs) ≡ x ++ b ∷ [] =
    ap chars (take_more bs k 0 lt) ∙ chars-append (take k bs) (b ∷ []) (IsUtf8-take bs k h.text here) ∙ ap (λ y. x ++ y) (chars-end b (end_byte b is)) in
    let rest : IsUtf8 (drop (k + 1) bs) = IsUtf8-drop bs (k + 1) h.text cut in
    lines_are_joined (chars (take (k + 1) bs)) (chars (drop (k + 1) bs))
    (elim (end_byte b is) [
      | inl e ↦ inr (inr (record { before = x; text = t ∙ ap (λ c. x ++ c ∷ []) e }))
      | inr e ↦ inr (inl (record { before = x; text = t ∙ ap (λ c. x ++ c ∷ []) e }))
    ])
    (λ r. starts_with_feed-text (drop (k + 1) bs) rest ∙ false_from_ne_true _ (λ f.
    let return : b ≡ 13 = (same_from_push x r.before b 13 (sym t ∙ r.text)).1 in
    let p = starts_at (drop (k + 1) bs) f in
    let more : k + 1 < length bs = omega (arith, p.0, length-drop (k + 1) bs) in
    let feed : get_or bs (k + 1) 0 ≡ 10 = ap (λ n. get_or bs n 0) (let e : k + 1 ≡ (k + 1) + 0 = omega arith in e) ∙ sym (get_or-drop (k + 1) bs 0 0) ∙ p.1 in
    ⊎_elim (λ before. h.none (k + 1) (omega arith) before (ap ends feed))
    (λ ge.
    let e : end ≡ k + 1 = omega (arith, h.within) in
    no_feed_behind bs offset end h.searched (omega arith) (omega arith) (ap (λ n. get_or bs n 0) (let m : end - 1 ≡ k = omega arith in m) ∙ return) (ap (λ n. get_or bs n 0) e ∙ feed))
    (cases_lt (k + 1) end)))

start_boundary : (bs : List ℕ) (offset end start : ℕ) → IsFound bs offset end start → IsCharBoundary bs start
start_boundary bs offset end start h =
    elim h.follows [
      | inl e ↦ subst (λ n. IsCharBoundary bs n) (sym e) (IsCharBoundary-start bs h.text)
      | inr p ↦
          let most = search_end_within bs offset end h.searched in
          let lt : p.0 < length bs = omega (arith, p.1, h.within, most.0, h.boundary.0) in
          subst (λ n. IsCharBoundary bs n) (sym p.1) (IsCharBoundary-after_ascii bs p.0 h.text lt (ascii_from_end (get_or bs p.0 0) p.2))
    ]

nothing_before : (s : List ℕ) → AreJoined [] s
nothing_before s = record { front = []; first = refl; both = refl }

lines_joined : (bs : List ℕ) (offset end start : ℕ) → IsFound bs offset end start → AreJoined (chars (take start bs)) (chars (drop start bs))
lines_joined bs offset end start h =
    elim h.follows [
      | inl e ↦ subst (λ n. AreJoined (chars (take n bs)) (chars (drop n bs))) (sym e) (subst (λ x. AreJoined x (chars bs)) (sym chars-nil) (nothing_before (chars bs)))
      | inr p ↦
          let found : IsFound bs offset end (p.0 + 1) = subst (IsFound bs offset end) p.1 h in
          let most = search_end_within bs offset end h.searched in
          subst (λ n. AreJoined (chars (take n bs)) (chars (drop n bs))) (sym p.1)
          (joined_behind bs offset end p.0 found p.2 (omega (arith, p.1, h.within, most.0, h.boundary.0)) (start_boundary bs offset end (p.0 + 1) found))
    ]

-- the place where the search began is no character's inside
end_boundary : (bs : List ℕ) (offset end : ℕ) → IsCharBoundary bs offset → IsSearchEnd bs offset end → IsCharBoundary bs end
end_boundary bs offset end cut h =
    elim h [
      | inl p ↦
          let e : offset - 1 ≡ end = omega (arith, p.1) in
          let return : get_or bs end 0 ≡ 13 = ap (λ n. get_or bs n 0) (sym e) ∙ p.0.return in
          IsCharBoundary-before_ascii bs end (omega (arith, p.1, p.0.more)) (omega (arith, return))
      | inr p ↦ subst (λ n. IsCharBoundary bs n) (sym p.1) cut
    ]

-- as many lines follow from where the search began as from the place
count_from_end : (bs : List ℕ) (offset end : ℕ) → IsUtf8 bs → IsCharBoundary bs offset → IsSearchEnd bs offset end →
    length (lines_of (chars (drop end bs))) ≡ length (lines_of (chars (drop offset bs)))
count_from_end bs offset end u cut h =
    elim h [
      | inl p ↦
          let e : end + 1 ≡ offset = p.1 in
          let k : offset - 1 ≡ end = omega (arith, p.1) in
          let rest = drop (offset + 1) bs in
          let feed : drop offset bs ≡ 10 ∷ rest = drop_more bs offset 0 p.0.more ∙ ap (λ b. b ∷ rest) p.0.feed in
          let return : drop end bs ≡ 13 ∷ drop offset bs =
          drop_more bs end 0 (omega (arith, p.1, p.0.more)) ∙ ap (λ b. b ∷ drop (end + 1) bs) (ap (λ n. get_or bs n 0) (sym k) ∙ p.0.return) ∙ ap (λ n. 13 ∷ drop n bs) e in
          let some : chars (drop offset bs) ≡ 10 ∷ chars rest = ap chars feed ∙ chars-append (10 ∷ []) rest (end_utf8 10 (inr refl)) ∙ ap (λ x. x ++ chars rest) (chars-end 10 (inr refl)) in
          let both : chars (drop end bs) ≡ 13 ∷ 10 ∷ chars rest =
          ap chars return ∙ chars-append (13 ∷ []) (drop offset bs) (end_utf8 13 (inl refl)) ∙ ap (λ x. x ++ chars (drop offset bs)) (chars-end 13 (inl refl)) ∙ ap (λ (x : List ℕ). 13 ∷ x) some in
          ap (λ x. length (lines_of x)) both ∙ count-inside (chars rest) ∙ ap (λ x. length (lines_of x)) (sym some)
      | inr p ↦ ap (λ n. length (lines_of (chars (drop n bs)))) p.1
    ]

-- as many lines follow from where the line begins
count_from_start : (bs : List ℕ) (offset end start : ℕ) → IsFound bs offset end start → length (lines_of (chars (drop start bs))) ≡ length (lines_of (chars (drop end bs)))
count_from_start bs offset end start h =
    let cut = start_boundary bs offset end start h in
    let last = end_boundary bs offset end h.boundary h.searched in
    let m = take (end - start) (drop start bs) in
    let u : IsUtf8 m = IsUtf8-between bs start end h.text h.within cut last in
    let len : length m ≡ end - start = length-take-le (end - start) (drop start bs) (omega (arith, length-drop start bs, last.0)) in
    let whole : has_no_line_end (chars m) ≡ true =
    has_no_line_end-text m u (λ k lt is. let below : k < end - start = omega (arith, len) in
    h.none (start + k) (omega arith) (omega (arith, h.within)) (ap ends (sym (get_or-take (end - start) (drop start bs) k 0 below ∙ get_or-drop start bs k 0)) ∙ is)) in
    let rest : drop (end - start) (drop start bs) ≡ drop end bs = drop-drop (end - start) start bs ∙ ap (λ n. drop n bs) (let e : start + (end - start) ≡ end = omega (arith, h.within) in e) in
    ap (λ x. length (lines_of (chars x))) (sym (take-append-drop (end - start) (drop start bs)) ∙ ap (λ x. m ++ x) rest)
    ∙ ap (λ x. length (lines_of x)) (chars-append m (drop end bs) u) ∙ count-whole (chars m) (chars (drop end bs)) whole

-- **A search back from the place finds where its line begins.**
pub line_starts : (bs : List ℕ) (offset end start : ℕ) → IsFound bs offset end start → IsLineStart bs offset start
line_starts bs offset end start h =
    record {
      within = omega (arith, h.within, (search_end_within bs offset end h.searched).0);
      boundary = start_boundary bs offset end start h;
      lines = lines_joined bs offset end start h;
      inside = count_from_start bs offset end start h ∙ count_from_end bs offset end h.text h.boundary h.searched;
    }

-- the same, of what a search of the bytes answers
end_within : (bs hay : List ℕ) (offset end : ℕ) → hay ≡ bs → IsCharBoundary bs offset → IsSearchEnd hay offset end → length (take end hay) ≡ end
end_within bs hay offset end same cut h = length-take-le end hay (omega (arith, ap length same, cut.0, (search_end_within hay offset end h).0))

end_in : (bs hay : List ℕ) (end k : ℕ) → hay ≡ bs → k < end → ends (get_or bs k 0) ≡ true → Passes (is_byte2 13 10) (take end hay) k
end_in bs hay end k same lt is = ap ends (get_or-take end hay k 0 lt ∙ ap (λ x. get_or x k 0) same) ∙ is

pub starts_at_front : (bs hay : List ℕ) (offset end : ℕ) → IsUtf8 bs → hay ≡ bs → IsCharBoundary bs offset → IsSearchEnd hay offset end →
    Nowhere (Passes (is_byte2 13 10) (take end hay)) 0 (length (take end hay)) → IsLineStart bs offset 0
starts_at_front bs hay offset end u same cut h none =
    line_starts bs offset end 0
    (record {
      text = u;
      boundary = cut;
      searched = subst (λ x. IsSearchEnd x offset end) same h;
      within = omega arith;
      none = λ k low lt is. none k low (omega (arith, lt, end_within bs hay offset end same cut h)) (end_in bs hay end k same lt is);
      follows = inl refl;
    })

pub starts_behind : (bs hay : List ℕ) (offset end last : ℕ) → IsUtf8 bs → hay ≡ bs → IsCharBoundary bs offset → IsSearchEnd hay offset end →
    NoneAfter (Passes (is_byte2 13 10) (take end hay)) 0 (length (take end hay)) last → Passes (is_byte2 13 10) (take end hay) last → IsLineStart bs offset (last + 1)
starts_behind bs hay offset end last u same cut h after found =
    let len = end_within bs hay offset end same cut h in
    let below : last < end = omega (arith, after.high, len) in
    line_starts bs offset end (last + 1)
    (record {
      text = u;
      boundary = cut;
      searched = subst (λ x. IsSearchEnd x offset end) same h;
      within = omega (arith, below);
      none = λ k low lt is. after.after k low (omega (arith, lt, len)) (end_in bs hay end k same lt is);
      follows = inr (last, refl, ap ends (sym (get_or-take end hay last 0 below ∙ ap (λ x. get_or x last 0) same)) ∙ found);
    })
