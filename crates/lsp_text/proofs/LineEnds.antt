-- No place lies between a CR and a LF that end a line together.
use Rattle.std.proofs.Common.{◌≡◌, ◌⊎◌, ◌<◌, ◌≤◌, ◌+◌, ℕ, true, false, List, [], ◌∷◌, ◌++◌, length, take, drop, refl, sym, ap, subst, ◌∙◌, inl, inr, ⊎_elim, arith, length-append, length-drop, append_assoc}
use Rattle.std.proofs.lemmas.Bool.{false≢true, cases_lt}
use Rattle.std.proofs.lemmas.List.{append-nil, take_at, drop_at, drop-append-le, same_from_push}
use Rattle.lsp_text.specs.Lines.{Line, open_line, spelled, text_of, lines_of, is_feed, is_return, starts_with_feed, has_no_line_end, IsEndBefore, AreEnded}
use Rattle.lsp_text.specs.Places.{NoneInsideLineEnd}
use Rattle.lsp_text.proofs.Cuts.{IsCut-lines_of, text_of-append, whole_parts}
use Rattle.lsp_text.proofs.Positions.{text_of-lines_of}

-- each line has no line end inside, and an end where others follow, and nowhere else
abbrev pub AreWhole : List Line → Type 0
AreWhole [] = Unit {0}
AreWhole (l ∷ ls) = (has_no_line_end l.text ≡ true) × (((ls ≡ []) × (l.end ≡ [])) ⊎ IsEndBefore (text_of ls) l.end) × AreWhole ls

are_whole : (front : List Line) (last : List ℕ) → AreEnded last front → has_no_line_end last ≡ true → AreWhole (front ++ open_line last ∷ [])
are_whole [] last ended whole = (whole, inl (refl, refl), tt)
are_whole (l ∷ front) last ended whole =
    let rest : text_of (front ++ open_line last ∷ []) ≡ text_of front ++ last =
    text_of-append front (open_line last ∷ []) ∙ ap (λ (x : List ℕ). text_of front ++ x) (append-nil (last ++ []) ∙ append-nil last) in
    (ended.0, inr (subst (λ (x : List ℕ). IsEndBefore x l.end) (sym rest) ended.1), are_whole front last ended.2 whole)

-- a CR stands not inside a line
no_return_inside : (xs rest pre post : List ℕ) → has_no_line_end xs ≡ true → xs ++ rest ≡ pre ++ 13 ∷ post → length pre < length xs → ⊥
no_return_inside [] rest pre post h e lt = absurd (omega arith)
no_return_inside (c ∷ cs) rest [] post h e lt =
    let p : (is_feed c ≡ false) × (is_return c ≡ false) × (has_no_line_end cs ≡ true) = whole_parts (is_feed c) (is_return c) (has_no_line_end cs) h in
    let same : c ≡ 13 = cc in
    absurd (false≢true (sym p.1 ∙ ap is_return same))
no_return_inside (c ∷ cs) rest (q ∷ qs) post h e lt =
    let p : (is_feed c ≡ false) × (is_return c ≡ false) × (has_no_line_end cs ≡ true) = whole_parts (is_feed c) (is_return c) (has_no_line_end cs) h in
    no_return_inside cs rest qs post p.2 (let more : cs ++ rest ≡ qs ++ 13 ∷ post = cc in more) (omega arith)

-- no line ends with the CR of a CR LF
no_return_before : (b : Line) (y pre post : List ℕ) → IsEndBefore y b.end → spelled b ≡ pre ++ 13 ∷ [] → y ≡ 10 ∷ post → ⊥
no_return_before b y pre post ends e feed =
    elim ends [
      | inl is ↦
          let last = same_from_push (b.text ++ 13 ∷ []) pre 10 13 (append_assoc b.text (13 ∷ []) (10 ∷ []) ∙ ap (λ (x : List ℕ). b.text ++ x) (sym is) ∙ e) in
          absurd (false≢true (ap is_return last.1))
      | inr k ↦ elim k [
        | inl is ↦
            let last = same_from_push b.text pre 10 13 (ap (λ (x : List ℕ). b.text ++ x) (sym is) ∙ e) in
            absurd (false≢true (ap is_return last.1))
        | inr p ↦ absurd (false≢true (sym p.1 ∙ ap starts_with_feed feed))
      ]
    ]

none_inside : (before : List Line) (line : Line) (after : List Line) (pre post : List ℕ) (offset : ℕ) → AreWhole (before ++ line ∷ after) →
    text_of (before ++ line ∷ after) ≡ pre ++ 13 ∷ 10 ∷ post → length pre + 1 ≡ length (text_of before) + offset → offset ≤ length line.text → ⊥
none_inside [] line after pre post offset whole e at within =
    no_return_inside line.text (line.end ++ text_of after) pre (10 ∷ post) whole.0 (sym (append_assoc line.text line.end (text_of after)) ∙ e) (omega arith)
none_inside (b ∷ before) line after pre post offset whole e at within =
    let x = spelled b in
    let ls = before ++ line ∷ after in
    let y = text_of ls in
    let n = length x in
    let sum : length pre + 1 ≡ n + (length (text_of before) + offset) = omega (arith, at, length-append x (text_of before)) in
    ⊎_elim
    (λ lt.
    let m : length (pre ++ 13 ∷ []) ≡ n = omega (arith, length-append pre (13 ∷ [])) in
    let both : x ++ y ≡ (pre ++ 13 ∷ []) ++ 10 ∷ post = e ∙ sym (append_assoc pre (13 ∷ []) (10 ∷ post)) in
    let here : x ≡ pre ++ 13 ∷ [] = sym (take_at x y n refl) ∙ ap (take n) both ∙ take_at (pre ++ 13 ∷ []) (10 ∷ post) n m in
    let rest : y ≡ 10 ∷ post = sym (drop_at x y n refl) ∙ ap (drop n) both ∙ drop_at (pre ++ 13 ∷ []) (10 ∷ post) n m in
    ⊎_elim (λ none. absurd (let some = length-append before (line ∷ after) in let zero = ap length none.0 in omega arith)) (λ ends. no_return_before b y pre post ends here rest) whole.1)
    (λ le.
    let rest : y ≡ drop n pre ++ 13 ∷ 10 ∷ post = sym (drop_at x y n refl) ∙ ap (drop n) e ∙ drop-append-le n pre (13 ∷ 10 ∷ post) le in
    none_inside before line after (drop n pre) post offset whole.2 rest (omega (arith, length-drop n pre)) within)
    (cases_lt (length pre) n)

pub are_whole_lines : (t : List ℕ) → AreWhole (lines_of t)
are_whole_lines t = let cut = IsCut-lines_of t in subst AreWhole (sym cut.lines) (are_whole cut.front cut.last cut.ended cut.whole)

-- **No position denotes the place between a CR and a LF.**
pub none_inside_line_end : NoneInsideLineEnd
none_inside_line_end enc before after p d =
    let t = before ++ 13 ∷ 10 ∷ after in
    let whole = are_whole_lines t in
    ⊎_elim
    (λ past. absurd (let n = past.1 in omega (arith, length-append before (13 ∷ 10 ∷ after))))
    (λ q. none_inside q.before q.line q.after before after q.offset (subst AreWhole q.lines whole) (sym (ap text_of q.lines) ∙ text_of-lines_of t) q.place q.within)
    d
