-- A line end in the bytes of a text, and the lines that it parts.
use Rattle.std.proofs.Common.{◌≡◌, ◌<◌, ◌≤◌, ◌+◌, ◌-◌, ℕ, Bool, true, false, List, [], ◌∷◌, ◌++◌, length, take, drop, get_or, suc, refl, sym, ap, subst, inl, inr, ⊎_elim, ◌∙◌, arith, length-append, length-drop, append_assoc, take-add}
use Rattle.std.proofs.lemmas.Bool.{false≢true, cases_lt, ne_eqb, and_from, false_from_ne_true}
use Rattle.std.proofs.lemmas.List.{append-nil, append_cancel_left, take-append-drop, take_at, drop_at, drop-drop, take_all, length-take-le, get_or_append_left, get_or_at}
use Rattle.std.proofs.lemmas.Str.{chars-append, chars-nil, encodes-chars, encode_ascii, length-encode, len_utf8_bounds, IsUtf8-append, IsUtf8-take, IsUtf8-drop, IsCharBoundary-end, IsCharBoundary-from_rest}
use Rattle.std.specs.Str.{chars, IsUtf8, IsCharBoundary}
use lib.Utf8.{encodes, encode}
use Rattle.lsp_types.specs.declared.position.Encoding.TheVariants.{Utf8}
use Rattle.lsp_text.specs.Lines.{Line, open_line, spelled, text_of, lines_of, line_at, is_return, starts_with_feed, IsEndBefore, AreEnded}
use Rattle.lsp_text.specs.Places.{units}
use Rattle.lsp_text.specs.Offsets.{IsAtLine}
use Rattle.lsp_text.proofs.Cuts.{IsCut-lines_of, lines_of-ended, lines_of-line, text_of-append, last_is_return, last_is_return-append}
use Rattle.lsp_text.proofs.LineBytes.{starts_with_feed-text}
use Rattle.lsp_text.proofs.Counting.{units-append, units-utf8_text}
use Rattle.lsp_lined.specs.Ends.{ends_in, ends_with_return, IsEndAt, IsLineEnd}
use Rattle.lsp_lined.specs.LentLines.{IsEndOf}
use Rattle.lsp_text.specs.Spans.{bytes_between}
use Rattle.lsp_lined.specs.declared.part.LineEnd.{LineEnd}
use Rattle.lsp_lined.proofs.EndCounts.{above-encode, lines_counted}
use Rattle.lsp_lined.proofs.Parts.{ends_with_return-append}

-- ---- a CR at the end

-- a byte that is no ASCII at the end
no_return_last : (v : Bool) (x : ℕ) (xs : List ℕ) → ((k : ℕ) → k < length (x ∷ xs) → 128 ≤ get_or (x ∷ xs) k 0) → ends_with_return v (x ∷ xs) ≡ false
no_return_last v x [] h = let above : 128 ≤ x = h 0 (omega arith) in ne_eqb x 13 (λ e. omega arith)
no_return_last v x (y ∷ ys) h = no_return_last (is_return x) y ys (λ k lt. h (suc k) (omega arith))

no_return_above : (v : Bool) (xs : List ℕ) → 0 < length xs → ((k : ℕ) → k < length xs → 128 ≤ get_or xs k 0) → ends_with_return v xs ≡ false
no_return_above v [] some h = absurd (omega arith)
no_return_above v (x ∷ xs) some h = no_return_last v x xs h

return_in_char : (v : Bool) (c : ℕ) → ends_with_return v (encode c) ≡ is_return c
return_in_char v c =
    ⊎_elim (λ (lt : c < 128). ap (ends_with_return v) (encode_ascii c lt))
    (λ (ge : 128 ≤ c).
    no_return_above v (encode c) (omega (arith, length-encode c, (len_utf8_bounds c).0))
    (λ k lt. let e : get_or (encode c ++ []) k 0 ≡ get_or (encode c) k 0 = get_or_append_left (encode c) [] 0 k lt in omega (arith, above-encode c [] k ge lt))
    ∙ sym (let none : is_return c ≡ false = ne_eqb c 13 (λ e. omega arith) in none))
    (cases_lt c 128)

return_in_chars : (v : Bool) (cs : List ℕ) → ends_with_return v (encodes cs) ≡ last_is_return v cs
return_in_chars v [] = refl
return_in_chars v (c ∷ cs) =
    ends_with_return-append v (encode c) (encodes cs) ∙ ap (λ (w : Bool). ends_with_return w (encodes cs)) (return_in_char v c) ∙ return_in_chars (is_return c) cs

-- a text ends with a CR as its bytes do
pub ends_with_return-chars : (bs : List ℕ) → IsUtf8 bs → last_is_return false (chars bs) ≡ ends_with_return false bs
ends_with_return-chars bs u = sym (return_in_chars false (chars bs)) ∙ ap (ends_with_return false) (encodes-chars bs u)

-- ---- lines before a line end

more_behind : (x l s e : List ℕ) → (e ≡ 13 ∷ [] → x ++ l ≡ [] → starts_with_feed s ≡ false) → IsEndBefore (x ++ l) e → IsEndBefore (x ++ (l ++ s)) e
more_behind [] [] s e none h = elim h [ inl a ↦ inl a | inr k ↦ elim k [ inl a ↦ inr (inl a) | inr p ↦ inr (inr (p.0, none p.0 refl)) ] ]
more_behind _ _ s e none h = h

last_return_any : (a : Bool) (x : List ℕ) → last_is_return false x ≡ true → last_is_return a x ≡ true
last_return_any a [] h = absurd (false≢true h)
last_return_any a (c ∷ cs) h = h

-- ended lines stay ended where more follows, unless a CR meets a LF
AreEnded-more : (ls : List Line) (l s : List ℕ) → AreEnded l ls → (last_is_return false (text_of ls ++ l) ≡ true → starts_with_feed s ≡ false) → AreEnded (l ++ s) ls
AreEnded-more [] l s h apart = tt
AreEnded-more (x ∷ ls) l s h apart =
    let rest = text_of ls ++ l in
    let whole : (spelled x ++ text_of ls) ++ l ≡ x.text ++ (x.end ++ rest) = append_assoc (spelled x) (text_of ls) l ∙ append_assoc x.text x.end rest in
    let last : last_is_return false (text_of (x ∷ ls) ++ l) ≡ last_is_return (last_is_return (last_is_return false x.text) x.end) rest =
    ap (last_is_return false) whole ∙ last_is_return-append false x.text (x.end ++ rest) ∙ last_is_return-append (last_is_return false x.text) x.end rest in (
      h.0,
      more_behind (text_of ls) l s x.end
          (λ e n. apart (last ∙ ap (λ (y : List ℕ). last_is_return (last_is_return (last_is_return false x.text) x.end) y) n ∙ ap (last_is_return (last_is_return false x.text)) e))
          h.1,
      AreEnded-more ls l s h.2 (λ r. apart (last ∙ last_return_any (last_is_return (last_is_return false x.text) x.end) rest r)),
    )

-- a text that goes on with a line end: the lines before that, the line that it ends, and those
-- after it
pub record GoesOn (u e r : List ℕ) : Type 0 where
  pub front : List Line
  pub last : List ℕ
  pub before : lines_of u ≡ front ++ open_line last ∷ []
  pub text : text_of front ++ last ≡ u
  pub lines : lines_of (u ++ (e ++ r)) ≡ front ++ record { text = last; end = e } ∷ lines_of r

pub goes_on : (u e r : List ℕ) → IsEndBefore r e → (last_is_return false u ≡ true → starts_with_feed (e ++ r) ≡ false) → GoesOn u e r
goes_on u e r ends apart =
    let cut = IsCut-lines_of u in
    let l : Line = record { text = cut.last; end = e } in
    let ended : AreEnded (cut.last ++ (e ++ r)) cut.front = AreEnded-more cut.front cut.last (e ++ r) cut.ended (λ h. apart (ap (last_is_return false) (sym cut.text) ∙ h)) in
    record {
      front = cut.front;
      last = cut.last;
      before = cut.lines;
      text = cut.text;
      lines =
          ap (λ (x : List ℕ). lines_of (x ++ (e ++ r))) (sym cut.text) ∙ ap lines_of (append_assoc (text_of cut.front) cut.last (e ++ r))
          ∙ lines_of-ended cut.front (cut.last ++ (e ++ r)) ended
          ∙ ap (λ (x : List ℕ). cut.front ++ lines_of x) (sym (append_assoc cut.last e r))
          ∙ ap (λ (x : List Line). cut.front ++ x) (lines_of-line l r cut.whole ends);
    }

-- ---- a line end in bytes

-- the bytes before a place, those of the line end there, and those after it
pub record IsCutAt (bs : List ℕ) (at after : ℕ) (w r : List ℕ) : Type 0 where
  pub before : IsUtf8 (take at bs)
  pub end : IsUtf8 w
  pub rest : IsUtf8 r
  pub back : drop at bs ≡ w ++ r
  pub front : take after bs ≡ take at bs ++ w
  pub text : chars bs ≡ chars (take at bs) ++ (chars w ++ chars r)
  pub boundary : IsCharBoundary bs after
  pub ended : IsEndBefore (chars r) (chars w)

cut_at_end : (bs : List ℕ) (at after : ℕ) → IsUtf8 bs → at < after → IsEndAt bs at (after - at) → IsCutAt bs at after (take (after - at) (drop at bs)) (drop after bs)
cut_at_end bs at after u order h =
    let n = after - at in
    let d = drop at bs in
    let w = take n d in
    let e : at + n ≡ after = omega arith in
    let r : drop n d ≡ drop after bs = drop-drop n at bs ∙ ap (λ i. drop i bs) e in
    let ud : IsUtf8 d = IsUtf8-drop bs at u h.boundary in
    let uw : IsUtf8 w = IsUtf8-take d n ud h.ended.boundary in
    let ub : IsUtf8 (take at bs) = IsUtf8-take bs at u h.boundary in
    let cut : d ≡ w ++ drop after bs = sym (take-append-drop n d) ∙ ap (λ (x : List ℕ). w ++ x) r in
    record {
      before = ub;
      end = uw;
      rest = subst IsUtf8 r (IsUtf8-drop d n ud h.ended.boundary);
      back = cut;
      front = ap (λ i. take i bs) (sym e) ∙ take-add at n bs;
      text =
          ap chars (sym (take-append-drop at bs)) ∙ chars-append (take at bs) d ub
          ∙ ap (λ (x : List ℕ). chars (take at bs) ++ x) (ap chars cut ∙ chars-append w (drop after bs) uw);
      boundary = subst (λ i. IsCharBoundary bs i) e (IsCharBoundary-from_rest bs at n h.boundary.0 h.ended.boundary);
      ended = subst (λ (x : List ℕ). IsEndBefore (chars x) (chars w)) r h.ended.ended;
    }

-- a line that ends in the bytes of a text, with those before it and those after it
pub record IsEndedLine (bs : List ℕ) (n at after : ℕ) : Type 0 where
  pub front : List Line
  pub last : List ℕ
  pub number : length front ≡ n
  pub text : text_of front ++ last ≡ chars (take at bs)
  pub lines : lines_of (chars bs) ≡ front ++ record { text = last; end = chars (bytes_between bs at after) } ∷ lines_of (chars (drop after bs))

pub ended_line_at : (bs : List ℕ) (n : ℕ) (e : LineEnd) → IsUtf8 bs → IsLineEnd bs n e → IsEndedLine bs n e.at e.after
ended_line_at bs n e u h =
    let w = bytes_between bs e.at e.after in
    let r = drop e.after bs in
    let before = take e.at bs in
    let cut : IsCutAt bs e.at e.after w r = cut_at_end bs e.at e.after u h.order h.end in
    let feed : starts_with_feed (chars w ++ chars r) ≡ starts_with_feed (drop e.at bs) =
    ap starts_with_feed (sym (chars-append w r cut.end)) ∙ starts_with_feed-text (w ++ r) (IsUtf8-append w r cut.end cut.rest) ∙ ap starts_with_feed (sym cut.back) in
    let apart : last_is_return false (chars before) ≡ true → starts_with_feed (chars w ++ chars r) ≡ false =
    λ last. feed ∙ false_from_ne_true _ (λ s. false≢true (sym h.end.apart ∙ and_from _ _ (sym (ends_with_return-chars before cut.before) ∙ last) s)) in
    let parts = goes_on (chars before) (chars w) (chars r) cut.ended apart in
    record {
      front = parts.front;
      last = parts.last;
      number = omega (arith, ap length parts.before, length-append parts.front (open_line parts.last ∷ []), lines_counted before cut.before, h.number);
      text = parts.text;
      lines = ap lines_of cut.text ∙ parts.lines;
    }

-- **Behind a line end a line begins.**
pub at_line : (bs : List ℕ) (n : ℕ) (e : LineEnd) → IsUtf8 bs → IsLineEnd bs n e → IsAtLine bs (n + 1) e.after (drop e.after bs)
at_line bs n e u h =
    let w = bytes_between bs e.at e.after in
    let r = drop e.after bs in
    let cut : IsCutAt bs e.at e.after w r = cut_at_end bs e.at e.after u h.order h.end in
    let k = ended_line_at bs n e u h in
    let l : Line = record { text = k.last; end = chars w } in
    let ls : List Line = k.front ++ l ∷ [] in
    let are : lines_of (chars bs) ≡ ls ++ lines_of (chars r) = k.lines ∙ sym (append_assoc k.front (l ∷ []) (lines_of (chars r))) in
    let len : length ls ≡ n + 1 = omega (arith, length-append k.front (l ∷ []), k.number) in
    record {
      at = refl;
      boundary = cut.boundary;
      utf8 = cut.rest;
      lines = ap (drop (n + 1)) are ∙ drop_at ls (lines_of (chars r)) (n + 1) len;
      front =
          ap text_of (ap (take (n + 1)) are ∙ take_at ls (lines_of (chars r)) (n + 1) len) ∙ text_of-append k.front (l ∷ [])
          ∙ ap (λ (x : List ℕ). text_of k.front ++ x) (append-nil (spelled l)) ∙ sym (append_assoc (text_of k.front) k.last (chars w))
          ∙ ap (λ (x : List ℕ). x ++ chars w) k.text ∙ sym (chars-append (take e.at bs) w cut.before) ∙ ap chars (sym cut.front);
    }

-- where a line's end begins and where it ends, from the lines before it and the line
is_end_of : (bs : List ℕ) (i first last : ℕ) (front after : List Line) (l : Line) → lines_of (chars bs) ≡ front ++ l ∷ after → length front ≡ i → first ≤ last → IsCharBoundary bs first → IsCharBoundary bs last →
    l.end ≡ chars (bytes_between bs first last) → text_of front ++ l.text ≡ chars (take first bs) → IsEndOf bs i first last
is_end_of bs i first last front after l lines number order b c ends text =
    let here : line_at i (chars bs) ≡ l = ap (λ (ls : List Line). get_or ls i (open_line [])) lines ∙ get_or_at front l after (open_line []) i number in
    let before : take i (lines_of (chars bs)) ≡ front = ap (take i) lines ∙ take_at front (l ∷ after) i number in
    record {
      order = order;
      end = b;
      after = c;
      end_is = ap (λ (x : Line). x.end) here ∙ ends;
      front = sym text ∙ ap (λ (x : List Line). text_of x ++ l.text) (sym before) ∙ ap (λ (x : Line). text_of (take i (lines_of (chars bs))) ++ x.text) (sym here);
    }

-- **A line end ends the line of its number.**
pub end_of_line : (bs : List ℕ) (n : ℕ) (e : LineEnd) → IsUtf8 bs → IsLineEnd bs n e → IsEndOf bs n e.at e.after
end_of_line bs n e u h =
    let order = h.order in
    let k = ended_line_at bs n e u h in
    let cut = cut_at_end bs e.at e.after u h.order h.end in
    is_end_of bs n e.at e.after k.front (lines_of (chars (drop e.after bs))) (record { text = k.last; end = chars (bytes_between bs e.at e.after) }) k.lines k.number (omega arith) h.end.boundary cut.boundary refl k.text

-- and the last line goes to the end of the text
pub last_end : (bs : List ℕ) → IsUtf8 bs → IsEndOf bs (ends_in bs) (length bs) (length bs)
last_end bs u =
    let cut = IsCut-lines_of (chars bs) in
    let len = length bs in
    let none : len - len ≡ 0 = omega arith in
    is_end_of bs (ends_in bs) len len cut.front [] (open_line cut.last) cut.lines
    (omega (arith, ap length cut.lines, length-append cut.front (open_line cut.last ∷ []), lines_counted bs u))
    (omega arith) (IsCharBoundary-end bs) (IsCharBoundary-end bs)
    (sym (ap (λ n. chars (take n (drop len bs))) none ∙ chars-nil))
    (cut.text ∙ ap chars (sym (take_all len bs (omega arith))))

-- the bytes of a text up to a boundary
units_to : (bs : List ℕ) (i : ℕ) → IsUtf8 bs → IsCharBoundary bs i → units Utf8 (chars (take i bs)) ≡ i
units_to bs i u b = units-utf8_text (take i bs) (IsUtf8-take bs i u b) ∙ length-take-le i bs b.0

pub record IsLineBetween (bs : List ℕ) (i start first last : ℕ) : Type 0 where
  pub order : start ≤ first
  pub line : line_at i (chars bs) ≡ record { text = chars (bytes_between bs start first); end = chars (bytes_between bs first last) }

line_made : (l : Line) (text end : List ℕ) → l.text ≡ text → l.end ≡ end → l ≡ record { text = text; end = end }
line_made l text end h k = ap (λ (x : List ℕ). let m : Line = record { text = x; end = l.end } in m) h ∙ ap (λ (x : List ℕ). let m : Line = record { text = text; end = x } in m) k

-- **A line stands between the place where it begins and its end.**
pub line_between : (bs : List ℕ) (i start first last : ℕ) → IsUtf8 bs → IsAtLine bs i start (drop start bs) → IsEndOf bs i first last → IsLineBetween bs i start first last
line_between bs i start first last u h k =
    let l = line_at i (chars bs) in
    let m = bytes_between bs start first in
    let whole : chars (take first bs) ≡ chars (take start bs) ++ l.text = k.front ∙ ap (λ (x : List ℕ). x ++ l.text) h.front in
    let order : start ≤ first = omega (arith, ap (units Utf8) whole, units-append Utf8 (chars (take start bs)) l.text, units_to bs start u h.boundary, units_to bs first u k.end) in
    let e : start + (first - start) ≡ first = omega arith in
    let cut : take first bs ≡ take start bs ++ m = ap (λ n. take n bs) (sym e) ∙ take-add start (first - start) bs in
    let both : chars (take start bs) ++ l.text ≡ chars (take start bs) ++ chars m = sym whole ∙ ap chars cut ∙ chars-append (take start bs) m (IsUtf8-take bs start u h.boundary) in
    record { order = order; line = line_made l (chars m) (chars (bytes_between bs first last)) (append_cancel_left (chars (take start bs)) l.text (chars m) both) k.end_is }

-- a line end stands within the text
pub end_within : (bs : List ℕ) (n : ℕ) (e : LineEnd) → IsLineEnd bs n e → (e.at < e.after) × (e.after ≤ length bs)
end_within bs n e h =
    let order = h.order in
    let at_le = h.end.boundary.0 in
    let len_le = h.end.ended.boundary.0 in
    (order, omega (arith, length-drop e.at bs))
