-- Line ends of a text in two parts that stand apart, as line ends of one of them.
use Rattle.std.proofs.Common.{◌≡◌, ◌⊎◌, ◌<◌, ◌≤◌, ◌+◌, ◌-◌, ◌&&◌, ℕ, Bool, true, false, List, []}
use Rattle.std.proofs.Common.{◌∷◌, ◌++◌, length, take, drop, refl, sym, ap, subst, inl, inr}
use Rattle.std.proofs.Common.{⊎_elim, ◌∙◌, arith, length-append, length-drop}
use Rattle.std.proofs.lemmas.Bool.{false≢true, cases_lt, and_right}
use Rattle.std.proofs.lemmas.List.{append-nil, take-append-drop, take_at, drop-drop}
use Rattle.std.proofs.lemmas.List.{take_all, drop-append-le, take-append-le, length-take-le}
use Rattle.std.proofs.Math.Seq.{take-append-add, drop-append-add}
use Rattle.std.specs.Str.{chars, IsUtf8, IsCharBoundary}
use Rattle.std.proofs.lemmas.Str.{encodes-chars, encode_ascii, IsUtf8-nil, IsUtf8-take}
use Rattle.std.proofs.lemmas.Str.{IsUtf8-drop, IsUtf8-append, IsCharBoundary-from_take}
use lib.Utf8.{encodes, encode}
use Rattle.lsp_text.specs.Lines.{is_feed, is_return, starts_with_feed, IsEndBefore}
use Rattle.lsp_text.specs.LineEnd.{IsEndLen}
use Rattle.lsp_lined.specs.Ends.{ends_in, ends_with_return, joins, IsEndAt, IsNear, IsLineEnd}
use Rattle.lsp_lined.specs.Windows.{nearer_end}
use Rattle.lsp_lined.specs.declared.part.LineEnd.{LineEnd}
use Rattle.lsp_text.proofs.Cuts.{last_is_return}
use Rattle.lsp_text.proofs.LineBytes.{starts_with_feed-text}
use Rattle.lsp_lined.proofs.EndCounts.{ends_in-append}
use Rattle.lsp_lined.proofs.EndsInLines.{ends_with_return-chars}
use Rattle.lsp_lined.proofs.Parts.{joins-front, joins-back}
use Rattle.lsp_lined.proofs.PartPlaces.{boundary-of_inside}
use Rattle.lsp_text.proofs.CommonEnds.{IsUtf8-rest}
use Rattle.lsp_lined.proofs.PlainTexts.{plain_part}

-- ---- two parts

pub boundary_front : (a c : List ℕ) (i : ℕ) → i ≤ length a → IsCharBoundary (a ++ c) i
    → IsCharBoundary a i
boundary_front a c i le b =
    let e : i ≡ length {A = ℕ} [] + i = omega arith in
    boundary-of_inside [] a c i le (subst (λ (k : ℕ). IsCharBoundary (a ++ c) k) e b)

pub boundary_behind : (a c : List ℕ) (i : ℕ) → IsCharBoundary (a ++ c) (length a + i)
    → IsCharBoundary c i
boundary_behind a c i b =
    let within = b.0 in
    boundary-of_inside a c [] i (omega (arith, length-append a c))
    (subst (λ (x : List ℕ). IsCharBoundary (a ++ x) (length a + i)) (sym (append-nil c)) b)

-- ---- a line end's bytes

as_bytes : (w cs : List ℕ) → IsUtf8 w → chars w ≡ cs → w ≡ encodes cs
as_bytes w cs u is = sym (encodes-chars w u) ∙ ap encodes is

both_bytes : encodes (13 ∷ 10 ∷ []) ≡ 13 ∷ 10 ∷ []
both_bytes =
    let r : encode 13 ≡ 13 ∷ [] = encode_ascii 13 (omega arith) in
    let f : encode 10 ≡ 10 ∷ [] = encode_ascii 10 (omega arith) in
    ap (λ (x : List ℕ). x ++ (encode 10 ++ [])) r ∙ ap (λ (x : List ℕ). 13 ∷ (x ++ [])) f

one_byte : (c : ℕ) → c < 128 → length (encodes (c ∷ [])) ≡ 1
one_byte c lt = ap (λ (x : List ℕ). length (x ++ [])) (encode_ascii c lt)

two_or_one : (w r : List ℕ) → IsUtf8 w → IsEndBefore r (chars w)
    → (w ≡ 13 ∷ 10 ∷ []) ⊎ (length w ≡ 1)
two_or_one w r u h = elim h [
  | inl a ↦ inl (as_bytes w (13 ∷ 10 ∷ []) u a ∙ both_bytes)
  | inr k ↦ elim k [
    | inl a ↦ inr (ap length (as_bytes w (10 ∷ []) u a) ∙ one_byte 10 (omega arith))
    | inr p ↦ inr (ap length (as_bytes w (13 ∷ []) u p.0) ∙ one_byte 13 (omega arith))
  ]
]

no_return : (w cs r : List ℕ) → IsUtf8 w → chars w ≡ cs → last_is_return false cs ≡ false
    → joins w r ≡ false
no_return w cs r u is last =
    let none : ends_with_return false w ≡ false =
    sym (ends_with_return-chars w u) ∙ ap (last_is_return false) is ∙ last in
    ap (λ (v : Bool). v && starts_with_feed r) none

-- what follows a line end stands apart from it
end_apart : (w r : List ℕ) → IsUtf8 w → IsUtf8 r → IsEndBefore (chars r) (chars w)
    → joins w r ≡ false
end_apart w r uw ur h = elim h [
  | inl a ↦ no_return w (13 ∷ 10 ∷ []) r uw a refl
  | inr k ↦ elim k [
    | inl a ↦ no_return w (10 ∷ []) r uw a refl
    | inr p ↦
        let none : starts_with_feed r ≡ false = sym (starts_with_feed-text r ur) ∙ p.1 in
        and_right (ends_with_return false w) (starts_with_feed r) none
  ]
]

-- ---- a line end lies before the place where a text is cut, or behind it

first_same : (x y a b : ℕ) (xs ys : List ℕ) → x ∷ y ∷ xs ≡ a ∷ b ∷ ys → (x ≡ a) × (y ≡ b)
first_same x y a b xs ys h = (cc, cc)

no_pair : (x : ℕ) (c : List ℕ) → joins (x ∷ []) c ≡ false → take 2 (x ∷ c) ≡ 13 ∷ 10 ∷ [] → ⊥
no_pair x [] apart is = let e : length {A = ℕ} (x ∷ []) ≡ 2 = ap length is in absurd (omega arith)
no_pair x (y ∷ ys) apart is =
    let e = first_same x y 13 10 [] [] is in
    let joined : (is_return x && is_feed y) ≡ true = rw (e.0, e.1) refl in
    false≢true (sym apart ∙ joined)

stays : (d c : List ℕ) (len : ℕ) → 0 < length d → joins d c ≡ false → len ≤ length (d ++ c)
    → (take len (d ++ c) ≡ 13 ∷ 10 ∷ []) ⊎ (length (take len (d ++ c)) ≡ 1) → len ≤ length d
stays [] c len some apart within h = absurd (omega arith)
stays (x ∷ []) c len some apart within h =
    let size = length-take-le len ((x ∷ []) ++ c) within in
    ⊎_elim
    (λ (is : take len (x ∷ c) ≡ 13 ∷ 10 ∷ []).
    let two : len ≡ 2 = sym size ∙ ap length is in
    absurd (no_pair x c apart (ap (λ (k : ℕ). take k (x ∷ c)) (sym two) ∙ is)))
    (λ (one : length (take len (x ∷ c)) ≡ 1). omega arith)
    h
stays (x ∷ y ∷ d) c len some apart within h =
    let size = length-take-le len ((x ∷ y ∷ d) ++ c) within in
    ⊎_elim
    (λ (is : take len (x ∷ y ∷ (d ++ c)) ≡ 13 ∷ 10 ∷ []).
    let two : len ≡ 2 = sym size ∙ ap length is in omega arith)
    (λ (one : length (take len (x ∷ y ∷ (d ++ c))) ≡ 1). omega arith)
    h

no_feed_in_front : (x s : List ℕ) → starts_with_feed (x ++ s) ≡ false → starts_with_feed x ≡ false
no_feed_in_front [] s h = refl
no_feed_in_front (y ∷ ys) s h = h

end_before_less : (w x s : List ℕ) → IsUtf8 x → IsUtf8 s → IsEndBefore (chars (x ++ s)) w
    → IsEndBefore (chars x) w
end_before_less w x s ux us h = elim h [
  | inl a ↦ inl a
  | inr k ↦ elim k [
    | inl a ↦ inr (inl a)
    | inr p ↦
        let whole : starts_with_feed (x ++ s) ≡ false =
        sym (starts_with_feed-text (x ++ s) (IsUtf8-append x s ux us)) ∙ p.1 in
        inr (inr (p.0, starts_with_feed-text x ux ∙ no_feed_in_front x s whole))
  ]
]

pub record IsEndInFront (a : List ℕ) (at len : ℕ) : Type 0 where
  pub within : at + len ≤ length a
  pub end : IsEndAt a at len

-- **A line end that begins before a place where a text may be cut also ends before it.**
end_in_front : (a c : List ℕ) (at len : ℕ) → IsUtf8 a → IsUtf8 c → joins a c ≡ false
    → at < length a → IsEndAt (a ++ c) at len → IsEndInFront a at len
end_in_front a c at len ua uc apart lt h =
    let le : at ≤ length a = omega arith in
    let d = drop at a in
    let size : length d ≡ length a - at = length-drop at a in
    let cut : drop at (a ++ c) ≡ d ++ c = drop-append-le at a c le in
    let front : take at (a ++ c) ≡ take at a = take-append-le at a c le in
    let here = boundary_front a c at le h.boundary in
    let ud : IsUtf8 d = IsUtf8-drop a at ua here in
    let ended : IsEndLen (d ++ c) len = subst (λ (x : List ℕ). IsEndLen x len) cut h.ended in
    let behind : joins d c ≡ false =
    joins-back (take at a) d c (ap (λ (x : List ℕ). joins x c) (take-append-drop at a) ∙ apart) in
    let w = take len (d ++ c) in
    let uw : IsUtf8 w = IsUtf8-take (d ++ c) len (IsUtf8-append d c ud uc) ended.boundary in
    let within : len ≤ length d =
    stays d c len (omega arith) behind ended.boundary.0
    (two_or_one w (chars (drop len (d ++ c))) uw ended.ended) in
    let same : w ≡ take len d = take-append-le len d c within in
    let inside : IsCharBoundary d len = boundary_front d c len within ended.boundary in
    let rest : drop len (d ++ c) ≡ drop len d ++ c = drop-append-le len d c within in
    let before : IsEndBefore (chars (drop len d ++ c)) (chars (take len d)) =
    subst (λ (x : List ℕ). IsEndBefore (chars (drop len d ++ c)) (chars x)) same
    (subst (λ (x : List ℕ). IsEndBefore (chars x) (chars w)) rest ended.ended) in
    let one : ends_in (take len d) ≡ 1 =
    ap ends_in (sym same) ∙ ap (λ (x : List ℕ). ends_in (take len x)) (sym cut) ∙ h.one in
    let near : joins (take at a) (d ++ c) ≡ false =
    ap (λ (x : List ℕ). joins x (d ++ c)) (sym front) ∙ ap (joins (take at (a ++ c))) (sym cut)
    ∙ h.apart in
    record {
      within = omega arith;
      end = record {
        boundary = here;
        some = h.some;
        ended = record {
          boundary = inside;
          ended = end_before_less (chars (take len d)) (drop len d) c
              (IsUtf8-drop d len ud inside) uc before;
        };
        one = one;
        apart = joins-front (take at a) d c near;
      };
    }

-- there is one line end more from a line end on
ends_from : (a : List ℕ) (at len : ℕ) → IsUtf8 a → IsEndAt a at len
    → ends_in (take at a) < ends_in a
ends_from a at len u h =
    let d = drop at a in
    let ud : IsUtf8 d = IsUtf8-drop a at u h.boundary in
    let w = take len d in
    let r = drop len d in
    let apart : joins w r ≡ false =
    end_apart w r (IsUtf8-take d len ud h.ended.boundary) (IsUtf8-drop d len ud h.ended.boundary)
    h.ended.ended in
    let rest : ends_in d ≡ ends_in w + ends_in r =
    ap ends_in (sym (take-append-drop len d)) ∙ ends_in-append w r apart in
    let whole : ends_in a ≡ ends_in (take at a) + ends_in d =
    ap ends_in (sym (take-append-drop at a)) ∙ ends_in-append (take at a) d h.apart in
    omega (arith, h.one, rest, whole)

-- the line ends before a place behind the cut
ends_behind : (a c : List ℕ) (j : ℕ) → joins a c ≡ false
    → ends_in (take (length a + j) (a ++ c)) ≡ ends_in a + ends_in (take j c)
ends_behind a c j apart =
    let near : joins a (take j c) ≡ false =
    joins-front a (take j c) (drop j c) (ap (joins a) (take-append-drop j c) ∙ apart) in
    ap ends_in (take-append-add a c j) ∙ ends_in-append a (take j c) near

-- ---- what follows near by

-- bytes that others follow begin with as much of the near text as they have
near_front : (x c near : List ℕ) (plain : Bool) (m : ℕ) → IsUtf8 x → length x ≡ m
    → IsNear (x ++ c) near plain → IsNear x (take m near) plain
near_front x c near plain m ux size h =
    ⊎_elim
    (λ (lt : m < length near).
    let same : take m near ≡ x =
    sym (take-append-le m near h.more (omega arith)) ∙ ap (take m) (sym h.begins)
    ∙ take_at x c m size in
    let uf : IsUtf8 (take m near) = subst IsUtf8 (sym same) ux in
    let whole : take m near ++ drop m near ≡ near = take-append-drop m near in
    let all : [] ++ (take m near ++ drop m near) ≡ near = whole in
    let ur : IsUtf8 (drop m near) = IsUtf8-rest (take m near) near (drop m near) uf h.utf8
    (sym whole) in
    record {
      utf8 = uf;
      more = [];
      begins = sym same ∙ sym (append-nil (take m near));
      plain =
          λ p. plain_part [] (take m near) (drop m near) IsUtf8-nil uf ur
          (ap (λ (y : List ℕ). length (chars y)) all ∙ h.plain p ∙ ap length (sym all));
    })
    (λ (le : length near ≤ m).
    let same : take m near ≡ near = take_all m near le in
    let k = length near in
    let front : take k x ≡ near =
    sym (take-append-le k x c (omega arith)) ∙ ap (take k) h.begins
    ∙ take_at near h.more k refl in
    subst (λ (y : List ℕ). IsNear x y plain) (sym same)
    (record {
      utf8 = h.utf8;
      more = drop k x;
      begins = sym (take-append-drop k x) ∙ ap (λ (y : List ℕ). y ++ drop k x) front;
      plain = h.plain;
    }))
    (cases_lt m (length near))

-- where it is cut, a character begins
boundary_near : (x c near : List ℕ) (plain : Bool) (m : ℕ) → IsUtf8 x → length x ≡ m
    → IsNear (x ++ c) near plain → m < length near → IsCharBoundary near m
boundary_near x c near plain m ux size h lt =
    let same : take m near ≡ x =
    sym (take-append-le m near h.more (omega arith)) ∙ ap (take m) (sym h.begins)
    ∙ take_at x c m size in
    IsCharBoundary-from_take near m h.utf8 (omega arith) (subst IsUtf8 (sym same) ux)

-- ---- a line end of the first part

-- a line end with no more of what follows it than up to a place
pub record IsUpTo (place : ℕ) (e f : LineEnd) : Type 0 where
  pub at : f.at ≡ e.at
  pub after : f.after ≡ e.after
  pub rest : f.rest.now ≡ take (place - e.after) e.rest.now
  pub plain : f.is_plain ≡ e.is_plain

pub record IsInFront (bs : List ℕ) (place n : ℕ) (e : LineEnd) : Type 0 where
  pub within : e.after ≤ place
  pub boundary : place - e.after < length e.rest.now → IsCharBoundary e.rest.now (place - e.after)
  pub end : (f : LineEnd) → IsUpTo place e f → IsLineEnd bs n f

before_cut : (a c : List ℕ) (n at : ℕ) → joins a c ≡ false → n < ends_in a
    → ends_in (take at (a ++ c)) ≡ n → at < length a
before_cut a c n at apart lt number =
    ⊎_elim
    (λ (less : at < length a). less)
    (λ (ge : length a ≤ at).
    let j = at - length a in
    let sum : at ≡ length a + j = omega arith in
    let more = ends_behind a c j apart in
    let same = ap (λ (k : ℕ). ends_in (take k (a ++ c))) sum in
    absurd (omega (arith, same, more, number, lt)))
    (cases_lt at (length a))

-- **A line end of a text, where the first part has more line ends, is one of the first part.**
pub line_end_in_front : (a c : List ℕ) (place n : ℕ) (e : LineEnd) → IsUtf8 a → IsUtf8 c
    → joins a c ≡ false → length a ≡ place → n < ends_in a → IsLineEnd (a ++ c) n e
    → IsInFront a place n e
line_end_in_front a c place n e ua uc apart len lt h =
    let order = h.order in
    let less = before_cut a c n e.at apart lt h.number in
    let k = end_in_front a c e.at (e.after - e.at) ua uc apart less h.end in
    let inside = k.within in
    let fits : e.after ≤ length a = omega arith in
    let within : e.after ≤ place = omega arith in
    let m = place - e.after in
    let cut : drop e.after (a ++ c) ≡ drop e.after a ++ c = drop-append-le e.after a c fits in
    let near : IsNear (drop e.after a ++ c) e.rest.now e.is_plain =
    subst (λ (x : List ℕ). IsNear x e.rest.now e.is_plain) cut h.near in
    let size : length (drop e.after a) ≡ m = omega (arith, length-drop e.after a) in
    let ud : IsUtf8 (drop e.after a) = after_utf8 a e.at e.after ua k.end h.order in
    record {
      within = within;
      boundary = boundary_near (drop e.after a) c e.rest.now e.is_plain m ud size near;
      end = λ f up.
          line_end_same a place n e f up h.order k.end
          (ap ends_in (sym (take-append-le e.at a c (omega arith))) ∙ h.number)
          (near_front (drop e.after a) c e.rest.now e.is_plain m ud size near);
    }
  where
    after_utf8 : (a : List ℕ) (at after : ℕ) → IsUtf8 a → IsEndAt a at (after - at) → at < after
        → IsUtf8 (drop after a)
    after_utf8 a at after ua end order =
        let sum : at + (after - at) ≡ after = omega arith in
        subst IsUtf8 (drop-drop (after - at) at a ∙ ap (λ (i : ℕ). drop i a) sum)
        (IsUtf8-drop (drop at a) (after - at) (IsUtf8-drop a at ua end.boundary)
        end.ended.boundary)

    line_end_same : (a : List ℕ) (place n : ℕ) (e f : LineEnd) → IsUpTo place e f
        → e.at < e.after → IsEndAt a e.at (e.after - e.at) → ends_in (take e.at a) ≡ n
        → IsNear (drop e.after a) (take (place - e.after) e.rest.now) e.is_plain
        → IsLineEnd a n f
    line_end_same a place n e f up order end number near =
        let at = up.at in
        let after = up.after in
        let first : IsEndAt a f.at (e.after - e.at) =
        subst (λ (i : ℕ). IsEndAt a i (e.after - e.at)) (sym up.at) end in
        let len : e.after - e.at ≡ f.after - f.at = omega arith in
        let rest : IsNear (drop e.after a) f.rest.now e.is_plain =
        subst (λ (x : List ℕ). IsNear (drop e.after a) x e.is_plain) (sym up.rest) near in
        let plain : IsNear (drop e.after a) f.rest.now f.is_plain =
        subst (λ (v : Bool). IsNear (drop e.after a) f.rest.now v) (sym up.plain) rest in
        record {
          order = omega arith;
          end = subst (λ (i : ℕ). IsEndAt a f.at i) len first;
          number = ap (λ (i : ℕ). ends_in (take i a)) up.at ∙ number;
          near = subst (λ (i : ℕ). IsNear (drop i a) f.rest.now f.is_plain) (sym up.after) plain;
        }

-- ---- a line end of the second part

pub record IsBehind (a c : List ℕ) (m : ℕ) (e : LineEnd) : Type 0 where
  pub order : length a ≤ e.at
  pub end : IsLineEnd c m (nearer_end (length a) e)

behind_cut : (a c : List ℕ) (m at len : ℕ) → IsUtf8 a → IsUtf8 c → joins a c ≡ false
    → IsEndAt (a ++ c) at len → ends_in (take at (a ++ c)) ≡ ends_in a + m → length a ≤ at
behind_cut a c m at len ua uc apart h number =
    ⊎_elim
    (λ (less : at < length a).
    let k = end_in_front a c at len ua uc apart less h in
    let fewer = ends_from a at len ua k.end in
    let same = ap ends_in (take-append-le at a c (omega arith)) in
    absurd (omega (arith, fewer, same, number)))
    (λ (ge : length a ≤ at). ge)
    (cases_lt at (length a))

end_behind : (a c : List ℕ) (j len : ℕ) → IsEndAt (a ++ c) (length a + j) len → IsEndAt c j len
end_behind a c j len h =
    let cut : drop (length a + j) (a ++ c) ≡ drop j c = drop-append-add a c j in
    let front : take (length a + j) (a ++ c) ≡ a ++ take j c = take-append-add a c j in
    let far : joins (a ++ take j c) (drop j c) ≡ false =
    ap (λ (x : List ℕ). joins x (drop j c)) (sym front)
    ∙ ap (joins (take (length a + j) (a ++ c))) (sym cut) ∙ h.apart in
    record {
      boundary = boundary_behind a c j h.boundary;
      some = h.some;
      ended = subst (λ (x : List ℕ). IsEndLen x len) cut h.ended;
      one = ap (λ (x : List ℕ). ends_in (take len x)) (sym cut) ∙ h.one;
      apart = joins-back a (take j c) (drop j c) far;
    }

-- **A line end of a text, where the first part has no more, is one of the second part.**
pub line_end_behind : (a c : List ℕ) (m : ℕ) (e : LineEnd) → IsUtf8 a → IsUtf8 c
    → joins a c ≡ false → IsLineEnd (a ++ c) (ends_in a + m) e → IsBehind a c m e
line_end_behind a c m e ua uc apart h =
    let order = h.order in
    let ge = behind_cut a c m e.at (e.after - e.at) ua uc apart h.end h.number in
    let j = e.at - length a in
    let at : e.at ≡ length a + j = omega arith in
    let after : e.after ≡ length a + (e.after - length a) = omega arith in
    let len : e.after - e.at ≡ e.after - length a - j = omega arith in
    let there : IsEndAt (a ++ c) (length a + j) (e.after - e.at) =
    subst (λ (i : ℕ). IsEndAt (a ++ c) i (e.after - e.at)) at h.end in
    let counted : ends_in a + ends_in (take j c) ≡ ends_in a + m =
    sym (ends_behind a c j apart) ∙ ap (λ (i : ℕ). ends_in (take i (a ++ c))) (sym at)
    ∙ h.number in
    let rest : drop e.after (a ++ c) ≡ drop (e.after - length a) c =
    ap (λ (i : ℕ). drop i (a ++ c)) after ∙ drop-append-add a c (e.after - length a) in
    record {
      order = ge;
      end = record {
        order = omega arith;
        end = subst (λ (i : ℕ). IsEndAt c j i) len (end_behind a c j (e.after - e.at) there);
        number = omega (arith, counted);
        near = subst (λ (x : List ℕ). IsNear x e.rest.now e.is_plain) rest h.near;
      };
    }
