-- Places in a part of a text, as places in the text.
use Rattle.std.proofs.Common.{◌≡◌, ◌⊎◌, ◌<◌, ◌≤◌, ◌+◌, ◌-◌, ℕ, Bool, true, false, List, [], ◌∷◌, ◌++◌, length, take, drop, get_or, cond, ltb, Option, Some, None, refl, sym, ap, subst, inl, inr, ⊎_elim, ◌∙◌, arith, length-append, length-drop, append_assoc}
use Rattle.std.specs.List.{sum_by}
use Rattle.std.specs.Option.{option_map}
use Rattle.std.proofs.lemmas.Bool.{false≢true, cases_lt, cond-true, and_from, lt-ltb, false_from_ne_true}
use Rattle.std.proofs.lemmas.List.{append-nil, take-append-drop, take_at, drop_at, drop-drop, drop_all, drop_more, drop-append-le, take-append-le, length-take-le, get_or_append_left, get_or-append-add}
use Rattle.std.proofs.lemmas.List.Sums.{sum_by-cons, sum_by-take-drop}
use Rattle.std.specs.Str.{chars, IsUtf8, IsCharBoundary}
use Rattle.std.proofs.lemmas.Str.{chars-append, IsUtf8-append, IsUtf8-take, IsUtf8-drop, IsCharBoundary-at_seam, IsCharBoundary-from_rest}
use Rattle.lsp_types.specs.declared.position.Encoding.{Encoding}
use Rattle.lsp_types.specs.declared.position.Encoding.TheVariants.{Utf8, Utf16, Utf32}
use Rattle.lsp_text.specs.Lines.{starts_with_feed, IsEndBefore}
use Rattle.lsp_text.specs.LineEnd.{IsEndLen}
use Rattle.lsp_text.specs.Places.{units, units_of_char, place_in_line}
use Rattle.lsp_text.specs.Offsets.{IsOffset, IsSkipped}
use Rattle.lsp_text.proofs.Cuts.{last_is_return}
use Rattle.lsp_text.proofs.LineBytes.{starts_with_feed-text}
use Rattle.lsp_text.proofs.Positions.{take-add_here}
use Rattle.lsp_text.proofs.Counting.{units-append, units-utf8_text}
use Rattle.lsp_text.proofs.Widths.{units-utf32, place_past_skipped, offset_past_skipped}
use Rattle.lsp_lined.specs.Ends.{ends_in, ends_with_return, joins, IsEndAt, IsNear, IsLineEnd}
use Rattle.lsp_lined.specs.Sums.{amount}
use Rattle.lsp_lined.specs.Parts.{joined, AreParts, part_at, IsFound}
use Rattle.lsp_lined.specs.Windows.{moved_end}
use Rattle.lsp_lined.specs.declared.part.Found.{Found}
use Rattle.lsp_lined.specs.declared.part.LineEnd.{LineEnd}
use Rattle.lsp_lined.specs.declared.sums.Measure.{Measure}
use Rattle.lsp_lined.specs.declared.sums.Measure.TheVariants.{Ends, Units}
use Rattle.lsp_lined.proofs.EndCounts.{ends_in-append}
use Rattle.lsp_lined.proofs.Parts.{joined-at, joins-front, joins-back, joins-farther, IsUtf8-joined, has_part, amount-joined}
use Rattle.lsp_lined.proofs.PartSteps.{found_within as found_in}
use Rattle.lsp_lined.proofs.EndsInLines.{ends_with_return-chars}

-- ---- a text between two others

pub record IsBetween (a p c : List ℕ) : Type 0 where
  pub utf8 : IsUtf8 p
  pub front_utf8 : IsUtf8 a
  pub back_utf8 : IsUtf8 c
  pub front_apart : joins a (p ++ c) ≡ false
  pub back_apart : joins p c ≡ false

pub boundary-append : (p c : List ℕ) (i : ℕ) → IsUtf8 c → IsCharBoundary p i → IsCharBoundary (p ++ c) i
boundary-append p c i u b =
    let le = b.0 in
    ⊎_elim
    (λ (lt : i < length p).
    let e : get_or (p ++ c) i 0 ≡ get_or p i 0 = get_or_append_left p c 0 i lt in
    let within : i ≤ length (p ++ c) = omega (arith, length-append p c) in
    (within, λ less high. let lead = b.1 lt (omega arith) in omega arith))
    (λ (ge : length p ≤ i). let e : length p ≡ i = omega arith in subst (λ k. IsCharBoundary (p ++ c) k) e (IsCharBoundary-at_seam (p ++ c) p c refl u))
    (cases_lt i (length p))

pub boundary-inside : (a p c : List ℕ) (i : ℕ) → IsUtf8 c → IsCharBoundary p i → IsCharBoundary (a ++ (p ++ c)) (length a + i)
boundary-inside a p c i u b =
    IsCharBoundary-from_rest (a ++ (p ++ c)) (length a) i (omega (arith, length-append a (p ++ c)))
    (subst (λ (x : List ℕ). IsCharBoundary x i) (sym (drop_at a (p ++ c) (length a) refl)) (boundary-append p c i u b))

pub boundary-of_inside : (a p c : List ℕ) (i : ℕ) → i ≤ length p → IsCharBoundary (a ++ (p ++ c)) (length a + i) → IsCharBoundary p i
boundary-of_inside a p c i le b = (
  le,
  λ lt high.
      let e : get_or (a ++ (p ++ c)) (length a + i) 0 ≡ get_or p i 0 = get_or-append-add a (p ++ c) i 0 ∙ get_or_append_left p c 0 i lt in
      let within : length a + i < length (a ++ (p ++ c)) = omega (arith, length-append a (p ++ c), length-append p c) in
      let lead = b.1 within (omega arith) in
      omega arith,
)

pub take-inside : (a p c : List ℕ) (i : ℕ) → i ≤ length p → take (length a + i) (a ++ (p ++ c)) ≡ a ++ take i p
take-inside a p c i le =
    take-add_here (a ++ (p ++ c)) (length a) i (take i p) (drop i p ++ c)
    (drop_at a (p ++ c) (length a) refl ∙ ap (λ (x : List ℕ). x ++ c) (sym (take-append-drop i p)) ∙ append_assoc (take i p) (drop i p) c) (length-take-le i p le)
    ∙ ap (λ (x : List ℕ). x ++ take i p) (take_at a (p ++ c) (length a) refl)

pub drop-inside : (a p c : List ℕ) (i : ℕ) → i ≤ length p → drop (length a + i) (a ++ (p ++ c)) ≡ drop i p ++ c
drop-inside a p c i le =
    sym (drop-drop i (length a) (a ++ (p ++ c))) ∙ ap (drop i) (drop_at a (p ++ c) (length a) refl) ∙ drop-append-le i p c le

-- ---- line ends

no_feed_behind : (w x s : List ℕ) → joins (w ++ x) s ≡ false → ends_with_return false w ≡ true → starts_with_feed x ≡ false → starts_with_feed (x ++ s) ≡ false
no_feed_behind w [] s apart last h =
    false_from_ne_true _ (λ f. false≢true (sym apart ∙ and_from _ _ (ap (ends_with_return false) (append-nil w) ∙ last) f))
no_feed_behind w (y ∷ ys) s apart last h = h

-- a line end stays one where more follows, unless a CR meets a LF
end_before_more : (w x s : List ℕ) → IsUtf8 w → IsUtf8 x → IsUtf8 s → joins (w ++ x) s ≡ false → IsEndBefore (chars x) (chars w) → IsEndBefore (chars (x ++ s)) (chars w)
end_before_more w x s uw ux us apart h =
    elim h [
      | inl a ↦ inl a
      | inr k ↦ elim k [
        | inl a ↦ inr (inl a)
        | inr q ↦
            let last : ends_with_return false w ≡ true = sym (ends_with_return-chars w uw) ∙ ap (last_is_return false) q.0 in
            inr (inr (q.0, starts_with_feed-text (x ++ s) (IsUtf8-append x s ux us) ∙ no_feed_behind w x s apart last (sym (starts_with_feed-text x ux) ∙ q.1)))
      ]
    ]

joins-begun : (x d c : List ℕ) → 0 < length d → joins x d ≡ false → joins x (d ++ c) ≡ false
joins-begun x [] c some h = absurd (omega arith)
joins-begun x (y ∷ ys) c some h = h

pub end_at-inside : (a p c : List ℕ) (at len : ℕ) → IsBetween a p c → IsEndAt p at len → IsEndAt (a ++ (p ++ c)) (length a + at) len
end_at-inside a p c at len b h =
    let d = drop at p in
    let w = take len d in
    let le = h.boundary.0 in
    let some = h.some in
    let size : length d ≡ length p - at = length-drop at p in
    let lend : len ≤ length d = h.ended.boundary.0 in
    let ud : IsUtf8 d = IsUtf8-drop p at b.utf8 h.boundary in
    let uw : IsUtf8 w = IsUtf8-take d len ud h.ended.boundary in
    let ux : IsUtf8 (drop len d) = IsUtf8-drop d len ud h.ended.boundary in
    let behind : joins d c ≡ false = joins-back (take at p) d c (ap (λ (x : List ℕ). joins x c) (take-append-drop at p) ∙ b.back_apart) in
    let rest : drop (length a + at) (a ++ (p ++ c)) ≡ d ++ c = drop-inside a p c at h.boundary.0 in
    let front : take (length a + at) (a ++ (p ++ c)) ≡ a ++ take at p = take-inside a p c at h.boundary.0 in
    let ends : take len (d ++ c) ≡ w = take-append-le len d c lend in
    let after : drop len (d ++ c) ≡ drop len d ++ c = drop-append-le len d c lend in
    let ended : IsEndBefore (chars (drop len d ++ c)) (chars w) =
    end_before_more w (drop len d) c uw ux b.back_utf8 (ap (λ (x : List ℕ). joins x c) (take-append-drop len d) ∙ behind) h.ended.ended in
    let near : joins (take at p) (d ++ c) ≡ false = joins-begun (take at p) d c (omega arith) h.apart in
    let far : joins a (take at p ++ (d ++ c)) ≡ false =
    ap (joins a) (sym (append_assoc (take at p) d c) ∙ ap (λ (x : List ℕ). x ++ c) (take-append-drop at p)) ∙ b.front_apart in
    record {
      boundary = boundary-inside a p c at b.back_utf8 h.boundary;
      some = h.some;
      ended =
          subst (λ (x : List ℕ). IsEndLen x len) (sym rest)
          (record {
            boundary = boundary-append d c len b.back_utf8 h.ended.boundary;
            ended = subst (λ (x : List ℕ). IsEndBefore (chars x) (chars (take len (d ++ c)))) (sym after) (subst (λ (x : List ℕ). IsEndBefore (chars (drop len d ++ c)) (chars x)) (sym ends) ended);
          });
      one = ap (λ (x : List ℕ). ends_in (take len x)) rest ∙ ap ends_in ends ∙ h.one;
      apart = ap (λ (x : List ℕ). joins x (drop (length a + at) (a ++ (p ++ c)))) front ∙ ap (joins (a ++ take at p)) rest ∙ joins-farther a (take at p) (d ++ c) far near;
    }

near-append : (bs c near : List ℕ) (plain : Bool) → IsNear bs near plain → IsNear (bs ++ c) near plain
near-append bs c near plain h =
    record { utf8 = h.utf8; more = h.more ++ c; begins = ap (λ (x : List ℕ). x ++ c) h.begins ∙ append_assoc near h.more c; plain = h.plain }

-- **A line end of a text between two others is one of the whole.**
pub line_end-inside : (a p c : List ℕ) (n : ℕ) (e : LineEnd) → IsBetween a p c → IsLineEnd p n e → IsLineEnd (a ++ (p ++ c)) (ends_in a + n) (moved_end (length a) e)
line_end-inside a p c n e b h =
    let k = length a in
    let order = h.order in
    let at_le = h.end.boundary.0 in
    let len_le = h.end.ended.boundary.0 in
    let within : e.after ≤ length p = omega (arith, length-drop e.at p) in
    let same : e.after - e.at ≡ k + e.after - (k + e.at) = omega arith in
    let first : joins a (take e.at p) ≡ false =
    joins-front a (take e.at p) (drop e.at p ++ c) (ap (joins a) (sym (append_assoc (take e.at p) (drop e.at p) c) ∙ ap (λ (x : List ℕ). x ++ c) (take-append-drop e.at p)) ∙ b.front_apart) in
    record {
      order = omega arith;
      end = subst (λ i. IsEndAt (a ++ (p ++ c)) (k + e.at) i) same (end_at-inside a p c e.at (e.after - e.at) b h.end);
      number = ap ends_in (take-inside a p c e.at h.end.boundary.0) ∙ ends_in-append a (take e.at p) first ∙ ap (λ i. ends_in a + i) h.number;
      near = subst (λ (x : List ℕ). IsNear x e.rest.now e.is_plain) (sym (drop-inside a p c e.after within)) (near-append (drop e.after p) c e.rest.now e.is_plain h.near);
    }

-- ---- columns

-- a column after a character of so many units, where it is found after that
abbrev found_behind : ℕ → ℕ → Option ℕ → Option ℕ
found_behind left n o = cond (ltb left 1) (Some 0) (cond (ltb left n) None (option_map (λ k. k + 1) o))

found_inside : (left n : ℕ) (o q : Option ℕ) → left < n → found_behind left n o ≡ found_behind left n q
found_inside left n o q lt =
    ap (λ (r : Option ℕ). cond (ltb left 1) (Some 0) r)
    (cond-true (ltb left n) None (option_map (λ k. k + 1) o) (lt-ltb left n lt) ∙ sym (cond-true (ltb left n) None (option_map (λ k. k + 1) q) (lt-ltb left n lt)))

-- a column of a text is found in it
pub place_in_line-before : (enc : Encoding) (xs ys : List ℕ) (left : ℕ) → left ≤ units enc xs → place_in_line enc (xs ++ ys) left ≡ place_in_line enc xs left
place_in_line-before enc [] [] left le = refl
place_in_line-before enc [] (y ∷ ys) left le = cond-true _ _ _ (lt-ltb left 1 (omega arith))
place_in_line-before enc (x ∷ xs) ys left le =
    let n = units_of_char enc x in
    ⊎_elim
    (λ (lt : left < n). found_inside left n (place_in_line enc (xs ++ ys) (left - n)) (place_in_line enc xs (left - n)) lt)
    (λ (ge : n ≤ left). ap (found_behind left n) (place_in_line-before enc xs ys (left - n) (omega arith)))
    (cases_lt left n)

pub amount-units : (enc : Encoding) (bs : List ℕ) → IsUtf8 bs → amount (Units enc) bs ≡ units enc (chars bs)
amount-units Utf8 bs u = sym (units-utf8_text bs u)
amount-units Utf16 bs u = refl
amount-units Utf32 bs u = sym (units-utf32 (chars bs))

-- a column goes past what comes before a text, and not past the text if others follow
pub record FallsIn (enc : Encoding) (a p c : List ℕ) (column left : ℕ) : Type 0 where
  pub past : units enc (chars a) + left ≡ column
  pub inside : (left ≤ units enc (chars p)) ⊎ (c ≡ [])

pub place-front : (enc : Encoding) (p c : List ℕ) (left : ℕ) → IsUtf8 p → (left ≤ units enc (chars p)) ⊎ (c ≡ []) → place_in_line enc (chars (p ++ c)) left ≡ place_in_line enc (chars p) left
place-front enc p c left u h =
    ⊎_elim
    (λ (le : left ≤ units enc (chars p)). ap (λ (x : List ℕ). place_in_line enc x left) (chars-append p c u) ∙ place_in_line-before enc (chars p) (chars c) left le)
    (λ (e : c ≡ []). ap (λ (x : List ℕ). place_in_line enc (chars x) left) (ap (λ (x : List ℕ). p ++ x) e ∙ append-nil p))
    h

skipped-front : (enc : Encoding) (a p c : List ℕ) (column left : ℕ) → IsBetween a p c → units enc (chars a) + left ≡ column → IsSkipped enc (a ++ (p ++ c)) column (length a) left
skipped-front enc a p c column left b h =
    record {
      boundary = IsCharBoundary-at_seam (a ++ (p ++ c)) a (p ++ c) refl (IsUtf8-append p c b.utf8 b.back_utf8);
      left_is = ap (λ (x : List ℕ). units enc (chars x) + left) (take_at a (p ++ c) (length a) refl) ∙ h;
    }

whole_utf8 : (a p c : List ℕ) → IsBetween a p c → IsUtf8 (a ++ (p ++ c))
whole_utf8 a p c b = IsUtf8-append a (p ++ c) b.front_utf8 (IsUtf8-append p c b.utf8 b.back_utf8)

-- **A place in a text between two others is one of the whole.**
pub offset-inside : (enc : Encoding) (a p c : List ℕ) (column left offset : ℕ) → IsBetween a p c → FallsIn enc a p c column left → IsOffset enc p left offset → IsOffset enc (a ++ (p ++ c)) column (length a + offset)
offset-inside enc a p c column left offset b h o =
    let front : IsOffset enc (p ++ c) left offset =
    record {
      boundary = boundary-append p c offset b.back_utf8 o.boundary;
      place = place-front enc p c left b.utf8 h.inside ∙ o.place ∙ ap (λ (x : List ℕ). Some (length (chars x))) (sym (take-append-le offset p c o.boundary.0));
    }
    in
    offset_past_skipped enc (a ++ (p ++ c)) (p ++ c) column (length a) left offset (whole_utf8 a p c b) (skipped-front enc a p c column left b h.past)
    (sym (drop_at a (p ++ c) (length a) refl)) front

pub no_offset-inside : (enc : Encoding) (a p c : List ℕ) (column left : ℕ) → IsBetween a p c → FallsIn enc a p c column left → place_in_line enc (chars p) left ≡ None → place_in_line enc (chars (a ++ (p ++ c))) column ≡ None
no_offset-inside enc a p c column left b h none =
    let bs = a ++ (p ++ c) in
    place_past_skipped enc bs (p ++ c) column (length a) left (whole_utf8 a p c b) (skipped-front enc a p c column left b h.past) (sym (drop_at a (p ++ c) (length a) refl))
    ∙ ap (option_map (λ (k : ℕ). length (chars (take (length a) bs)) + k)) (place-front enc p c left b.utf8 h.inside ∙ none)

-- the units before a place
pub units-inside : (enc : Encoding) (a p c : List ℕ) (i : ℕ) → IsUtf8 a → i ≤ length p → units enc (chars (take (length a + i) (a ++ (p ++ c)))) ≡ units enc (chars a) + units enc (chars (take i p))
units-inside enc a p c i u le =
    ap (λ (x : List ℕ). units enc (chars x)) (take-inside a p c i le) ∙ ap (units enc) (chars-append a (take i p) u) ∙ units-append enc (chars a) (chars (take i p))

-- ---- the part that was found

abbrev pub before_part : List (List ℕ) → ℕ → List ℕ
before_part ps i = joined (take i ps)

abbrev pub after_part : List (List ℕ) → ℕ → List ℕ
after_part ps i = joined (drop (i + 1) ps)

pub part_between : (ps : List (List ℕ)) (i : ℕ) → AreParts ps → i < length ps → IsBetween (before_part ps i) (part_at ps i) (after_part ps i)
part_between ps i h lt =
    let k = has_part ps i h lt in
    record {
      utf8 = k.utf8;
      front_utf8 = IsUtf8-joined (take i ps) k.before;
      back_utf8 = IsUtf8-joined (drop (i + 1) ps) k.after;
      front_apart = k.front_apart;
      back_apart = k.back_apart;
    }

-- nothing comes after the last part
pub after_last : (ps : List (List ℕ)) (i : ℕ) → length ps ≤ i + 1 → after_part ps i ≡ []
after_last ps i le = ap joined (drop_all (i + 1) ps le)

amount_before : (ps : List (List ℕ)) (by : Measure) (at : ℕ) (f : Found) → AreParts ps → IsFound ps by at f → amount by (before_part ps f.index) + f.left ≡ at
amount_before ps by at f h k = ap (λ n. n + f.left) (amount-joined by (take f.index ps) (has_part ps f.index h k.index).before) ∙ k.left_is

-- **A number below the whole is one below the part that was found.**
pub found_below : (ps : List (List ℕ)) (by : Measure) (at : ℕ) (f : Found) → AreParts ps → IsFound ps by at f → at < amount by (joined ps) → f.left < amount by (part_at ps f.index)
found_below ps by at f h k lt =
    let i = f.index in
    ⊎_elim
    (λ (more : i + 1 < length ps). k.inside more)
    (λ (last : length ps ≤ i + 1).
    let left = k.left_is in
    let rest : sum_by (amount by) (drop i ps) ≡ amount by (part_at ps i) =
    ap (sum_by (amount by)) (drop_more ps i [] k.index ∙ ap (λ (xs : List (List ℕ)). part_at ps i ∷ xs) (drop_all (i + 1) ps last)) ∙ sum_by-cons (amount by) (part_at ps i) []
    ∙ (let e : amount by (part_at ps i) + 0 ≡ amount by (part_at ps i) = omega arith in e) in
    omega (arith, lt, left, amount-joined by ps h, sum_by-take-drop (amount by) ps i, rest))
    (cases_lt (i + 1) (length ps))

-- **A line end of the part that was found is the one looked for.**
pub found_line_end : (ps : List (List ℕ)) (n : ℕ) (f : Found) (e : LineEnd) → AreParts ps → IsFound ps Ends n f → IsLineEnd (part_at ps f.index) f.left e → IsLineEnd (joined ps) n (moved_end f.bytes e)
found_line_end ps n f e h k is =
    let i = f.index in
    let part = part_between ps i h k.index in
    subst (λ b. IsLineEnd (joined ps) n (moved_end b e)) (sym k.bytes_are)
    (subst (λ m. IsLineEnd (joined ps) m (moved_end (length (before_part ps i)) e)) (amount_before ps Ends n f h k)
    (subst (λ (x : List ℕ). IsLineEnd x (ends_in (before_part ps i) + f.left) (moved_end (length (before_part ps i)) e)) (sym (has_part ps i h k.index).text)
    (line_end-inside (before_part ps i) (part_at ps i) (after_part ps i) f.left e part is)))

found_falls : (ps : List (List ℕ)) (enc : Encoding) (column : ℕ) (f : Found) → AreParts ps → IsFound ps (Units enc) column f →
    FallsIn enc (before_part ps f.index) (part_at ps f.index) (after_part ps f.index) column f.left
found_falls ps enc column f h k =
    let i = f.index in
    let part = part_between ps i h k.index in
    record {
      past = ap (λ n. n + f.left) (sym (amount-units enc (before_part ps i) part.front_utf8)) ∙ amount_before ps (Units enc) column f h k;
      inside =
          ⊎_elim
          (λ (more : i + 1 < length ps). let lt = k.inside more in inl (omega (arith, lt, amount-units enc (part_at ps i) part.utf8)))
          (λ (last : length ps ≤ i + 1). inr (after_last ps i last))
          (cases_lt (i + 1) (length ps));
    }

-- **So is the place of a column,**
pub found_offset : (ps : List (List ℕ)) (enc : Encoding) (column offset : ℕ) (f : Found) → AreParts ps → IsFound ps (Units enc) column f → IsOffset enc (part_at ps f.index) f.left offset →
    IsOffset enc (joined ps) column (f.bytes + offset)
found_offset ps enc column offset f h k o =
    let i = f.index in
    subst (λ b. IsOffset enc (joined ps) column (b + offset)) (sym k.bytes_are)
    (subst (λ (x : List ℕ). IsOffset enc x column (length (before_part ps i) + offset)) (sym (has_part ps i h k.index).text)
    (offset-inside enc (before_part ps i) (part_at ps i) (after_part ps i) column f.left offset (part_between ps i h k.index) (found_falls ps enc column f h k) o))

pub found_none : (ps : List (List ℕ)) (enc : Encoding) (column : ℕ) (f : Found) → AreParts ps → IsFound ps (Units enc) column f → place_in_line enc (chars (part_at ps f.index)) f.left ≡ None →
    place_in_line enc (chars (joined ps)) column ≡ None
found_none ps enc column f h k none =
    let i = f.index in
    subst (λ (x : List ℕ). place_in_line enc (chars x) column ≡ None) (sym (has_part ps i h k.index).text)
    (no_offset-inside enc (before_part ps i) (part_at ps i) (after_part ps i) column f.left (part_between ps i h k.index) (found_falls ps enc column f h k) none)

-- a place in bytes, and the part that was found for it
pub record IsPlaceIn (ps : List (List ℕ)) (offset : ℕ) (f : Found) : Type 0 where
  pub place : f.bytes + f.left ≡ offset
  pub within : f.left ≤ length (part_at ps f.index)
  pub boundary : IsCharBoundary (part_at ps f.index) f.left
  pub units : (enc : Encoding) → units enc (chars (take offset (joined ps))) ≡ amount (Units enc) (before_part ps f.index) + units enc (chars (take f.left (part_at ps f.index)))

pub found_units : (ps : List (List ℕ)) (offset : ℕ) (f : Found) → AreParts ps → IsFound ps (Units Utf8) offset f → IsCharBoundary (joined ps) offset → IsPlaceIn ps offset f
found_units ps offset f h k b =
    let i = f.index in
    let a = before_part ps i in
    let p = part_at ps i in
    let c = after_part ps i in
    let part = part_between ps i h k.index in
    let place = found_in ps offset f k b.0 in
    let text : joined ps ≡ a ++ (p ++ c) = joined-at ps i k.index in
    let at : offset ≡ length a + f.left = sym (sym (ap (λ n. n + f.left) k.bytes_are) ∙ place.0) in
    let same : IsCharBoundary (a ++ (p ++ c)) (length a + f.left) = subst (λ n. IsCharBoundary (a ++ (p ++ c)) n) at (subst (λ (x : List ℕ). IsCharBoundary x offset) text b) in
    record {
      place = place.0;
      within = place.1;
      boundary = boundary-of_inside a p c f.left place.1 same;
      units = λ enc.
          ap (λ (x : List ℕ). units enc (chars (take offset x))) text ∙ ap (λ n. units enc (chars (take n (a ++ (p ++ c))))) at
          ∙ units-inside enc a p c f.left part.front_utf8 place.1 ∙ ap (λ n. n + units enc (chars (take f.left p))) (sym (amount-units enc a part.front_utf8));
    }
