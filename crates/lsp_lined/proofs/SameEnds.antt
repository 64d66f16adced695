-- The first and last bytes of a window that are still those of the blocks.
use Rattle.std.proofs.Common.{◌≡◌, ◌<◌, ◌≤◌, ◌+◌, ◌-◌, ℕ, List, [], ◌++◌, length, take, drop, min}
use Rattle.std.proofs.Common.{refl, sym, ap, ap₂, subst, ⊎_elim, ◌∙◌, arith}
use Rattle.std.proofs.Common.{length-append, length-drop, append_assoc}
use Rattle.std.proofs.lemmas.Bool.{cases_lt}
use Rattle.std.proofs.lemmas.List.{take-append-drop, take-append-le, drop-append-le, length-take-le}
use Rattle.std.proofs.lemmas.List.{drop-drop, take-take}
use Rattle.std.proofs.Math.Seq.{drop-append-add}
use Rattle.std.specs.List.{replace_range}
use Rattle.std.specs.Str.{IsUtf8, IsCharBoundary}
use Rattle.std.proofs.lemmas.Str.{IsUtf8-nil, IsUtf8-take, IsUtf8-drop, IsUtf8-between}
use Rattle.std.proofs.lemmas.Str.{IsCharBoundary-start, IsCharBoundary-from_take}
use Rattle.std.proofs.lemmas.Str.{IsCharBoundary-from_drop}
use Rattle.lsp_text.specs.Spans.{CanReplace, bytes_between}
use Rattle.lsp_lined.specs.Parts.{IsSpan}
use Rattle.lsp_lined.specs.Patches.{IsPatch, AreSameEndsOf}
use Rattle.lsp_lined.specs.declared.lined.patch.Patch.{Patch}
use Rattle.lsp_lined.proofs.Patches.{front_out, back_out, between_front, between_back}
use Rattle.lsp_lined.proofs.Patches.{boundary_between}
use Rattle.lsp_text.proofs.Splices.{IsUtf8-replace_range, length-replace_range}

-- ---- no window

pub ends_nothing : AreSameEndsOf [] [] 0 0
ends_nothing =
    let start = IsCharBoundary-start [] IsUtf8-nil in
    record {
      within = omega arith;
      there = omega arith;
      first = start;
      last = start;
      same_front = refl;
      same_back = refl;
    }

pub ends_closed : (held text : List ℕ) (front back : ℕ) → AreSameEndsOf held text front back
    → text ≡ [] → AreSameEndsOf [] [] front back
ends_closed held text front back h none =
    let before : front ≡ 0 = omega (arith, h.within, ap length none) in
    let after : back ≡ 0 = omega (arith, h.within, ap length none) in
    rw (before, after) ends_nothing

-- ---- a window is opened

span_len : (bs : List ℕ) (from to : ℕ) → IsSpan bs from to
    → length (bytes_between bs from to) ≡ to - from
span_len bs from to h =
    length-take-le (to - from) (drop from bs)
    (omega (arith, length-drop from bs, h.order, h.second.boundary.0))

span_utf8 : (bs : List ℕ) (from to : ℕ) → IsSpan bs from to → IsUtf8 (bytes_between bs from to)
span_utf8 bs from to h = IsUtf8-between bs from to h.utf8 h.order h.first.boundary h.second.boundary

pub ends_opened : (bs text : List ℕ) (from to start end : ℕ) → IsSpan bs start end
    → CanReplace bs from to → start ≤ from → to ≤ end → text ≡ bytes_between bs start end
    → AreSameEndsOf (bytes_between bs start end) text (from - start) (end - to)
ends_opened bs text from to start end h c first last is =
    let held = bytes_between bs start end in
    let size = span_len bs start end h in
    let utf8 = span_utf8 bs start end h in
    let order = c.order in
    let behind : length held - (end - to) ≡ to - start = omega (arith, size) in
    let begins : IsUtf8 (take (from - start) held) =
    subst IsUtf8 (sym (between_front bs start from end first (omega arith)))
    (IsUtf8-between bs start from h.utf8 first h.first.boundary c.first) in
    let ends : IsUtf8 (drop (length held - (end - to)) held) =
    subst IsUtf8
    (sym (ap (λ n. drop n held) behind ∙ between_back bs start to end (omega arith) last))
    (IsUtf8-between bs to end h.utf8 last c.second h.second.boundary) in
    subst (λ (x : List ℕ). AreSameEndsOf held x (from - start) (end - to)) (sym is)
    (record {
      within = omega (arith, size);
      there = omega (arith, size);
      first = IsCharBoundary-from_take held (from - start) utf8 (omega (arith, size)) begins;
      last = IsCharBoundary-from_drop held (length held - (end - to)) (omega arith) ends;
      same_front = refl;
      same_back = refl;
    })

-- ---- a window is edited

-- what comes before an edit, and what comes after it
front_stays : (bs text : List ℕ) (from to n : ℕ) → from ≤ length bs → n ≤ from
    → take n (replace_range bs from to text) ≡ take n bs
front_stays bs text from to n within le =
    let a = take from bs in
    let b = drop to bs in
    let some : n ≤ length a = omega (arith, length-take-le from bs within, le) in
    ap (take n) (append_assoc a text b) ∙ take-append-le n a (text ++ b) some
    ∙ take-take n from bs le

back_stays : (bs text : List ℕ) (from to n : ℕ) → from ≤ length bs → to ≤ length bs
    → n ≤ length bs - to
    → drop (length (replace_range bs from to text) - n) (replace_range bs from to text)
    ≡ drop (length bs - n) bs
back_stays bs text from to n within there le =
    let new = replace_range bs from to text in
    let a = take from bs ++ text in
    let k = length bs - to - n in
    let front : length a ≡ from + length text =
    omega (arith, length-append (take from bs) text, length-take-le from bs within) in
    let at : length new - n ≡ length a + k =
    omega (arith, length-replace_range bs text from to within, front) in
    let sum : to + k ≡ length bs - n = omega arith in
    ap (λ i. drop i new) at ∙ drop-append-add a (drop to bs) k ∙ drop-drop k to bs
    ∙ ap (λ i. drop i bs) sum

-- fewer bytes are the same too
fewer_front : (held text : List ℕ) (front n : ℕ) → n ≤ front → take front text ≡ take front held
    → take n text ≡ take n held
fewer_front held text front n le e =
    sym (take-take n front text le) ∙ ap (take n) e ∙ take-take n front held le

fewer_back : (held text : List ℕ) (back n : ℕ) → n ≤ back → back ≤ length held
    → back ≤ length text → drop (length text - back) text ≡ drop (length held - back) held
    → drop (length text - n) text ≡ drop (length held - n) held
fewer_back held text back n le left right e =
    let k = back - n in
    let here : (length text - back) + k ≡ length text - n = omega arith in
    let there : (length held - back) + k ≡ length held - n = omega arith in
    sym (drop-drop k (length text - back) text ∙ ap (λ i. drop i text) here) ∙ ap (drop k) e
    ∙ drop-drop k (length held - back) held ∙ ap (λ i. drop i held) there

pub ends_inside : (held window text : List ℕ) (front back from to less fewer : ℕ)
    → AreSameEndsOf held window front back → CanReplace window from to → IsUtf8 window
    → IsUtf8 text → less ≡ min front from → fewer ≡ min back (length window - to)
    → AreSameEndsOf held (replace_range window from to text) less fewer
ends_inside held window text front back from to less fewer h c u v front_is back_is =
    let new = replace_range window from to text in
    let within = h.within in
    let there = h.there in
    let order = c.order in
    let start : from ≤ length window = c.first.0 in
    let end : to ≤ length window = c.second.0 in
    let size = length-replace_range window text from to start in
    let utf8 = IsUtf8-replace_range window text from to u v c.first c.second in
    let first : IsCharBoundary window less =
    ⊎_elim (λ (lt : front < from). subst (IsCharBoundary window) (omega arith) h.first)
    (λ (le : from ≤ front). subst (IsCharBoundary window) (omega arith) c.first)
    (cases_lt front from) in
    let last : IsCharBoundary window (length window - fewer) =
    ⊎_elim
    (λ (lt : back < length window - to). subst (IsCharBoundary window) (omega arith) h.last)
    (λ (le : length window - to ≤ back). subst (IsCharBoundary window) (omega arith) c.second)
    (cases_lt back (length window - to)) in
    let begins = front_stays window text from to less start (omega arith) in
    let ends = back_stays window text from to fewer start end (omega arith) in
    record {
      within = omega (arith, size);
      there = omega arith;
      first =
          IsCharBoundary-from_take new less utf8 (omega (arith, size))
          (subst IsUtf8 (sym begins) (IsUtf8-take window less u first));
      last =
          IsCharBoundary-from_drop new (length new - fewer) (omega arith)
          (subst IsUtf8 (sym ends) (IsUtf8-drop window (length window - fewer) u last));
      same_front = begins ∙ fewer_front held window front less (omega arith) h.same_front;
      same_back =
          ends
          ∙ fewer_back held window back fewer (omega arith) (omega arith) (omega arith)
          h.same_back;
    }

-- ---- a window is closed

pub ends_patch : (bs text begins : List ℕ) (from to front back : ℕ) (p : Patch)
    → IsSpan bs from to → IsUtf8 text
    → AreSameEndsOf (bytes_between bs from to) text front back → p.from ≡ from + front
    → p.to ≡ to - back → begins ≡ take (length text - back) text
    → p.text.now ≡ drop front begins → IsPatch bs from to text p
ends_patch bs text begins from to front back p h u e from_is to_is begins_are is =
    let held = bytes_between bs from to in
    let new = drop front text in
    let at = from + front in
    let end = to - back in
    let k = length text - back in
    let order = h.order in
    let within = e.within in
    let there = e.there in
    let size = span_len bs from to h in
    let utf8 = span_utf8 bs from to h in
    let some : front + back ≤ to - from = omega (arith, size) in
    let first : at - from ≡ front = omega arith in
    let last : end - from ≡ length held - back = omega (arith, size) in
    let whole : text ≡ bytes_between bs from at ++ new =
    sym (take-append-drop front text)
    ∙ ap (λ (x : List ℕ). x ++ new) (e.same_front ∙ ap (λ n. take n held) (sym first)
    ∙ between_front bs from at to (omega arith) (omega arith)) in
    let behind : drop k text ≡ bytes_between bs end to =
    e.same_back ∙ ap (λ n. drop n held) (sym last)
    ∙ between_back bs from end to (omega arith) (omega arith) in
    let rest : new ≡ p.text.now ++ bytes_between bs end to =
    ap (drop front) (sym (take-append-drop k text))
    ∙ drop-append-le front (take k text) (drop k text)
    (omega (arith, length-take-le k text (omega arith)))
    ∙ ap₂ (λ (a b : List ℕ). a ++ b) (ap (drop front) (sym begins_are) ∙ sym is) behind in
    let begins_there : IsCharBoundary held (at - from) =
    IsCharBoundary-from_take held (at - from) utf8 (omega (arith, size))
    (subst IsUtf8 (e.same_front ∙ ap (λ n. take n held) (sym first))
    (IsUtf8-take text front u e.first)) in
    let ends_there : IsCharBoundary held (end - from) =
    IsCharBoundary-from_drop held (end - from) (omega (arith, size))
    (subst IsUtf8 (e.same_back ∙ ap (λ n. drop n held) (sym last))
    (IsUtf8-drop text k u e.last)) in
    record {
      can =
          record {
            order = omega (arith, from_is, to_is);
            first =
                subst (IsCharBoundary bs) (sym from_is)
                (boundary_between bs from at to h.utf8 (omega arith) (omega arith)
                h.first.boundary h.second.boundary begins_there);
            second =
                subst (IsCharBoundary bs) (sym to_is)
                (boundary_between bs from end to h.utf8 (omega arith) (omega arith)
                h.first.boundary h.second.boundary ends_there);
          };
      same =
          ap₂ (λ i j. replace_range bs i j p.text.now) from_is to_is
          ∙ back_out bs new p.text.now at to end (omega arith) rest
          ∙ front_out bs text new from to at (omega arith) whole;
    }
