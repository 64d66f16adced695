-- The sums of a text in which one part is exchanged for another.
use Rattle.std.proofs.Common.{◌≡◌, ◌≤◌, ◌+◌, ◌-◌, ◌&&◌, ℕ, Bool, false, List, ◌++◌, length, take, drop, refl, sym, ap, subst, ◌∙◌, arith, length-append, length-drop}
use Rattle.std.specs.List.{replace_range}
use Rattle.std.proofs.lemmas.List.{take-append-drop, take-take, drop-take, length-take-le}
use Rattle.std.specs.Str.{IsUtf8, IsCharBoundary}
use Rattle.std.proofs.lemmas.Str.{IsUtf8-append, IsUtf8-take, IsUtf8-drop, IsUtf8-between}
use Rattle.lsp_text.specs.Lines.{starts_with_feed}
use Rattle.lsp_lined.specs.Ends.{ends_in, ends_with_return, joins}
use Rattle.lsp_lined.specs.Sums.{sums_of, added, exchanged, AreAtMost}
use Rattle.lsp_lined.specs.declared.sums.Sums.{Sums}
use Rattle.lsp_lined.proofs.Parts.{ends_with_return-append, sums_of-append}
use Rattle.lsp_lined.proofs.PartSteps.{counted_at_most}
use Rattle.lsp_lined.proofs.PlaceSteps.{no_return_last}

-- before, between and after
pub sums_three : (a x c : List ℕ) → IsUtf8 a → IsUtf8 x → joins a x ≡ false → joins (a ++ x) c ≡ false → sums_of ((a ++ x) ++ c) ≡ added (added (sums_of a) (sums_of x)) (sums_of c)
sums_three a x c ua ux near far =
    sums_of-append (a ++ x) c (IsUtf8-append a x ua ux) far ∙ ap (λ (s : Sums). added s (sums_of c)) (sums_of-append a x ua near)

abbrev made : ℕ → ℕ → ℕ → ℕ → Sums
made e b c u = record { ends = e; bytes = b; chars = c; utf16 = u }

same_made : (e f b d c g u v : ℕ) → e ≡ f → b ≡ d → c ≡ g → u ≡ v → made e b c u ≡ made f d g v
same_made e f b d c g u v h i j k = rw (h, i, j, k) refl

one_out : (a r c s : ℕ) → a + r + c - r + s ≡ a + s + c
one_out a r c s = omega arith

exchanged-added : (a r c s : Sums) → exchanged (added (added a r) c) r s ≡ added (added a s) c
exchanged-added a r c s =
    same_made _ _ _ _ _ _ _ _ (one_out a.ends r.ends c.ends s.ends) (one_out a.bytes r.bytes c.bytes s.bytes) (one_out a.chars r.chars c.chars s.chars) (one_out a.utf16 r.utf16 c.utf16 s.utf16)

-- what the old part had, all had, and these are the sums
pub record IsExchange (whole old new : Sums) (bs : List ℕ) : Type 0 where
  pub ends : old.ends ≤ whole.ends
  pub bytes : old.bytes ≤ whole.bytes
  pub chars : old.chars ≤ whole.chars
  pub utf16 : old.utf16 ≤ whole.utf16
  pub is : exchanged whole old new ≡ sums_of bs
  pub most : AreAtMost (exchanged whole old new) (exchanged whole old new).bytes
  pub len : (exchanged whole old new).bytes ≡ length bs

in_middle : (w a r c : ℕ) → w ≡ a + r + c → r ≤ w
in_middle w a r c e = omega arith

pub exchange : (a r s c : List ℕ) → IsUtf8 a → IsUtf8 r → IsUtf8 s → IsUtf8 c → joins a r ≡ false → joins (a ++ r) c ≡ false → joins a s ≡ false → joins (a ++ s) c ≡ false →
    (whole old new : Sums) → whole ≡ sums_of ((a ++ r) ++ c) → old ≡ sums_of r → new ≡ sums_of s → IsExchange whole old new ((a ++ s) ++ c)
exchange a r s c ua ur us uc near far near' far' whole old new w o n =
    let sum : whole ≡ added (added (sums_of a) old) (sums_of c) = w ∙ sums_three a r c ua ur near far ∙ ap (λ (x : Sums). added (added (sums_of a) x) (sums_of c)) (sym o) in
    let same : exchanged whole old new ≡ sums_of ((a ++ s) ++ c) =
    ap (λ (x : Sums). exchanged x old new) sum ∙ exchanged-added (sums_of a) old (sums_of c) new ∙ ap (λ (x : Sums). added (added (sums_of a) x) (sums_of c)) n
    ∙ sym (sums_three a s c ua us near' far') in
    record {
      ends = in_middle whole.ends _ old.ends _ (ap (λ (x : Sums). x.ends) sum);
      bytes = in_middle whole.bytes _ old.bytes _ (ap (λ (x : Sums). x.bytes) sum);
      chars = in_middle whole.chars _ old.chars _ (ap (λ (x : Sums). x.chars) sum);
      utf16 = in_middle whole.utf16 _ old.utf16 _ (ap (λ (x : Sums). x.utf16) sum);
      is = same;
      most = counted_at_most (exchanged whole old new) ((a ++ s) ++ c) (IsUtf8-append (a ++ s) c (IsUtf8-append a s ua us) uc) same;
      len = ap (λ (x : Sums). x.bytes) same;
    }

-- a text without a line end, after one that doesn't end with a CR
pub apart_behind_none : (a x c : List ℕ) → ends_with_return false a ≡ false → ends_in x ≡ 0 → joins (a ++ x) c ≡ false
apart_behind_none a x c h none =
    ap (λ (v : Bool). v && starts_with_feed c) (ends_with_return-append false a x ∙ ap (λ (v : Bool). ends_with_return v x) h ∙ no_return_last x none)

pub apart_before : (a x : List ℕ) → ends_with_return false a ≡ false → joins a x ≡ false
apart_before a x h = ap (λ (v : Bool). v && starts_with_feed x) h

-- the parts of a text at an edit
pub record AreCutOut (bs : List ℕ) (from to : ℕ) (a r : List ℕ) : Type 0 where
  pub front : a ≡ take from bs
  pub text : bs ≡ (a ++ r) ++ drop to bs
  pub front_len : length a ≡ from
  pub len : length r ≡ to - from
  pub front_utf8 : IsUtf8 a
  pub utf8 : IsUtf8 r
  pub tail_utf8 : IsUtf8 (drop to bs)

-- as the code cuts it: up to the second place, and there at the first
pub cut_out : (bs : List ℕ) (from to : ℕ) → IsUtf8 bs → from ≤ to → IsCharBoundary bs from → IsCharBoundary bs to → AreCutOut bs from to (take from (take to bs)) (drop from (take to bs))
cut_out bs from to u le first second =
    let a = take from (take to bs) in
    let r = drop from (take to bs) in
    let len : length (take to bs) ≡ to = length-take-le to bs second.0 in
    let front : a ≡ take from bs = take-take from to bs le in
    let whole : a ++ r ≡ take to bs = take-append-drop from (take to bs) in
    let sum : from + (to - from) ≡ to = omega arith in
    let between : r ≡ take (to - from) (drop from bs) = ap (λ (k : ℕ). drop from (take k bs)) (sym sum) ∙ drop-take from (to - from) bs in
    record {
      front = front;
      text = sym (take-append-drop to bs) ∙ ap (λ (x : List ℕ). x ++ drop to bs) (sym whole);
      front_len = length-take-le from (take to bs) (omega arith);
      len = omega (arith, length-drop from (take to bs));
      front_utf8 = subst IsUtf8 (sym front) (IsUtf8-take bs from u first);
      utf8 = subst IsUtf8 (sym between) (IsUtf8-between bs from to u le first second);
      tail_utf8 = IsUtf8-drop bs to u second;
    }

-- **An edit in which no line end comes, goes or is joined.**
pub kept_sums : (bs text : List ℕ) (from to : ℕ) → IsUtf8 bs → IsUtf8 text → from ≤ to → IsCharBoundary bs from → IsCharBoundary bs to → ends_with_return false (take from (take to bs)) ≡ false →
    ends_in (drop from (take to bs)) ≡ 0 → ends_in text ≡ 0 → (whole old new : Sums) → whole ≡ sums_of bs → old ≡ sums_of (drop from (take to bs)) → new ≡ sums_of text → IsExchange whole old new (replace_range bs from to text)
kept_sums bs text from to u ut le first second no_return none none' whole old new w o n =
    let a = take from (take to bs) in
    let r = drop from (take to bs) in
    let c = drop to bs in
    let cut = cut_out bs from to u le first second in
    subst (λ (x : List ℕ). IsExchange whole old new ((x ++ text) ++ c)) cut.front
    (exchange a r text c cut.front_utf8 cut.utf8 ut cut.tail_utf8 (apart_before a r no_return) (apart_behind_none a r c no_return none) (apart_before a text no_return) (apart_behind_none a text c no_return none')
    whole old new (w ∙ ap sums_of cut.text) o n)

pub replaced_len : (bs text : List ℕ) (from to : ℕ) → from ≤ to → to ≤ length bs → length (replace_range bs from to text) ≤ length bs + length text
replaced_len bs text from to le within =
    omega (arith, length-append (take from bs ++ text) (drop to bs), length-append (take from bs) text, length-drop to bs, length-take-le from bs (omega arith))
