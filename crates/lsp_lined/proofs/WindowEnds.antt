-- Line ends of a text with a window, as line ends of the chunks or of the window.
use Rattle.std.proofs.Common.{◌≡◌, ◌<◌, ◌≤◌, ◌+◌, ◌-◌, ℕ, false, List, [], ◌++◌, length, take, drop}
use Rattle.std.proofs.Common.{refl, sym, ap, subst, ◌∙◌, arith, length-append, append_assoc}
use Rattle.std.proofs.lemmas.Bool.{and_right}
use Rattle.std.proofs.lemmas.List.{append-nil, take-append-drop, length-take-le}
use Rattle.std.specs.Str.{IsUtf8}
use Rattle.std.proofs.lemmas.Str.{IsUtf8-nil, IsUtf8-take, IsUtf8-drop, IsUtf8-append}
use Rattle.lsp_lined.specs.Ends.{ends_in, ends_with_return, joins, IsLineEnd}
use Rattle.lsp_lined.specs.Sums.{sums_of}
use Rattle.lsp_lined.specs.Parts.{IsSeam}
use Rattle.lsp_lined.specs.Windows.{text_with, moved_end, nearer_end, IsWindowed}
use Rattle.lsp_lined.specs.declared.part.LineEnd.{LineEnd}
use Rattle.lsp_lined.specs.declared.sums.Sums.{Sums}
use Rattle.lsp_lined.specs.declared.lined.window.Windowed.{Windowed}
use Rattle.lsp_lined.proofs.EndCounts.{ends_in-append, sums_at_most}
use Rattle.lsp_lined.proofs.Parts.{joins-front, joins-farther}
use Rattle.lsp_lined.proofs.PartPlaces.{IsBetween, line_end-inside}
use Rattle.lsp_lined.proofs.CutEnds.{IsInFront, line_end_in_front, line_end_behind}

abbrev pub front_of : Windowed → List ℕ
front_of w = take w.before.bytes w.tree

abbrev pub back_of : Windowed → List ℕ
back_of w = drop w.skipped.bytes w.tree

-- a text cut at a seam
pub record IsCutInTwo (bs : List ℕ) (at : ℕ) : Type 0 where
  pub text : take at bs ++ drop at bs ≡ bs
  pub len : length (take at bs) ≡ at
  pub front : IsUtf8 (take at bs)
  pub back : IsUtf8 (drop at bs)
  pub apart : joins (take at bs) (drop at bs) ≡ false

pub cut_in_two : (bs : List ℕ) (at : ℕ) → IsUtf8 bs → IsSeam bs at → IsCutInTwo bs at
cut_in_two bs at u h = record {
  text = take-append-drop at bs;
  len = length-take-le at bs h.boundary.0;
  front = IsUtf8-take bs at u h.boundary;
  back = IsUtf8-drop bs at u h.boundary;
  apart = h.apart;
}

-- the text before a window, that of the window, and what follows it
pub record IsShown (w : Windowed) : Type 0 where
  pub text : text_with w ≡ front_of w ++ (w.window ++ back_of w)
  pub behind : text_with w ≡ (front_of w ++ w.window) ++ (back_of w ++ [])
  pub front : IsBetween [] (front_of w) (w.window ++ back_of w)
  pub window : IsBetween (front_of w) w.window (back_of w)
  pub back : IsBetween (front_of w ++ w.window) (back_of w) []
  pub first : IsCutInTwo w.tree w.before.bytes
  pub second : IsCutInTwo w.tree w.skipped.bytes
  pub before : w.before ≡ sums_of (front_of w)

pub shown : (w : Windowed) → IsWindowed w → IsShown w
shown w h =
    let a = front_of w in
    let p = w.window in
    let c = back_of w in
    let nil : c ++ [] ≡ c = append-nil c in
    let ua : IsUtf8 a = h.parts.0 in
    let up : IsUtf8 p = h.parts.2.0 in
    let uc : IsUtf8 c = h.parts.2.2.0 in
    let near : joins a (p ++ c) ≡ false =
    ap (λ (x : List ℕ). joins a (p ++ x)) (sym nil) ∙ h.parts.1 in
    let far : joins p c ≡ false = ap (joins p) (sym nil) ∙ h.parts.2.1 in
    let text : text_with w ≡ a ++ (p ++ c) = ap (λ (x : List ℕ). a ++ (p ++ x)) nil in
    record {
      text = text;
      behind = text ∙ sym (append_assoc a p c) ∙ ap (λ (x : List ℕ). (a ++ p) ++ x) (sym nil);
      front = record {
        utf8 = ua;
        front_utf8 = IsUtf8-nil;
        back_utf8 = IsUtf8-append p c up uc;
        front_apart = refl;
        back_apart = near;
      };
      window = record {
        utf8 = up;
        front_utf8 = ua;
        back_utf8 = uc;
        front_apart = near;
        back_apart = far;
      };
      back = record {
        utf8 = uc;
        front_utf8 = IsUtf8-append a p ua up;
        back_utf8 = IsUtf8-nil;
        front_apart = ap (joins (a ++ p)) nil ∙ joins-farther a p c near far;
        back_apart = and_right (ends_with_return false c) false refl;
      };
      first = cut_in_two w.tree w.before.bytes h.utf8 h.first;
      second = cut_in_two w.tree w.skipped.bytes h.utf8 h.second;
      before = h.before;
    }

abbrev made : ℕ → ℕ → LineEnd → LineEnd
made i j e = record { at = i; after = j; rest = e.rest; is_plain = e.is_plain }

made_same : (e : LineEnd) (i j k l : ℕ) → i ≡ k → j ≡ l → made i j e ≡ made k l e
made_same e i j k l h g = ap (λ (x : ℕ). made x j e) h ∙ ap (λ (x : ℕ). made k x e) g

-- **A line end of the chunks before a window,**
pub end_before : (w : Windowed) (n : ℕ) (e : LineEnd) → IsWindowed w → n < w.before.ends
    → IsLineEnd w.tree n e → IsInFront (text_with w) w.before.bytes n e
end_before w n e h lt is =
    let s = shown w h in
    let a = front_of w in
    let cut = s.first in
    let more : n < ends_in a = omega (arith, ap (λ (x : Sums). x.ends) s.before) in
    let k = line_end_in_front a (drop w.before.bytes w.tree) w.before.bytes n e cut.front cut.back
    cut.apart cut.len more (subst (λ (x : List ℕ). IsLineEnd x n e) (sym cut.text) is) in
    record {
      within = k.within;
      boundary = k.boundary;
      end = λ f up.
          let number : ends_in [] + n ≡ n = omega arith in
          let same : moved_end (length {A = ℕ} []) f ≡ f =
          made_same f (0 + f.at) (0 + f.after) f.at f.after (omega arith) (omega arith) in
          subst (λ (x : List ℕ). IsLineEnd x n f) (sym s.text)
          (subst (λ (x : LineEnd). IsLineEnd (a ++ (w.window ++ back_of w)) n x) same
          (subst (λ (m : ℕ). IsLineEnd (a ++ (w.window ++ back_of w)) m
          (moved_end (length {A = ℕ} []) f)) number
          (line_end-inside [] a (w.window ++ back_of w) n f s.front (k.end f up))));
    }

-- **one of the window,**
pub end_in_window : (w : Windowed) (n : ℕ) (e f : LineEnd) → IsWindowed w → w.before.ends ≤ n
    → IsLineEnd w.window (n - w.before.ends) e → f ≡ moved_end w.before.bytes (nearer_end 0 e)
    → IsLineEnd (text_with w) n f
end_in_window w n e f h le is moved =
    let s = shown w h in
    let a = front_of w in
    let p = w.window in
    let c = back_of w in
    let m = n - w.before.ends in
    let len = s.first.len in
    let number : ends_in a + m ≡ n = omega (arith, ap (λ (x : Sums). x.ends) s.before) in
    let same : moved_end (length a) e ≡ f =
    made_same e (length a + e.at) (length a + e.after) (w.before.bytes + (e.at - 0))
    (w.before.bytes + (e.after - 0)) (omega arith) (omega arith) ∙ sym moved in
    subst (λ (x : List ℕ). IsLineEnd x n f) (sym s.text)
    (subst (λ (x : LineEnd). IsLineEnd (a ++ (p ++ c)) n x) same
    (subst (λ (i : ℕ). IsLineEnd (a ++ (p ++ c)) i (moved_end (length a) e)) number
    (line_end-inside a p c m e s.window is)))

-- the line ends of all, and of the chunks
pub record AreCounted (w : Windowed) : Type 0 where
  pub text : ends_in (text_with w) ≡ w.before.ends + (ends_in w.window + ends_in (back_of w))
  pub front : ends_in w.tree ≡ w.before.ends + ends_in (drop w.before.bytes w.tree)
  pub tree : ends_in w.tree ≡ w.skipped.ends + ends_in (back_of w)
  pub most : ends_in w.tree ≤ length w.tree

pub ends_counted : (w : Windowed) → IsWindowed w → AreCounted w
ends_counted w h =
    let s = shown w h in
    let a = front_of w in
    let p = w.window in
    let c = back_of w in
    let first = ap (λ (x : Sums). x.ends) h.before in
    let second = ap (λ (x : Sums). x.ends) h.skipped in
    record {
      text = omega (
        arith,
        ap ends_in s.text,
        ends_in-append a (p ++ c) s.front.back_apart,
        ends_in-append p c s.window.back_apart,
        first,
      );
      front = omega (
        arith,
        ap ends_in (sym s.first.text),
        ends_in-append a (drop w.before.bytes w.tree) s.first.apart,
        first,
      );
      tree = omega (
        arith,
        ap ends_in (sym s.second.text),
        ends_in-append (take w.skipped.bytes w.tree) c s.second.apart,
        second,
      );
      most = (sums_at_most w.tree h.utf8).ends;
    }

-- the line end of the chunks that is line end `n`, where that comes after the window
abbrev pub end_number : Windowed → ℕ → Sums → ℕ
end_number w n s = n - w.before.ends - s.ends + w.skipped.ends

pub end_number_below : (w : Windowed) (n : ℕ) (s : Sums) → IsWindowed w → s ≡ sums_of w.window
    → w.before.ends ≤ n → s.ends ≤ n - w.before.ends → n < ends_in (text_with w)
    → end_number w n s < ends_in w.tree
end_number_below w n s h is past over lt =
    let k = ends_counted w h in
    omega (arith, k.text, k.tree, ap (λ (x : Sums). x.ends) is)

pub record IsEndAfter (w : Windowed) (n : ℕ) (s : Sums) (e : LineEnd) : Type 0 where
  pub order : w.skipped.bytes ≤ e.at
  pub end : (f : LineEnd)
      → f ≡ moved_end (w.before.bytes + s.bytes) (nearer_end w.skipped.bytes e)
      → IsLineEnd (text_with w) n f

-- **and one of the chunks after it, are line ends of the text.**
pub end_after : (w : Windowed) (n : ℕ) (s : Sums) (e : LineEnd) → IsWindowed w
    → s ≡ sums_of w.window → w.before.ends ≤ n → s.ends ≤ n - w.before.ends
    → IsLineEnd w.tree (end_number w n s) e → IsEndAfter w n s e
end_after w n s e h is past over at =
    let v = shown w h in
    let a = front_of w in
    let p = w.window in
    let b = take w.skipped.bytes w.tree in
    let c = back_of w in
    let m = n - w.before.ends - s.ends in
    let cut = v.second in
    let len = cut.len in
    let skipped = ap (λ (x : Sums). x.ends) h.skipped in
    let number : end_number w n s ≡ ends_in b + m = omega (arith, skipped) in
    let there : IsLineEnd (b ++ c) (ends_in b + m) e =
    subst (λ (i : ℕ). IsLineEnd (b ++ c) i e) number
    (subst (λ (x : List ℕ). IsLineEnd x (end_number w n s) e) (sym cut.text) at) in
    let k = line_end_behind b c m e cut.front cut.back cut.apart there in
    let order = k.order in
    let near = nearer_end (length b) e in
    let whole = a ++ p in
    let counted : ends_in whole + m ≡ n =
    omega (
      arith,
      ends_in-append a p (joins-front a p c v.front.back_apart),
      ap (λ (x : Sums). x.ends) h.before,
      ap (λ (x : Sums). x.ends) is,
    ) in
    let size : length whole ≡ w.before.bytes + s.bytes =
    omega (arith, length-append a p, v.first.len, ap (λ (x : Sums). x.bytes) is) in
    record {
      order = omega arith;
      end = λ f moved.
          let same : moved_end (length whole) near ≡ f =
          made_same e (length whole + (e.at - length b)) (length whole + (e.after - length b))
          (w.before.bytes + s.bytes + (e.at - w.skipped.bytes))
          (w.before.bytes + s.bytes + (e.after - w.skipped.bytes)) (omega arith) (omega arith)
          ∙ sym moved in
          subst (λ (x : List ℕ). IsLineEnd x n f) (sym v.behind)
          (subst (λ (x : LineEnd). IsLineEnd (whole ++ (c ++ [])) n x) same
          (subst (λ (i : ℕ). IsLineEnd (whole ++ (c ++ [])) i (moved_end (length whole) near))
          counted (line_end-inside whole c [] m near v.back k.end)));
    }
