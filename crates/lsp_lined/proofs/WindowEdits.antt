-- Edits of a text in chunks, with a window on it.
use Rattle.std.proofs.Common.{◌≡◌, ◌<◌, ◌≤◌, ◌+◌, ◌-◌, ◌^◌, ℕ, false, List, [], ◌∷◌}
use Rattle.std.proofs.Common.{◌++◌, length, take, drop, refl, sym, ap, subst, inl, ◌∙◌, arith}
use Rattle.std.proofs.Common.{append_assoc, take-add, min}
use Rattle.std.specs.List.{replace_range}
use Rattle.std.proofs.lemmas.List.{append-nil, take-append-drop, length-take-le, drop-drop}
use Rattle.std.specs.Str.{chars, IsUtf8}
use Rattle.std.proofs.lemmas.Str.{IsUtf8-nil, IsUtf8-take, IsUtf8-drop, IsUtf8-between}
use Rattle.std.proofs.lemmas.Str.{IsCharBoundary-start}
use Rattle.lsp_types.specs.declared.position.Encoding.TheVariants.{Utf16, Utf32}
use Rattle.lsp_text.specs.Places.{units}
use Rattle.lsp_lined.specs.Ends.{ends_in, joins}
use Rattle.lsp_lined.specs.Sums.{sums_of, added, exchanged, AreAtMost}
use Rattle.lsp_lined.specs.Parts.{joined, AreParts, IsSeam, IsSpan, IsSpot}
use Rattle.lsp_text.specs.Spans.{CanReplace, bytes_between}
use Rattle.lsp_lined.specs.Patches.{AreSameEndsOf}
use Rattle.lsp_lined.specs.Windows.{pieces_of, text_with, IsWindowed, IsClosed, CanEdit, HoldsText}
use Rattle.lsp_lined.specs.declared.sums.Sums.{Sums}
use Rattle.lsp_lined.specs.declared.part.Spot.{Spot}
use Rattle.lsp_lined.specs.declared.lined.window.Windowed.{Windowed}
use Rattle.lsp_lined.proofs.Exchanges.{IsExchange, replaced_len}
use Rattle.lsp_lined.proofs.Parts.{IsUtf8-joined, joins-front, joins-back, sums_of-append}
use Rattle.lsp_lined.proofs.Parts.{sums_made, sums_same}
use Rattle.lsp_lined.proofs.PartSteps.{counted_at_most}
use Rattle.lsp_lined.proofs.SameEnds.{ends_nothing, ends_closed, ends_opened, ends_inside}
use Rattle.lsp_text.proofs.Splices.{IsUtf8-replace_range}
use Rattle.lsp_lined.proofs.Spots.{IsSpotPart, spot_part, joins-nothing}
use Rattle.lsp_text.proofs.Widths.{units-utf32}

-- the first and last bytes of the chunks with the window between
pub replaced_tree : (w : Windowed)
    → replace_range w.tree w.before.bytes w.skipped.bytes w.window ≡ text_with w
replaced_tree w =
    let a = take w.before.bytes w.tree in
    let b = drop w.skipped.bytes w.tree in
    append_assoc a w.window b
    ∙ ap (λ (x : List ℕ). a ++ (w.window ++ x)) (sym (append-nil b))

pub text_utf8 : (w : Windowed) → IsWindowed w → IsUtf8 (text_with w)
text_utf8 w h = IsUtf8-joined (pieces_of w) h.parts

-- ---- what a text with a window is, by its parts

record AreShown (tree window : List ℕ) (before skipped sums : Sums) (front back : ℕ) (bs : List ℕ)
    : Type 0 where
  order : before.bytes ≤ skipped.bytes
  first : IsSeam tree before.bytes
  second : IsSeam tree skipped.bytes
  utf8 : IsUtf8 tree
  before_is : before ≡ sums_of (take before.bytes tree)
  skipped_is : skipped ≡ sums_of (take skipped.bytes tree)
  parts : AreParts (take before.bytes tree ∷ window ∷ drop skipped.bytes tree ∷ [])
  sums_are : sums ≡ sums_of bs
  ends : AreSameEndsOf (bytes_between tree before.bytes skipped.bytes) window front back
  tree_fits : length tree < 2 ^ 64
  fits : length bs < 2 ^ 64 - 1
  text : joined (take before.bytes tree ∷ window ∷ drop skipped.bytes tree ∷ []) ≡ bs

holds_shown : (w : Windowed) (bs : List ℕ)
    → AreShown w.tree w.window w.before w.skipped w.sums w.same_front w.same_back bs
    → HoldsText w bs
holds_shown w bs h =
    record {
      held =
          record {
            order = h.order;
            first = h.first;
            second = h.second;
            utf8 = h.utf8;
            before = h.before_is;
            skipped = h.skipped_is;
            parts = h.parts;
            sums = h.sums_are ∙ ap sums_of (sym h.text);
            ends = h.ends;
            tree_fits = h.tree_fits;
            fits = omega (arith, h.fits, ap length h.text);
          };
      text = h.text;
    }

same_shown : (t u v x : List ℕ) (a b c d s r : Sums) (f k : ℕ) (bs : List ℕ) → t ≡ u → v ≡ x
    → a ≡ b → c ≡ d → s ≡ r → AreShown u x b d r f k bs → AreShown t v a c s f k bs
same_shown t u v x a b c d s r f k bs e1 e2 e3 e4 e5 h = rw (e1, e2, e3, e4, e5) h

-- ---- no window

pub closed_text : (w : Windowed) → IsClosed w → text_with w ≡ w.tree
closed_text w h =
    ap (λ (n : ℕ). take n w.tree ++ (w.window ++ (drop w.skipped.bytes w.tree ++ []))) h.before
    ∙ ap (λ (n : ℕ). w.window ++ (drop n w.tree ++ [])) h.skipped
    ∙ ap (λ (x : List ℕ). x ++ (w.tree ++ [])) h.window
    ∙ append-nil w.tree

-- a text without a window, and the sums of all of it
pub record NoWindow (tree window : List ℕ) (before skipped sums : Sums) (front back : ℕ)
    (bs : List ℕ) : Type 0 where
  pub tree_is : tree ≡ bs
  pub window_is : window ≡ []
  pub before_is : before ≡ sums_of []
  pub skipped_is : skipped ≡ sums_of []
  pub sums_are : sums ≡ sums_of bs
  pub ends : AreSameEndsOf [] [] front back
  pub utf8 : IsUtf8 bs
  pub fits : length bs < 2 ^ 64 - 1

pub first_seam : (bs : List ℕ) → IsUtf8 bs → IsSeam bs 0
first_seam bs u = record { boundary = IsCharBoundary-start bs u; apart = refl }

nothing_shown : (bs : List ℕ) (front back : ℕ) → IsUtf8 bs → length bs < 2 ^ 64 - 1
    → AreSameEndsOf [] [] front back
    → AreShown bs [] (sums_of []) (sums_of []) (sums_of bs) front back bs
nothing_shown bs front back u fits ends =
    let first = first_seam bs u in
    record {
      order = omega arith;
      first = first;
      second = first;
      utf8 = u;
      before_is = refl;
      skipped_is = refl;
      parts = (IsUtf8-nil, refl, (IsUtf8-nil, refl, (u, joins-nothing bs [] refl, tt)));
      sums_are = refl;
      ends = ends;
      tree_fits = omega (arith, fits);
      fits = fits;
      text = append-nil bs;
    }

pub held_closed : (w : Windowed) (bs : List ℕ)
    → NoWindow w.tree w.window w.before w.skipped w.sums w.same_front w.same_back bs
    → HoldsText w bs
held_closed w bs h =
    holds_shown w bs
    (same_shown _ _ _ _ _ _ _ _ _ _ _ _ bs h.tree_is h.window_is h.before_is h.skipped_is
    h.sums_are (nothing_shown bs w.same_front w.same_back h.utf8 h.fits h.ends))

pub is_closed : (w : Windowed) (bs : List ℕ)
    → NoWindow w.tree w.window w.before w.skipped w.sums w.same_front w.same_back bs
    → IsClosed w
is_closed w bs h =
    record {
      before = ap (λ (s : Sums). s.bytes) h.before_is;
      skipped = ap (λ (s : Sums). s.bytes) h.skipped_is;
      window = h.window_is;
    }

-- the chunks take the window's text
pub closed_by : (w : Windowed) (tree text window : List ℕ) (before skipped : Sums) → IsWindowed w
    → tree ≡ replace_range w.tree w.before.bytes w.skipped.bytes text → text ≡ w.window
    → window ≡ [] → before ≡ sums_of [] → skipped ≡ sums_of []
    → NoWindow tree window before skipped w.sums 0 0 (text_with w)
closed_by w tree text window before skipped h made is none first second =
    record {
      tree_is =
          made
          ∙ ap (λ (x : List ℕ). replace_range w.tree w.before.bytes w.skipped.bytes x) is
          ∙ replaced_tree w;
      window_is = none;
      before_is = first;
      skipped_is = second;
      sums_are = h.sums;
      ends = ends_nothing;
      utf8 = text_utf8 w h;
      fits = h.fits;
    }

-- ---- an edit where no window is

-- nothing comes before the window, and nothing is skipped
record AreNone (w : Windowed) : Type 0 where
  before : w.before ≡ sums_of []
  skipped : w.skipped ≡ sums_of []

none_counted : (w : Windowed) → IsWindowed w → IsClosed w → AreNone w
none_counted w h c =
    record {
      before = h.before ∙ ap (λ (n : ℕ). sums_of (take n w.tree)) c.before;
      skipped = h.skipped ∙ ap (λ (n : ℕ). sums_of (take n w.tree)) c.skipped;
    }

edit_len : (w : Windowed) (from to : ℕ) (text : List ℕ) → CanEdit w from to text
    → length (replace_range (text_with w) from to text) < 2 ^ 64 - 1
edit_len w from to text h =
    omega (arith, h.fits, replaced_len (text_with w) text from to h.can.order h.can.second.0)

pub apart_fits : (w : Windowed) (from to : ℕ) (text : List ℕ) → CanEdit w from to text
    → IsClosed w → length (replace_range w.tree from to text) < 2 ^ 64
apart_fits w from to text h c =
    omega (
      arith,
      edit_len w from to text h,
      ap (λ (x : List ℕ). length (replace_range x from to text)) (closed_text w c),
    )

edited_utf8 : (w : Windowed) (from to : ℕ) (text : List ℕ) → CanEdit w from to text → IsUtf8 text
    → IsUtf8 (replace_range (text_with w) from to text)
edited_utf8 w from to text h u =
    IsUtf8-replace_range (text_with w) text from to (text_utf8 w h.held) u h.can.first h.can.second

-- the chunks hold a text instead
pub held_apart : (w : Windowed) (bs tree : List ℕ) (sums : Sums) → IsWindowed w → IsClosed w
    → tree ≡ bs → sums ≡ sums_of tree → IsUtf8 bs → length bs < 2 ^ 64 - 1
    → NoWindow tree w.window w.before w.skipped sums w.same_front w.same_back bs
held_apart w bs tree sums h c is counted u fits =
    let none = none_counted w h c in
    record {
      tree_is = is;
      window_is = c.window;
      before_is = none.before;
      skipped_is = none.skipped;
      sums_are = counted ∙ ap sums_of is;
      ends = ends_closed _ w.window w.same_front w.same_back h.ends c.window;
      utf8 = u;
      fits = fits;
    }

pub apart : (w : Windowed) (from to : ℕ) (text tree : List ℕ) (sums : Sums)
    → CanEdit w from to text → IsClosed w → IsUtf8 text → tree ≡ replace_range w.tree from to text
    → sums ≡ sums_of tree
    → NoWindow tree w.window w.before w.skipped sums w.same_front w.same_back
    (replace_range (text_with w) from to text)
apart w from to text tree sums h c u made counted =
    held_apart w (replace_range (text_with w) from to text) tree sums h.held c
    (made ∙ ap (λ (x : List ℕ). replace_range x from to text) (sym (closed_text w c))) counted
    (edited_utf8 w from to text h u) (edit_len w from to text h)

-- ---- an edit in the window

-- it leaves the window's first and last bytes
pub record IsInside (w : Windowed) (from to : ℕ) (text : List ℕ) : Type 0 where
  pub can : CanEdit w from to text
  pub utf8 : IsUtf8 text
  pub first : w.before.bytes < from
  pub last : to - w.before.bytes < length w.window

abbrev spot_of : Windowed → ℕ → ℕ → Spot
spot_of w from to = record { index = 1; from = from - w.before.bytes; to = to - w.before.bytes }

abbrev pub window_with : Windowed → ℕ → ℕ → List ℕ → List ℕ
window_with w from to text =
    replace_range w.window (from - w.before.bytes) (to - w.before.bytes) text

front_len : (w : Windowed) → IsWindowed w → length (take w.before.bytes w.tree) ≡ w.before.bytes
front_len w h = length-take-le w.before.bytes w.tree h.first.boundary.0

inside_spot : (w : Windowed) (from to : ℕ) (text : List ℕ) → IsInside w from to text
    → IsSpot (pieces_of w) from to (spot_of w from to)
inside_spot w from to text h =
    let k = h.can.held in
    let order = h.can.can.order in
    let first = h.first in
    let last = h.last in
    let len : length (joined (take 1 (pieces_of w))) ≡ w.before.bytes =
    ap length (append-nil (take w.before.bytes w.tree)) ∙ front_len w k in
    record {
      index = omega arith;
      from_is = omega arith;
      to_is = omega arith;
      within = omega arith;
      front = inl (omega arith);
      back = inl (omega arith);
    }

pub inside_part : (w : Windowed) (from to : ℕ) (text : List ℕ) → IsInside w from to text
    → IsSpotPart (pieces_of w) from to (spot_of w from to) text
inside_part w from to text h =
    spot_part (pieces_of w) from to (spot_of w from to) text h.can.held.parts h.utf8
    (inside_spot w from to text h) h.can.can

pub inside_text : (w : Windowed) (from to : ℕ) (text : List ℕ) → IsInside w from to text
    → take w.before.bytes w.tree
    ++ (window_with w from to text ++ (drop w.skipped.bytes w.tree ++ []))
    ≡ replace_range (text_with w) from to text
inside_text w from to text h = (inside_part w from to text h).text_is

pub inside_sums : (w : Windowed) (from to : ℕ) (text window : List ℕ) (old new : Sums)
    → IsInside w from to text → old ≡ sums_of w.window → window ≡ window_with w from to text
    → new ≡ sums_of window → IsExchange w.sums old new (replace_range (text_with w) from to text)
inside_sums w from to text window old new h o made n =
    subst (IsExchange w.sums old new) (inside_text w from to text h)
    ((inside_part w from to text h).sums w.sums old new h.can.held.sums o (n ∙ ap sums_of made))

pub inside : (w v : Windowed) (from to : ℕ) (text : List ℕ) (old new : Sums)
    → IsInside w from to text → v.tree ≡ w.tree → v.before ≡ w.before → v.skipped ≡ w.skipped
    → v.window ≡ window_with w from to text → old ≡ sums_of w.window → new ≡ sums_of v.window
    → v.sums ≡ exchanged w.sums old new
    → v.same_front ≡ min w.same_front (from - w.before.bytes)
    → v.same_back ≡ min w.same_back (old.bytes - (to - w.before.bytes))
    → HoldsText v (replace_range (text_with w) from to text)
inside w v from to text old new h tree before skipped made o n sums first last =
    let k = h.can.held in
    let part = inside_part w from to text h in
    let x = inside_sums w from to text v.window old new h o made n in
    holds_shown v (replace_range (text_with w) from to text)
    (same_shown _ _ _ _ _ _ _ _ _ _ _ _ _ tree made before skipped (sums ∙ x.is)
    (record {
      order = k.order;
      first = k.first;
      second = k.second;
      utf8 = k.utf8;
      before_is = k.before;
      skipped_is = k.skipped;
      parts = part.parts;
      sums_are = refl;
      ends =
          ends_inside _ w.window text w.same_front w.same_back (from - w.before.bytes)
          (to - w.before.bytes) v.same_front v.same_back k.ends part.can k.parts.2.0 h.utf8 first
          (last ∙ ap (λ (s : Sums). min w.same_back (s.bytes - (to - w.before.bytes))) o);
      tree_fits = k.tree_fits;
      fits = edit_len w from to text h.can;
      text = part.text_is;
    }))

-- ---- a window is opened

-- the bytes between two places, what comes before them and what after
record AreCut (bs : List ℕ) (from to : ℕ) : Type 0 where
  mid_utf8 : IsUtf8 (bytes_between bs from to)
  front_utf8 : IsUtf8 (take from bs)
  back_utf8 : IsUtf8 (drop to bs)
  front : take to bs ≡ take from bs ++ bytes_between bs from to
  rest : drop from bs ≡ bytes_between bs from to ++ drop to bs
  near : joins (take from bs) (bytes_between bs from to) ≡ false
  whole : joins (take from bs) (bytes_between bs from to ++ drop to bs) ≡ false
  far : joins (bytes_between bs from to) (drop to bs) ≡ false

are_cut : (bs : List ℕ) (from to : ℕ) → IsSpan bs from to → AreCut bs from to
are_cut bs from to h =
    let order = h.order in
    let mid = bytes_between bs from to in
    let sum : from + (to - from) ≡ to = omega arith in
    let front : take to bs ≡ take from bs ++ mid =
    ap (λ (n : ℕ). take n bs) (sym sum) ∙ take-add from (to - from) bs in
    let back : drop (to - from) (drop from bs) ≡ drop to bs =
    drop-drop (to - from) from bs ∙ ap (λ (n : ℕ). drop n bs) sum in
    let rest : drop from bs ≡ mid ++ drop to bs =
    sym (take-append-drop (to - from) (drop from bs))
    ∙ ap (λ (x : List ℕ). mid ++ x) back in
    let whole : joins (take from bs) (mid ++ drop to bs) ≡ false =
    ap (joins (take from bs)) (sym rest) ∙ h.first.apart in
    record {
      mid_utf8 = IsUtf8-between bs from to h.utf8 h.order h.first.boundary h.second.boundary;
      front_utf8 = IsUtf8-take bs from h.utf8 h.first.boundary;
      back_utf8 = IsUtf8-drop bs to h.utf8 h.second.boundary;
      front = front;
      rest = rest;
      near = joins-front (take from bs) mid (drop to bs) whole;
      whole = whole;
      far =
          joins-back (take from bs) mid (drop to bs)
          (ap (λ (x : List ℕ). joins x (drop to bs)) (sym front) ∙ h.second.apart);
    }

cut_shown : (bs : List ℕ) (from to : ℕ) → IsSpan bs from to → length bs < 2 ^ 64 - 1
    → (before skipped : Sums) → before ≡ sums_of (take from bs) → skipped ≡ sums_of (take to bs)
    → (front back : ℕ)
    → AreSameEndsOf (bytes_between bs from to) (bytes_between bs from to) front back
    → AreShown bs (bytes_between bs from to) before skipped (sums_of bs) front back bs
cut_shown bs from to h fits before skipped first second front back ends =
    let cut = are_cut bs from to h in
    let a = take from bs in
    let mid = bytes_between bs from to in
    let c = drop to bs in
    let order = h.order in
    let at : before.bytes ≡ from =
    ap (λ (s : Sums). s.bytes) first ∙ length-take-le from bs h.first.boundary.0 in
    let end : skipped.bytes ≡ to =
    ap (λ (s : Sums). s.bytes) second ∙ length-take-le to bs h.second.boundary.0 in
    let whole : a ++ (mid ++ (c ++ [])) ≡ bs =
    ap (λ (x : List ℕ). a ++ (mid ++ x)) (append-nil c)
    ∙ ap (λ (x : List ℕ). a ++ x) (sym cut.rest) ∙ take-append-drop from bs in
    let parts : AreParts (a ∷ mid ∷ c ∷ []) = (
      cut.front_utf8,
      ap (λ (x : List ℕ). joins a (mid ++ x)) (append-nil c) ∙ cut.whole,
      (
        cut.mid_utf8,
        ap (joins mid) (append-nil c) ∙ cut.far,
        (cut.back_utf8, joins-nothing c [] refl, tt),
      ),
    )
    in
    record {
      order = omega arith;
      first = subst (IsSeam bs) (sym at) h.first;
      second = subst (IsSeam bs) (sym end) h.second;
      utf8 = h.utf8;
      before_is = first ∙ ap (λ (n : ℕ). sums_of (take n bs)) (sym at);
      skipped_is = second ∙ ap (λ (n : ℕ). sums_of (take n bs)) (sym end);
      parts =
          subst (λ (n : ℕ). AreParts (take n bs ∷ mid ∷ drop skipped.bytes bs ∷ [])) (sym at)
          (subst (λ (n : ℕ). AreParts (a ∷ mid ∷ drop n bs ∷ [])) (sym end) parts);
      sums_are = refl;
      ends =
          subst (λ (n : ℕ). AreSameEndsOf (bytes_between bs n skipped.bytes) mid front back)
          (sym at)
          (subst (λ (n : ℕ). AreSameEndsOf (bytes_between bs from n) mid front back) (sym end)
          ends);
      tree_fits = omega (arith, fits);
      fits = fits;
      text =
          ap (λ (n : ℕ). take n bs ++ (mid ++ (drop skipped.bytes bs ++ []))) at
          ∙ ap (λ (n : ℕ). a ++ (mid ++ (drop n bs ++ []))) end ∙ whole;
    }

-- places for a window around an edit, where none is
pub record CanOpen (w : Windowed) (from to start end : ℕ) : Type 0 where
  pub held : IsWindowed w
  pub can : CanReplace (text_with w) from to
  pub closed : IsClosed w
  pub front : start ≤ from
  pub back : to ≤ end
  pub first : IsSeam w.tree start
  pub second : IsSeam w.tree end

open_span : (w : Windowed) (from to start end : ℕ) → CanOpen w from to start end
    → IsSpan w.tree start end
open_span w from to start end h =
    record {
      order = omega arith;
      first = h.first;
      second = h.second;
      utf8 = h.held.utf8;
      fits = h.held.tree_fits;
    }

-- the window's sums come after those before it
pub record AreOpened (w : Windowed) (end : ℕ) (before more : Sums) : Type 0 where
  pub these : AreAtMost before before.bytes
  pub those : AreAtMost more more.bytes
  pub fits : before.bytes + more.bytes < 2 ^ 64
  pub sums : added before more ≡ sums_of (take end w.tree)

pub opened_sums : (w : Windowed) (from to start end : ℕ) (before more : Sums) (window : List ℕ)
    → CanOpen w from to start end → before ≡ sums_of (take start w.tree)
    → window ≡ bytes_between w.tree start end → more ≡ sums_of window
    → AreOpened w end before more
opened_sums w from to start end before more window h first is m =
    let cut = are_cut w.tree start end (open_span w from to start end h) in
    let mid = bytes_between w.tree start end in
    let a = take start w.tree in
    let counted : more ≡ sums_of mid = m ∙ ap sums_of is in
    let sums : added before more ≡ sums_of (take end w.tree) =
    ap (λ (s : Sums). added s more) first ∙ ap (added (sums_of a)) counted
    ∙ sym (sums_of-append a mid cut.front_utf8 cut.near) ∙ ap sums_of (sym cut.front) in
    record {
      these = counted_at_most before a cut.front_utf8 first;
      those = counted_at_most more mid cut.mid_utf8 counted;
      fits =
          omega (
            arith,
            ap (λ (s : Sums). s.bytes) sums,
            length-take-le end w.tree h.second.boundary.0,
            h.second.boundary.0,
            h.held.tree_fits,
          );
      sums = sums;
    }

pub opened : (w v : Windowed) (from to start end : ℕ) (more : Sums)
    → CanOpen w from to start end → v.tree ≡ w.tree → v.sums ≡ w.sums
    → v.window ≡ bytes_between w.tree start end → v.before ≡ sums_of (take start w.tree)
    → more ≡ sums_of v.window → v.skipped ≡ added v.before more → v.same_front ≡ from - start
    → v.same_back ≡ end - to → HoldsText v (text_with w)
opened w v from to start end more h tree sums window before m skipped front back =
    let text = closed_text w h.closed in
    let span = open_span w from to start end h in
    let both = opened_sums w from to start end v.before more v.window h before window m in
    let fits : length w.tree < 2 ^ 64 - 1 = omega (arith, h.held.fits, ap length text) in
    let mid = bytes_between w.tree start end in
    let can : CanReplace w.tree from to =
    subst (λ (bs : List ℕ). CanReplace bs from to) text h.can in
    let ends : AreSameEndsOf mid mid v.same_front v.same_back =
    rw (front, back) (ends_opened w.tree mid from to start end span can h.front h.back refl) in
    let shown : AreShown w.tree mid v.before v.skipped (sums_of w.tree) v.same_front v.same_back
    w.tree =
    cut_shown w.tree start end span fits v.before v.skipped before (skipped ∙ both.sums)
    v.same_front v.same_back ends in
    holds_shown v (text_with w)
    (subst
    (AreShown v.tree v.window v.before v.skipped v.sums v.same_front v.same_back) (sym text)
    (same_shown _ _ _ _ _ _ _ _ _ _ _ _ w.tree tree window refl refl
    (sums ∙ h.held.sums ∙ ap sums_of text) shown))

-- ---- sums before a place

pub before_counted : (bs : List ℕ) (place e c u : ℕ) → IsSeam bs place
    → e ≡ ends_in (take place bs) → c ≡ units Utf32 (chars (take place bs))
    → u ≡ units Utf16 (chars (take place bs)) → sums_made e place c u ≡ sums_of (take place bs)
before_counted bs place e c u h ends wide half =
    sums_same _ _ _ _ _ _ _ _ ends (sym (length-take-le place bs h.boundary.0))
    (wide ∙ units-utf32 (chars (take place bs))) half
