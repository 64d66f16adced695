-- What edits make of a text, as the code makes it.
use Rattle.std.specs.Prelude.{if◌then◌else◌, option_and_then, option_map}
use Rattle.std.specs.Cmp.{IsStrictWeakOrder}
use Rattle.std.specs.Str.{chars, IsUtf8}
use Rattle.std.proofs.Common.{◌≡◌, ◌≤◌, ◌<◌, ◌+◌, ◌-◌, ℕ, Bool, true, false, List, [], ◌∷◌, ◌++◌}
use Rattle.std.proofs.Common.{Option, Some, None, refl, sym, ap, ◌∙◌, arith, append_assoc}
use Rattle.std.proofs.Common.{drop, get_or, length, subst, take, ⊎_elim}
use Rattle.std.proofs.lemmas.Bool.Decides.{nat_tests}
use Rattle.std.proofs.lemmas.List.{drop_all, drop_at, drop_more, length-take-le, take_all}
use Rattle.std.proofs.lemmas.Str.{IsUtf8-append, IsUtf8-drop, IsUtf8-nil, IsUtf8-take, chars-append}
use Rattle.std.proofs.lemmas.Str.{chars-nil}
use Rattle.lsp_trail.specs.Common.{Edit, Encoding, Text, Utf32}
use Rattle.lsp_text.specs.Offsets.{IsOffset}
use Rattle.lsp_text.proofs.Denoting.{IsBefore, place_in_line-sound}
use Rattle.lsp_text.proofs.Splices.{chars-cut}
use Rattle.lsp_text.proofs.Widths.{IsFront, is_front, units-utf32}
use Rattle.lsp_notes.specs.AtOnce.{IsPut, IsSplit, Splice, and_splices, back_of, front_of, in_order}
use Rattle.lsp_notes.specs.AtOnce.{is_first, is_next, is_text, made_from, makes}
use Rattle.lsp_notes.specs.AtOnce.{splice_of, splice_view, splice_with, splices_of, splices_view}
use Rattle.lsp_notes.specs.declared.at_once.Splice as code
use Rattle.lsp_notes.specs.declared.texts_since.Stretch.{Stretch}

-- ---- a text that is cut behind some characters

-- so many or more are as many, where these are all
pub record AreAsMany (k n : ℕ) (cs : List ℕ) : Type 0 where
  pub front : take k cs ≡ take n cs
  pub back : drop k cs ≡ drop n cs

as_many : (cs : List ℕ) (k n : ℕ) → IsBefore Utf32 cs k n → AreAsMany k n cs
as_many cs k n b =
    ⊎_elim
    (λ all.
    let long : length cs ≤ k = omega (arith, all.0, units-utf32 cs) in
    let whole : length cs ≤ n = omega (arith, all.1) in
    record {
      front = take_all k cs long ∙ sym (take_all n cs whole);
      back = drop_all k cs long ∙ sym (drop_all n cs whole);
    })
    (λ some.
    let same : k ≡ n =
    sym some ∙ units-utf32 (take n cs) ∙ length-take-le n cs b.within in
    record { front = ap (λ m. take m cs) same; back = ap (λ m. drop m cs) same })
    b.column_is

pub split_text : (bs : List ℕ) (k offset : ℕ) → IsUtf8 bs → IsOffset Utf32 bs k offset
    → IsSplit k bs (take offset bs) (drop offset bs)
split_text bs k offset u o =
    let n = length (chars (take offset bs)) in
    let f : IsFront bs offset = is_front bs offset u o.boundary in
    let same : AreAsMany k n (chars bs) =
    as_many (chars bs) k n (place_in_line-sound Utf32 (chars bs) k n o.place) in
    record {
      front_is = sym f.front ∙ sym same.front;
      back_is =
          sym (ap (drop n) (chars-cut bs offset u o.boundary)
          ∙ drop_at (chars (take offset bs)) (chars (drop offset bs)) n refl)
          ∙ sym same.back;
      front_utf8 = IsUtf8-take bs offset u o.boundary;
      back_utf8 = IsUtf8-drop bs offset u o.boundary;
    }

pub split_so : (bs front back : List ℕ) (column count offset : ℕ) → column ≡ count
    → front ≡ take offset bs → back ≡ drop offset bs → IsUtf8 bs → IsOffset Utf32 bs column offset
    → IsSplit count bs front back
split_so bs front back column count offset same f b u o =
    let h : IsSplit column bs (take offset bs) (drop offset bs) = split_text bs column offset u o in
    record {
      front_is = ap chars f ∙ h.front_is ∙ ap (λ k. take k (chars bs)) same;
      back_is = ap chars b ∙ h.back_is ∙ ap (λ k. drop k (chars bs)) same;
      front_utf8 = subst IsUtf8 (sym f) h.front_utf8;
      back_utf8 = subst IsUtf8 (sym b) h.back_utf8;
    }

-- ---- what is written

-- what comes before an edit, and its text
pub put_next : (here : ℕ) (t old front back held left own : List ℕ) (at : Stretch) → IsUtf8 old
    → IsUtf8 own → IsSplit (at.first - here) t front back
    → IsSplit (at.second - at.first) back held left
    → IsPut here (chars t) (splice_with (chars own) at) old ((old ++ front) ++ own) left
put_next here t old front back held left own at u w a b =
    let both = IsUtf8-append old front u a.front_utf8 in
    record {
      utf8 = IsUtf8-append (old ++ front) own both w;
      made =
          chars-append (old ++ front) own both
          ∙ ap (λ x. x ++ chars own) (chars-append old front u)
          ∙ append_assoc (chars old) (chars front) (chars own)
          ∙ ap (λ x. chars old ++ (x ++ chars own)) a.front_is;
      left_is = b.back_is ∙ ap (drop (at.second - at.first)) a.back_is;
      left_utf8 = b.back_utf8;
    }

-- ---- one edit after another

module _ (here : ℕ) (t : Text) (s : Splice) (more : List Splice) where
  -- it does not come next
  pub made_none : is_next here s.at ≡ false → None ≡ made_from here t (s ∷ more)
  made_none is =
      sym (ap (λ (b : Bool). if b
      then option_map (λ u. front_of here s.at t ++ s.text ++ u)
      (made_from s.at.second (back_of here s.at t) more) else None) is)

  pub made_next : is_next here s.at ≡ true
      → made_from here t (s ∷ more)
      ≡ option_map (λ u. front_of here s.at t ++ s.text ++ u)
      (made_from s.at.second (back_of here s.at t) more)
  made_next is =
      ap (λ (b : Bool). if b
      then option_map (λ u. front_of here s.at t ++ s.text ++ u)
      (made_from s.at.second (back_of here s.at t) more) else None) is

behind_both : (a b : List ℕ) (o : Option Text)
    → option_map (λ u. a ++ u) (option_map (λ u. b ++ u) o) ≡ option_map (λ u. (a ++ b) ++ u) o
behind_both a b None = refl
behind_both a b (Some u) = ap Some (sym (append_assoc a b u))

behind_none : (a : List ℕ) (o : Option Text) → None ≡ o → None ≡ option_map (λ u. a ++ u) o
behind_none a o is = ap (option_map (λ u. a ++ u)) is

-- **what was written, and what the edits that are left make of the text that is left, is what all
-- make of the whole**
pub record IsSoFar (all : Option Text) (done : List ℕ) (here : ℕ) (rest : List ℕ)
    (ss : List Splice) : Type 0 where
  pub utf8 : IsUtf8 done
  pub is : option_map (λ u. chars done ++ u) (made_from here (chars rest) ss) ≡ all

module _ (all : Option Text) (done : List ℕ) (here : ℕ) (rest : List ℕ) (s : Splice)
    (more : List Splice) (so : IsSoFar all done here rest (s ∷ more)) where
  pub stops : is_next here s.at ≡ false → None ≡ all
  stops is = behind_none (chars done) _ (made_none here (chars rest) s more is) ∙ so.is

  pub goes_on : is_next here s.at ≡ true → (new left : List ℕ)
      → IsPut here (chars rest) s done new left → IsSoFar all new s.at.second left more
  goes_on is new left put =
      let own = front_of here s.at (chars rest) ++ s.text in
      record {
        utf8 = put.utf8;
        is =
            (λ i. option_map (λ u. put.made i ++ u)
            (made_from s.at.second (put.left_is i) more))
            ∙ sym (behind_both (chars done) own
            (made_from s.at.second (back_of here s.at (chars rest)) more))
            ∙ ap (option_map (λ u. chars done ++ u)) (sym (made_next here (chars rest) s more is))
            ∙ so.is;
      }

-- nothing is written yet
pub begins : (whole : List ℕ) (ss : List Splice) (done : List ℕ) → done ≡ []
    → IsSoFar (made_from 0 (chars whole) ss) done 0 whole ss
begins whole ss done is = record {
  utf8 = subst IsUtf8 (sym is) IsUtf8-nil;
  is =
      ap (λ d. option_map (λ u. chars d ++ u) (made_from 0 (chars whole) ss)) is
      ∙ ap (λ cs. option_map (λ u. cs ++ u) (made_from 0 (chars whole) ss)) chars-nil
      ∙ nothing_before (made_from 0 (chars whole) ss);
}
  where
    nothing_before : (o : Option Text) → option_map (λ u. [] ++ u) o ≡ o
    nothing_before None = refl
    nothing_before (Some u) = refl

pub ends : (all : Option Text) (done : List ℕ) (here : ℕ) (rest : List ℕ)
    → IsSoFar all done here rest [] → Some (chars (done ++ rest)) ≡ all
ends all done here rest so = ap Some (chars-append done rest so.utf8) ∙ so.is

-- ---- edits in the order of a text

-- the next one and those behind it
pub splices_from : (ss : List code.Splice) (i : ℕ) (d : code.Splice) → i < length ss
    → splices_view (drop i ss) ≡ splice_view (get_or ss i d) ∷ splices_view (drop (i + 1) ss)
splices_from ss i d lt = ap splices_view (drop_more ss i d lt)

-- those that are found and those that are left, in order
abbrev pub found_all : List Splice → Option (List Splice) → Option (List Splice)
found_all found left = option_map (λ ss. in_order (found ++ ss)) left

module _ (enc : Encoding) (t : Text) (found : List Splice) (e : Edit) (more : List Edit) where
  pub none_found : None ≡ splice_of enc t e
      → None ≡ found_all found (splices_of enc t (e ∷ more))
  none_found is =
      ap (λ o. found_all found (option_and_then (and_splices (splices_of enc t more)) o)) is

  pub one_found : (s : Splice) → Some s ≡ splice_of enc t e
      → found_all (found ++ s ∷ []) (splices_of enc t more)
      ≡ found_all found (splices_of enc t (e ∷ more))
  one_found s is =
      by_more (splices_of enc t more)
      ∙ ap (λ o. found_all found (option_and_then (and_splices (splices_of enc t more)) o)) is
    where
      by_more : (o : Option (List Splice))
          → found_all (found ++ s ∷ []) o ≡ found_all found (and_splices o s)
      by_more None = refl
      by_more (Some ss) = ap (λ (l : List Splice). Some (in_order l)) (append_assoc found (s ∷ []) ss)

-- stretches in their order
pub ordered : IsStrictWeakOrder is_first
ordered = record {
  one_way = λ a b is. grind (arith, nat_tests);
  chain = λ a b c is also. grind (arith, nat_tests);
}

pub splices_ordered : IsStrictWeakOrder (λ (a b : code.Splice). is_first a.at b.at)
splices_ordered = record {
  one_way = λ a b. ordered.one_way a.at b.at;
  chain = λ a b c. ordered.chain a.at b.at c.at;
}

-- ---- the text that they make

module _ (enc : Encoding) (now t : Text) (edits : List Edit) where
  pub makes_none : None ≡ option_map in_order (splices_of enc t edits)
      → false ≡ makes enc edits now t
  makes_none is = by_splices (splices_of enc t edits) refl is
    where
      by_splices : (o : Option (List Splice)) → o ≡ splices_of enc t edits
          → None ≡ option_map in_order o → false ≡ makes enc edits now t
      by_splices None are none =
          ap (λ x. is_text now (option_and_then (λ ss. made_from 0 t (in_order ss)) x)) are
      by_splices (Some ss) are none = absurd (cc none)

  pub makes_so : (ss : List Splice) (o : Option Text)
      → Some ss ≡ option_map in_order (splices_of enc t edits) → o ≡ made_from 0 t ss
      → is_text now o ≡ makes enc edits now t
  makes_so ss o are is = by_splices (splices_of enc t edits) refl are
    where
      by_splices : (x : Option (List Splice)) → x ≡ splices_of enc t edits
          → Some ss ≡ option_map in_order x → is_text now o ≡ makes enc edits now t
      by_splices None all none = absurd (cc none)
      by_splices (Some own) all same =
          let order : ss ≡ in_order own = cc same in
          ap (is_text now) (is ∙ ap (made_from 0 t) order)
          ∙ ap (λ y. is_text now (option_and_then (λ x. made_from 0 t (in_order x)) y)) all
