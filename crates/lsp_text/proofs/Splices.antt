-- A splice of a text, as one of its bytes.
use Rattle.std.proofs.Common.{◌≡◌, ◌<◌, ◌≤◌, ◌+◌, ◌-◌, ℕ, List, [], ◌∷◌, ◌++◌, length, take, drop, Some, None, Ok, Err, refl, sym, ap, ◌∙◌, arith, length-append, length-drop, take-add}
use Rattle.std.proofs.lemmas.List.{take-append-drop, take_at, drop_at, length-take-le}
use Rattle.std.proofs.lemmas.Bool.{cond-true, cond-false, lt-ltb, le-ltb}
use Rattle.std.specs.List.{replace_range}
use Rattle.std.specs.Str.{chars, IsUtf8, IsCharBoundary}
use Rattle.std.proofs.lemmas.Str.{chars-append, IsUtf8-append, IsUtf8-take, IsUtf8-drop, IsUtf8-between}
use Rattle.lsp_types.specs.declared.position.Encoding.{Encoding}
use Rattle.lsp_types.specs.declared.position.Encoding.TheVariants.{Utf8}
use Rattle.lsp_types.specs.declared.position.Span.{Span}
use Rattle.lsp_text.specs.Places.{place_of, units}
use Rattle.lsp_text.specs.Offsets.{IsTextOffset}
use Rattle.lsp_text.specs.Edits.{splice, limited, spliced, replaced}
use Rattle.lsp_text.proofs.Counting.{units-utf8_text}

-- a text that is cut in two
pub chars-cut : (bs : List ℕ) (i : ℕ) → IsUtf8 bs → IsCharBoundary bs i → chars bs ≡ chars (take i bs) ++ chars (drop i bs)
chars-cut bs i u b = ap chars (sym (take-append-drop i bs)) ∙ chars-append (take i bs) (drop i bs) (IsUtf8-take bs i u b)

pub chars-replace_range : (bs s : List ℕ) (i j : ℕ) → IsUtf8 bs → IsUtf8 s → IsCharBoundary bs i → IsCharBoundary bs j →
    chars (replace_range bs i j s) ≡ splice (chars bs) (length (chars (take i bs))) (length (chars (take j bs))) (chars s)
chars-replace_range bs s i j u us bi bj =
    let front = IsUtf8-take bs i u bi in
    let first : chars (take i bs) ≡ take (length (chars (take i bs))) (chars bs) =
    sym (ap (take (length (chars (take i bs)))) (chars-cut bs i u bi) ∙ take_at (chars (take i bs)) (chars (drop i bs)) (length (chars (take i bs))) refl) in
    let last : chars (drop j bs) ≡ drop (length (chars (take j bs))) (chars bs) =
    sym (ap (drop (length (chars (take j bs)))) (chars-cut bs j u bj) ∙ drop_at (chars (take j bs)) (chars (drop j bs)) (length (chars (take j bs))) refl) in
    chars-append (take i bs ++ s) (drop j bs) (IsUtf8-append (take i bs) s front us)
    ∙ ap (λ x. x ++ chars (drop j bs)) (chars-append (take i bs) s front)
    ∙ ap (λ x. (x ++ chars s) ++ chars (drop j bs)) first ∙ ap (λ x. (take (length (chars (take i bs))) (chars bs) ++ chars s) ++ x) last

pub IsUtf8-replace_range : (bs s : List ℕ) (i j : ℕ) → IsUtf8 bs → IsUtf8 s → IsCharBoundary bs i → IsCharBoundary bs j → IsUtf8 (replace_range bs i j s)
IsUtf8-replace_range bs s i j u us bi bj =
    IsUtf8-append (take i bs ++ s) (drop j bs) (IsUtf8-append (take i bs) s (IsUtf8-take bs i u bi) us) (IsUtf8-drop bs j u bj)

pub length-replace_range : (bs s : List ℕ) (i j : ℕ) → i ≤ length bs → length (replace_range bs i j s) ≡ i + length s + (length bs - j)
length-replace_range bs s i j le =
    omega (arith, length-append (take i bs ++ s) (drop j bs), length-append (take i bs) s, length-drop j bs, length-take-le i bs le)

-- what lies between two offsets
pub record AreBetween (bs : List ℕ) (i j : ℕ) (between : List ℕ) : Type 0 where
  pub utf8 : IsUtf8 between
  pub text : chars (take j bs) ≡ chars (take i bs) ++ chars between
  pub len : length between ≡ j - i

between_offsets : (bs : List ℕ) (i j : ℕ) → IsUtf8 bs → IsCharBoundary bs i → IsCharBoundary bs j → i ≤ j → AreBetween bs i j (take (j - i) (drop i bs))
between_offsets bs i j u bi bj le =
    let e : i + (j - i) ≡ j = omega arith in
    record {
      utf8 = IsUtf8-between bs i j u le bi bj;
      text =
          ap (λ x. chars (take x bs)) (sym e) ∙ ap chars (take-add i (j - i) bs) ∙ chars-append (take i bs) (take (j - i) (drop i bs)) (IsUtf8-take bs i u bi);
      len = length-take-le (j - i) (drop i bs) (omega (arith, length-drop i bs, bj.0));
    }

at_le : (bs : List ℕ) (i j : ℕ) → IsUtf8 bs → IsCharBoundary bs i → IsCharBoundary bs j → i ≤ j → length (chars (take i bs)) ≤ length (chars (take j bs))
at_le bs i j u bi bj le =
    let between = take (j - i) (drop i bs) in
    let h = between_offsets bs i j u bi bj le in
    omega (arith, ap length h.text, length-append (chars (take i bs)) (chars between))

pub units_some : (cs : List ℕ) → 0 < units Utf8 cs → 0 < length cs
units_some [] h = absurd (omega arith)
units_some (c ∷ cs) h = omega arith

some_chars : (bs : List ℕ) → IsUtf8 bs → 0 < length bs → 0 < length (chars bs)
some_chars bs u lt = units_some (chars bs) (omega (arith, units-utf8_text bs u))

at_lt : (bs : List ℕ) (i j : ℕ) → IsUtf8 bs → IsCharBoundary bs i → IsCharBoundary bs j → i < j → length (chars (take i bs)) < length (chars (take j bs))
at_lt bs i j u bi bj lt =
    let between = take (j - i) (drop i bs) in
    let h = between_offsets bs i j u bi bj (omega arith) in
    let some : 0 < length (chars between) = some_chars between h.utf8 (omega (arith, h.len)) in
    omega (arith, ap length h.text, length-append (chars (take i bs)) (chars between))

pub limited-over : (limit : ℕ) (bs : List ℕ) → IsUtf8 bs → limit < length bs → limited limit (chars bs) ≡ Err 607
limited-over limit bs u lt = cond-true _ _ _ (lt-ltb limit (units Utf8 (chars bs)) (omega (arith, units-utf8_text bs u)))

pub limited-within : (limit : ℕ) (bs : List ℕ) → IsUtf8 bs → length bs ≤ limit → limited limit (chars bs) ≡ Ok (chars bs)
limited-within limit bs u le = cond-false _ _ _ (le-ltb limit (units Utf8 (chars bs)) (omega (arith, units-utf8_text bs u)))

-- two places that positions denote
replaced_at : (enc : Encoding) (bs s : List ℕ) (span : Span) (limit i j : ℕ) → IsTextOffset enc bs span.first i → IsTextOffset enc bs span.second j →
    replaced enc (chars bs) span s limit ≡ spliced (chars bs) (Some (length (chars (take i bs)))) (Some (length (chars (take j bs)))) s limit
replaced_at enc bs s span limit i j a b = ap (λ x. spliced (chars bs) x (place_of enc (chars bs) span.second) s limit) a.place ∙ ap (λ x. spliced (chars bs) (Some (length (chars (take i bs)))) x s limit) b.place

pub replaced-reversed : (enc : Encoding) (bs s : List ℕ) (span : Span) (limit i j : ℕ) → IsUtf8 bs → IsTextOffset enc bs span.first i → IsTextOffset enc bs span.second j →
    j < i → replaced enc (chars bs) span s limit ≡ Err 606
replaced-reversed enc bs s span limit i j u a b lt =
    replaced_at enc bs s span limit i j a b ∙ cond-true _ _ _ (lt-ltb (length (chars (take j bs))) (length (chars (take i bs))) (at_lt bs j i u b.boundary a.boundary lt))

pub replaced-over : (enc : Encoding) (bs s : List ℕ) (span : Span) (limit i j : ℕ) → IsUtf8 bs → IsUtf8 s → IsTextOffset enc bs span.first i → IsTextOffset enc bs span.second j →
    i ≤ j → limit < i + length s + (length bs - j) → replaced enc (chars bs) span (chars s) limit ≡ Err 607
replaced-over enc bs s span limit i j u us a b le lt =
    let new = replace_range bs i j s in
    replaced_at enc bs (chars s) span limit i j a b
    ∙ cond-false _ _ _ (le-ltb (length (chars (take j bs))) (length (chars (take i bs))) (at_le bs i j u a.boundary b.boundary le))
    ∙ ap (limited limit) (sym (chars-replace_range bs s i j u us a.boundary b.boundary))
    ∙ limited-over limit new (IsUtf8-replace_range bs s i j u us a.boundary b.boundary) (omega (arith, length-replace_range bs s i j a.boundary.0))

pub replaced-within : (enc : Encoding) (bs s : List ℕ) (span : Span) (limit i j : ℕ) → IsUtf8 bs → IsUtf8 s → IsTextOffset enc bs span.first i → IsTextOffset enc bs span.second j →
    i ≤ j → i + length s + (length bs - j) ≤ limit → replaced enc (chars bs) span (chars s) limit ≡ Ok (chars (replace_range bs i j s))
replaced-within enc bs s span limit i j u us a b le within =
    let new = replace_range bs i j s in
    replaced_at enc bs (chars s) span limit i j a b
    ∙ cond-false _ _ _ (le-ltb (length (chars (take j bs))) (length (chars (take i bs))) (at_le bs i j u a.boundary b.boundary le))
    ∙ ap (limited limit) (sym (chars-replace_range bs s i j u us a.boundary b.boundary))
    ∙ limited-within limit new (IsUtf8-replace_range bs s i j u us a.boundary b.boundary) (omega (arith, length-replace_range bs s i j a.boundary.0))

-- ---- whatever the limit

pub replaced-between : (enc : Encoding) (bs s : List ℕ) (span : Span) (limit i j : ℕ) → IsUtf8 bs → IsUtf8 s → IsTextOffset enc bs span.first i → IsTextOffset enc bs span.second j →
    i ≤ j → replaced enc (chars bs) span (chars s) limit ≡ limited limit (chars (replace_range bs i j s))
replaced-between enc bs s span limit i j u us a b le =
    replaced_at enc bs (chars s) span limit i j a b
    ∙ cond-false _ _ _ (le-ltb (length (chars (take j bs))) (length (chars (take i bs))) (at_le bs i j u a.boundary b.boundary le))
    ∙ ap (limited limit) (sym (chars-replace_range bs s i j u us a.boundary b.boundary))

pub units-replaced : (bs s : List ℕ) (i j : ℕ) → IsUtf8 bs → IsUtf8 s → IsCharBoundary bs i → IsCharBoundary bs j → units Utf8 (chars (replace_range bs i j s)) ≡ i + length s + (length bs - j)
units-replaced bs s i j u us bi bj = units-utf8_text (replace_range bs i j s) (IsUtf8-replace_range bs s i j u us bi bj) ∙ length-replace_range bs s i j bi.0

pub no_first : (enc : Encoding) (t s : List ℕ) (span : Span) (limit : ℕ) → place_of enc t span.first ≡ None → replaced enc t span s limit ≡ Err 605
no_first enc t s span limit h = ap (λ x. spliced t x (place_of enc t span.second) s limit) h

pub no_second : (enc : Encoding) (t s : List ℕ) (span : Span) (limit k : ℕ) → place_of enc t span.first ≡ Some k → place_of enc t span.second ≡ None → replaced enc t span s limit ≡ Err 605
no_second enc t s span limit k h n = ap (λ x. spliced t x (place_of enc t span.second) s limit) h ∙ ap (λ x. spliced t (Some k) x s limit) n
