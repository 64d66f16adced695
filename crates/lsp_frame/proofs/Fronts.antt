-- The header part that bytes begin with stays, whatever follows.
use Rattle.std.proofs.Common.{◌≡◌, ℕ, ◌+◌, ◌-◌, ◌<◌, ◌≤◌, Bool, true, false, List, [], ◌∷◌, ◌++◌, length, take, drop, Option, Some, None, refl, sym, ap, subst, ◌∙◌, append_assoc, append-nil, arith, inl, inr}
use Rattle.std.proofs.lemmas.List.{length-append, take-append-le, take-append-drop, length-drop}
use Rattle.std.proofs.lemmas.Bool.{cases_lt, cond-false}
use Rattle.std.proofs.lemmas.Slice.Eq.{bytes_eq-Decides}
use Rattle.memchr.specs.Find.{FindsNeedle}
use Rattle.lsp_frame.specs.Header.{blank_line}
use Rattle.lsp_frame.specs.Frame.{HoldsNoBlank, Frames}
use Rattle.lsp_frame.specs.Decoder.{State, StandsFor, RestAt}
use Rattle.lsp_frame.specs.Front.{begins_blank, header_of, header_front, HoldsRest}
use Rattle.lsp_frame.specs.Laws.{FrontStays}
use Rattle.lsp_frame.proofs.Frames.{take_beyond}
use Rattle.lsp_frame.proofs.Splits.{none_found, first_part}

-- ---- one byte more in front

-- where no blank line stands in front, the first byte is one of the header part
header_cons : (b : ℕ) (bytes : List ℕ) → (take 4 (b ∷ bytes) ≡ blank_line → ⊥) → header_of (b ∷ bytes) ≡ b ∷ header_of bytes
header_cons b bytes none = cond-false (begins_blank (b ∷ bytes)) blank_line (b ∷ header_of bytes) (by_test (begins_blank (b ∷ bytes)) refl)
  where
    by_test : (t : Bool) → begins_blank (b ∷ bytes) ≡ t → t ≡ false
    by_test false e = refl
    by_test true e = absurd (none ((bytes_eq-Decides (take 4 (b ∷ bytes)) blank_line).0 e))

-- ---- the header part, and then others

header_first : (front y : List ℕ) → ((f back : List ℕ) → front ++ blank_line ≡ f ++ (blank_line ++ back) → back ≡ []) → header_of ((front ++ blank_line) ++ y) ≡ front ++ blank_line
header_first [] y first = refl
header_first (c ∷ front) y first =
    header_cons c ((front ++ blank_line) ++ y) (λ here.
    let long : 4 ≤ length (c ∷ (front ++ blank_line)) = omega (arith, length-append front blank_line) in
    let same : take 4 (c ∷ (front ++ blank_line)) ≡ blank_line = sym (take-append-le 4 (c ∷ (front ++ blank_line)) y long) ∙ here in
    let whole : c ∷ (front ++ blank_line) ≡ blank_line ++ drop 4 (c ∷ (front ++ blank_line)) = sym (take-append-drop 4 (c ∷ (front ++ blank_line))) ∙ ap (λ (w : List ℕ). w ++ drop 4 (c ∷ (front ++ blank_line))) same in
    let none = first [] (drop 4 (c ∷ (front ++ blank_line))) whole in
    absurd (omega (arith, ap length none, length-drop 4 (c ∷ (front ++ blank_line)), length-append front blank_line)))
    ∙ ap (λ (w : List ℕ). c ∷ w) (header_first front y (λ f back e. first (c ∷ f) back (ap (λ (w : List ℕ). c ∷ w) e)))

-- a header part is one of every list that begins with it
pub header_found : (header y : List ℕ) → ((front : List ℕ) × (header ≡ front ++ blank_line)) → ((f back : List ℕ) → header ≡ f ++ (blank_line ++ back) → back ≡ []) → header_of (header ++ y) ≡ header
header_found header y ends first =
    ap (λ (w : List ℕ). header_of (w ++ y)) ends.1 ∙ header_first ends.0 y (λ f back e. first f back (ends.1 ∙ e)) ∙ sym ends.1

-- without a blank line all is the header part
pub header_all : (bytes : List ℕ) → HoldsNoBlank bytes → header_of bytes ≡ bytes
header_all [] none = refl
header_all (b ∷ bytes) none =
    header_cons b bytes (λ here. none [] (drop 4 (b ∷ bytes)) (sym (take-append-drop 4 (b ∷ bytes)) ∙ ap (λ (w : List ℕ). w ++ drop 4 (b ∷ bytes)) here))
    ∙ ap (λ (w : List ℕ). b ∷ w) (header_all bytes (λ front back e. none (b ∷ front) back (ap (λ (w : List ℕ). b ∷ w) e)))

-- ---- a search for it

pub found_near : (near : List ℕ) (k : ℕ) → FindsNeedle near blank_line 0 (Some k) → take (k + 4) near ≡ header_of near
found_near near k finds =
    let part = first_part near k finds.0 finds.1 in
    sym (header_found (take (k + 4) near) (drop (k + 4) near) part.ends part.first) ∙ ap header_of (take-append-drop (k + 4) near)

pub not_found_near : (near : List ℕ) → FindsNeedle near blank_line 0 None → near ≡ header_of near
not_found_near near finds = sym (header_all near (none_found near finds))

-- ---- behind a fault

near_stays : (bytes more : List ℕ) → 64 ≤ length bytes → header_front (bytes ++ more) ≡ header_front bytes
near_stays bytes more long = ap header_of (take-append-le 64 bytes more long)

part_front : (header after : List ℕ) → length header < 64 → ((front : List ℕ) × (header ≡ front ++ blank_line)) → ((f back : List ℕ) → header ≡ f ++ (blank_line ++ back) → back ≡ []) → header_front (header ++ after) ≡ header
part_front header after short ends first = ap header_of (take_beyond 64 header after (omega (arith, short))) ∙ header_found header (take (64 - length header) after) ends first

pub shown_stays : FrontStays
shown_stays limits range bytes more rule (inl long) = near_stays bytes more (omega (arith, long.1.long, range.header_low))
shown_stays limits range bytes more rule (inr bad) = elim (cases_lt (length bad.header) 64) [
  | inl short ↦
      ap (λ (w : List ℕ). header_front (w ++ more)) bad.whole ∙ ap header_front (append_assoc bad.header bad.after more)
      ∙ part_front bad.header (bad.after ++ more) short bad.part.ends bad.part.first
      ∙ sym (part_front bad.header bad.after short bad.part.ends bad.part.first) ∙ sym (ap header_front bad.whole)
  | inr long ↦ near_stays bytes more (omega (arith, long, ap length bad.whole, length-append bad.header bad.after))
]

-- ---- the rest that a decoder holds

rest_held : (s : State) (bytes : List ℕ) (contents : List (List ℕ)) (rest : List ℕ) (fault : Option ℕ) → s.fault ≡ fault → RestAt fault s rest → Frames s.limits bytes contents rest → HoldsRest s bytes contents s.rest
rest_held s bytes contents rest None known held frames = record {
  more = [];
  frames = subst (Frames s.limits bytes contents) (held ∙ sym (append-nil s.rest)) frames;
  all = λ _. refl;
}
rest_held s bytes contents rest (Some rule) known held frames = record {
  more = held.0;
  frames = subst (Frames s.limits bytes contents) held.1 frames;
  all = λ none. let clash : None ≡ Some rule = sym none ∙ known in absurd cc;
}

pub holds_rest : (s : State) (bytes : List ℕ) (contents : List (List ℕ)) → StandsFor s bytes contents → HoldsRest s bytes contents s.rest
holds_rest s bytes contents stands = rest_held s bytes contents stands.rest s.fault refl stands.held stands.frames
