-- The header part of any fields, and one that begins with the default content type.
use Rattle.std.proofs.Common.{◌≡◌, ℕ, ◌+◌, ◌-◌, ◌<◌, ◌≤◌, Bool, true, false, List, [], ◌∷◌, ◌++◌, length, take, refl, sym, ap, subst, ◌∙◌, append_assoc, arith, inl, inr}
use Rattle.std.specs.Prelude.{Ok, ◌||◌}
use Rattle.std.specs.List.{flat_map, list_all, AllByRecursion}
use Rattle.std.proofs.lemmas.Bool.{cases_lt, and_from, and_parts}
use Rattle.std.proofs.lemmas.List.{length-append, length-take}
use Rattle.std.proofs.lemmas.List.Folds.{list_all-append}
use Rattle.std.proofs.lemmas.List.Sums.{list_all-from_AllPass}
use Rattle.lsp_frame.specs.Bounds.{Bounds}
use Rattle.lsp_frame.specs.Header.{blank_line, line_end, line, Field, IsField, Spells, Says, is_token, is_text}
use Rattle.lsp_frame.specs.Frame.{IsHeader}
use Rattle.lsp_frame.specs.Reading.{usual_type}
use Rattle.lsp_frame.specs.Start.{StartsWithHeader}
use Rattle.lsp_frame.specs.declared.start.FrameSize.{FrameSize}
use Rattle.lsp_frame.proofs.Fields.{cons_lines, line_is}
use Rattle.lsp_frame.proofs.Frames.{err_not_ok, take_beyond}
use Rattle.lsp_frame.proofs.HeaderLoop.{usual_is}
use Rattle.lsp_frame.proofs.Splits.{split_front}

-- ---- a line without its end holds no CR

abbrev is_solid : ℕ → Bool
is_solid b = is_token b || is_text b

or_true : (b : Bool) → b || true ≡ true
or_true true = refl
or_true false = refl

tokens_solid : (xs : List ℕ) → list_all is_token xs ≡ true → list_all is_solid xs ≡ true
tokens_solid [] all = refl
tokens_solid (x ∷ xs) all =
    let both = and_parts (is_token x) (list_all is_token xs) all in
    and_from _ _ (rw both.0 refl) (tokens_solid xs both.1)

text_solid : (xs : List ℕ) → list_all is_text xs ≡ true → list_all is_solid xs ≡ true
text_solid [] all = refl
text_solid (x ∷ xs) all =
    let both = and_parts (is_text x) (list_all is_text xs) all in
    and_from _ _ (rw both.0 (or_true (is_token x))) (text_solid xs both.1)

abbrev unended : Field → List ℕ
unended f = f.name ++ 58 ∷ f.value

unended_solid : (f : Field) → IsField f → list_all is_solid (unended f) ≡ true
unended_solid f is =
    list_all-append is_solid f.name (58 ∷ f.value)
    ∙ and_from _ _ (tokens_solid f.name (list_all-from_AllPass is_token f.name is.token))
    (text_solid (58 ∷ f.value)
    (and_from _ _ refl (list_all-from_AllPass is_text f.value is.text)))

line_cut : (f : Field) (rest : List ℕ) → line f ++ rest ≡ unended f ++ 13 ∷ 10 ∷ rest
line_cut f rest = line_is f rest ∙ sym (append_assoc f.name (58 ∷ f.value) (13 ∷ 10 ∷ rest))

no_return_first : (more rest after : List ℕ) → 0 < length more → list_all is_solid more ≡ true
    → 13 ∷ after ≡ more ++ rest → ⊥
no_return_first [] rest after some all e = absurd (omega arith)
no_return_first (x ∷ more) rest after some all e =
    let first : 13 ≡ x = cc e in
    let both = and_parts (is_solid x) (list_all is_solid more) all in
    let wrong : false ≡ true = ap is_solid first ∙ both.0 in
    absurd cc

no_line_first : (f : Field) (rest after : List ℕ) → IsField f → line f ++ rest ≡ 13 ∷ after → ⊥
no_line_first f rest after is e =
    no_return_first (unended f) (13 ∷ 10 ∷ rest) after
    (omega (arith, length-append f.name (58 ∷ f.value))) (unended_solid f is)
    (sym e ∙ line_cut f rest)

-- where a CR stands after solid bytes, those come first
return_after : (w front rest after : List ℕ) → list_all is_solid w ≡ true
    → w ++ 13 ∷ rest ≡ front ++ 13 ∷ after
    → (more : List ℕ) × (front ≡ w ++ more) × (13 ∷ rest ≡ more ++ 13 ∷ after)
return_after w front rest after solid e = elim (cases_lt (length front) (length w)) [
  | inl before ↦
      let m = split_front front w (13 ∷ after) (13 ∷ rest) (sym e) (omega arith) in
      let parts = and_parts (list_all is_solid front) (list_all is_solid m.0)
      (sym (ap (list_all is_solid) m.1 ∙ list_all-append is_solid front m.0) ∙ solid) in
      absurd (no_return_first m.0 (13 ∷ rest) after
      (omega (arith, before, ap length m.1, length-append front m.0)) parts.1 m.2)
  | inr behind ↦ split_front w front (13 ∷ rest) (13 ∷ after) e (omega arith)
]

-- ---- fields and the end hold CR LF CR LF at their end alone

ends_first : (fs : List Field) (back : List ℕ) → AllByRecursion IsField fs
    → flat_map line fs ++ line_end ≡ 13 ∷ 10 ∷ back → back ≡ []
ends_first [] back each e = let nothing : [] ≡ back = cc e in sym nothing
ends_first (f ∷ fs) back each e =
    absurd (no_line_first f (flat_map line fs ++ line_end) (10 ∷ back) each.0
    (sym (cons_lines f fs) ∙ e))

after_line : (fs : List Field) (more back : List ℕ) → AllByRecursion IsField fs
    → ((front : List ℕ) → flat_map line fs ++ line_end ≡ front ++ (blank_line ++ back) → back ≡ [])
    → 13 ∷ 10 ∷ (flat_map line fs ++ line_end) ≡ more ++ (blank_line ++ back) → back ≡ []
after_line fs [] back each later e =
    let tails : flat_map line fs ++ line_end ≡ 13 ∷ 10 ∷ back = cc e in
    ends_first fs back each tails
after_line fs (x ∷ []) back each later e = let wrong : ◌≡◌ {A = ℕ} 10 13 = cc e in absurd (omega (arith, wrong))
after_line fs (x ∷ y ∷ more) back each later e =
    let tails : flat_map line fs ++ line_end ≡ more ++ (blank_line ++ back) = cc e in
    later more tails

ends_once : (fs : List Field) (back : List ℕ) → AllByRecursion IsField fs → (front : List ℕ)
    → flat_map line fs ++ line_end ≡ front ++ (blank_line ++ back) → back ≡ []
ends_once [] back each front e =
    absurd (omega (
      arith,
      ap length e,
      length-append front (blank_line ++ back),
      length-append blank_line back,
    ))
ends_once (f ∷ fs) back each front e =
    let rest = flat_map line fs ++ line_end in
    let m = return_after (unended f) front (10 ∷ rest) (10 ∷ 13 ∷ 10 ∷ back)
    (unended_solid f each.0) (sym (line_cut f rest) ∙ sym (cons_lines f fs) ∙ e) in
    after_line fs m.0 back each.1 (λ other same. ends_once fs back each.1 other same) m.2

ends_so : (f : Field) (fs : List Field)
    → (front : List ℕ) × (flat_map line (f ∷ fs) ++ line_end ≡ front ++ blank_line)
ends_so f [] = (unended f, cons_lines f [] ∙ line_cut f line_end)
ends_so f (g ∷ fs) =
    let last = ends_so g fs in (
      line f ++ last.0,
      cons_lines f (g ∷ fs) ∙ ap (λ (w : List ℕ). line f ++ w) last.1
          ∙ sym (append_assoc (line f) last.0 blank_line),
    )

spelled_part : (limits : Bounds) (header : List ℕ) (f : Field) (fs : List Field)
    → Spells header (f ∷ fs) → length header ≤ limits.header → IsHeader limits header
spelled_part limits header f fs spelled short =
    let last = ends_so f fs in
    record {
      ends = (last.0, spelled.lines ∙ last.1);
      first = λ front back e. ends_once (f ∷ fs) back spelled.each front (sym spelled.lines ∙ e);
      short = short;
    }

-- ---- the default content type, and what comes after it

typed_says : (limits : Bounds) (header : List ℕ) (n : ℕ)
    → length (line usual_type ++ header) ≤ limits.header → Says limits header (Ok n)
    → IsHeader limits (line usual_type ++ header) × Says limits (line usual_type ++ header) (Ok n)
typed_says limits header n short (inl is) =
    let fields = is.0 in
    let spelled : Spells (line usual_type ++ header) (usual_type ∷ fields) = record {
      lines = ap (λ (w : List ℕ). line usual_type ++ w) is.1.lines
          ∙ sym (cons_lines usual_type fields);
      each = (usual_is, is.1.each);
    } in (
      spelled_part limits (line usual_type ++ header) usual_type fields spelled short,
      inl (usual_type ∷ fields, spelled, is.2),
    )
typed_says limits header n short (inr bad) = absurd (err_not_ok (sym bad.1))

pub typed_starts : (limits : Bounds) (bytes rest : List ℕ) (size : FrameSize)
    → bytes ≡ line usual_type ++ rest → length bytes ≤ limits.header
    → StartsWithHeader limits rest size
    → StartsWithHeader limits bytes (record { header = 57 + size.header; content = size.content })
typed_starts limits bytes rest size whole short starts =
    let h = size.header in
    let header = take h rest in
    let cut : take (57 + h) (line usual_type ++ rest) ≡ line usual_type ++ header =
    take_beyond (57 + h) (line usual_type) rest (omega arith)
    ∙ ap (λ (k : ℕ). line usual_type ++ take k rest) (let e : 57 + h - 57 ≡ h = omega arith in e) in
    let front : take (57 + h) bytes ≡ line usual_type ++ header = ap (take (57 + h)) whole ∙ cut in
    let fits = starts.fits in
    let len : length (line usual_type ++ header) ≤ length bytes =
    omega (
      arith,
      ap length whole,
      length-append (line usual_type) rest,
      length-append (line usual_type) header,
      length-take h rest,
      fits,
    ) in
    let both = typed_says limits header size.content (omega (arith, len, short)) starts.says in
    record {
      fits = omega (arith, ap length whole, length-append (line usual_type) rest, fits);
      part = subst (λ (w : List ℕ). IsHeader limits w) (sym front) both.0;
      says = subst (λ (w : List ℕ). Says limits w (Ok size.content)) (sym front) both.1;
    }
