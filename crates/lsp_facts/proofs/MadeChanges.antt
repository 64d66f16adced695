-- Changes made one after another, up to the first that denotes no place.
use Rattle.std.proofs.Common.{◌≡◌, ℕ, true, None, sym, ap, ◌<◌, ◌≤◌, ◌+◌, zero, suc, List, [], ◌∷◌}
use Rattle.std.proofs.Common.{◌++◌, length, take, drop, get_or, cond, Option, Some, Result, Ok, Err}
use Rattle.std.proofs.Common.{refl, subst, ◌∙◌, arith}
use Rattle.std.specs.Prelude.{is_some, if◌then◌else◌}
use Rattle.std.proofs.lemmas.List.{take-map, take_all}
use Rattle.std.proofs.lemmas.Option.{slice_get-map, slice_get-get_or}
use Rattle.std.specs.List.{slice_get, prefix_len}
use Rattle.std.specs.Option.{option_map}
use Rattle.lsp_replay.specs.Common.{applied, AreTriedOn, Change, changed, Edit, edit_of, edits_of}
use Rattle.lsp_replay.specs.Common.{Encoding, is_of_kind, IsMade, LiesInside, Span, SyncKind}
use Rattle.lsp_replay.specs.Common.{Version}
use Rattle.lsp_text.specs.Places.{place_of}
use Rattle.lsp_text.proofs.Differing.InsideCharacter.{positions_lie_inside}
use Rattle.lsp_text.specs.Edits.{and_then}
use Rattle.lsp_text.proofs.Edits.Applied.{applied-append}
use Rattle.lsp_text.proofs.Positions.{slice_get-past}
use Rattle.lsp_docs.specs.Calls.{Text}
use Rattle.lsp_docs.specs.Tried.{AreTried, IsRejected, Made, made_of}
use Rattle.lsp_facts.specs.DocumentFacts.{stray, fitting, made_length, misfit_facts}
use Rattle.lsp_facts.specs.Fact.{Fact, counts_in, fails}

pub first_stray : (enc : Encoding) (t : Text) (span : Span) (char : ℕ) → LiesInside enc t span.first char → span.first ≡ stray enc t span
first_stray enc t span char h =
    let nowhere : place_of enc t span.first ≡ None = (positions_lie_inside.inside enc t span.first).1 (char, h) in
    sym (ap (λ o. if is_some o then span.second else span.first) nowhere)

pub second_stray : (enc : Encoding) (t : Text) (span : Span) → is_some (place_of enc t span.first) ≡ true → span.second ≡ stray enc t span
second_stray enc t span h = sym (ap (λ b. if b then span.second else span.first) h)

-- ---- changes until one fails

pub seen_length : (cs : List Change) → length (edits_of cs) ≡ length cs
seen_length [] = refl
seen_length (c ∷ cs) = ap suc (seen_length cs)

-- what was tried of the changes of a held text
pub tried_there : (limit : ℕ) (enc : Encoding) (h : Option Version) (t : Text) (cs : List Edit)
    (tried : Option Made) (text : Text) (n : ℕ) → Some t ≡ option_map (λ (v : Version). v.text) h
    → (let m : Made = record { text = text; count = n } in m) ≡ made_of t tried
    → AreTriedOn limit enc h cs tried → IsMade limit enc t cs n text
tried_there limit enc None t cs tried text n holds is are = absurd (cc)
tried_there limit enc (Some v) t cs tried text n holds is are =
    let same : v.text ≡ t = (let k : Some t ≡ Some v.text = holds in cc) in
    subst (λ (m : Made). IsMade limit enc t cs m.count m.text) (sym is)
    (subst (λ (x : Text). AreTried limit enc x cs tried) same are)

-- ---- what that says of all changes

parts : (cs : List Edit) (n : ℕ) (edit : Edit) → slice_get cs n ≡ Some edit → cs ≡ take n cs ++ edit ∷ drop (n + 1) cs
parts [] n edit h = absurd (cc)
parts (c ∷ cs) zero edit h = ap (λ x. x ∷ cs) (let e : c ≡ edit = cc in e)
parts (c ∷ cs) (suc n) edit h =
    ap (λ (x : List Edit). c ∷ x) (parts cs n edit h)
    ∙ ap (λ i. c ∷ take n cs ++ edit ∷ drop i (c ∷ cs)) (let e : suc (n + 1) ≡ suc n + 1 = omega arith in e)

-- they fail where one fails behind those that were made
pub fails_there : (limit : ℕ) (enc : Encoding) (t : Text) (cs : List Edit) (n : ℕ) (u : Text) (edit : Edit) (rule : ℕ) → applied limit enc t (take n cs) ≡ Ok u → slice_get cs n ≡ Some edit
    → changed enc u edit.span edit.text limit ≡ Err rule → applied limit enc t cs ≡ Err rule
fails_there limit enc t cs n u edit rule made here failed =
    ap (applied limit enc t) (parts cs n edit here) ∙ applied-append limit enc t (take n cs) (edit ∷ drop (n + 1) cs)
    ∙ ap (λ r. and_then r (λ v. applied limit enc v (edit ∷ drop (n + 1) cs))) made
    ∙ ap (λ r. and_then r (λ v. applied limit enc v (drop (n + 1) cs))) failed

-- they make the text that was made of all
pub makes_all : (limit : ℕ) (enc : Encoding) (t : Text) (cs : List Edit) (n : ℕ) (u : Text) → IsMade limit enc t cs n u → length cs ≤ n → applied limit enc t cs ≡ Ok u
makes_all limit enc t cs n u h le = ap (applied limit enc t) (sym (take_all n cs le)) ∙ h.made

slice_get-none : (xs : List Edit) (i : ℕ) → slice_get xs i ≡ None → length xs ≤ i
slice_get-none [] i h = omega arith
slice_get-none (x ∷ xs) zero h = absurd (cc)
slice_get-none (x ∷ xs) (suc i) h = omega (arith, slice_get-none xs i h)

-- where fewer were made than there are, some rule refuses them
pub fails_some : (limit : ℕ) (enc : Encoding) (t : Text) (cs : List Edit) (n : ℕ) (u : Text) → IsMade limit enc t cs n u → n < length cs → (rule : ℕ) × (applied limit enc t cs ≡ Err rule)
fails_some limit enc t cs n u h lt = by_next (slice_get cs n) refl
  where
    by_next : (o : Option Edit) → slice_get cs n ≡ o → (rule : ℕ) × (applied limit enc t cs ≡ Err rule)
    by_next None e = absurd (omega (arith, slice_get-none cs n e))
    by_next (Some edit) e =
        let next : IsRejected limit enc u (Some edit) = subst (IsRejected limit enc u) e h.next in
        (next.0, fails_there limit enc t cs n u edit next.0 h.made e next.1)

-- ---- the first that is not of a kind

pub fitting_seen : (kind : SyncKind) (cs : List Change) → prefix_len (λ c. is_of_kind kind (edit_of c)) cs ≡ fitting kind (edits_of cs)
fitting_seen kind [] = refl
fitting_seen kind (c ∷ cs) = ap (λ n. cond (is_of_kind kind (edit_of c)) (1 + n) 0) (fitting_seen kind cs)

-- there is none
pub no_misfit : (limit : ℕ) (enc : Encoding) (t : Text) (cs : List Change) (n : ℕ) → length cs ≤ n → misfit_facts limit enc t (edits_of cs) n (slice_get (edits_of cs) n) ≡ []
no_misfit limit enc t cs n le = ap (misfit_facts limit enc t (edits_of cs) n) (slice_get-past (edits_of cs) n (omega (arith, le, seen_length cs)))

-- the length of its line, by what the changes before it make
pub length_made : (limit : ℕ) (enc : Encoding) (t : Text) (cs : List Change) (n : ℕ)
    (span : Option Span) (made : Result Text ℕ) → applied limit enc t (edits_of (take n cs)) ≡ made
    → made_length enc span (applied limit enc t (take n (edits_of cs))) ≡ made_length enc span made
length_made limit enc t cs n span made is =
    ap (λ (x : List Edit). made_length enc span (applied limit enc t x)) (take-map edit_of n cs)
    ∙ ap (made_length enc span) is

pub misfit_here : (limit : ℕ) (enc : Encoding) (t : Text) (cs : List Change) (n : ℕ) (c : Change) (more : List Fact) → n < length cs → c ≡ get_or cs n c
    → made_length enc (edit_of c).span (applied limit enc t (take n (edits_of cs))) ≡ more → counts_in enc ∷ fails (n + 1) (edit_of c).span ∷ more ≡ misfit_facts limit enc t (edits_of cs) n (slice_get (edits_of cs) n)
misfit_here limit enc t cs n c more lt is e =
    let here : slice_get (edits_of cs) n ≡ Some (edit_of c) = slice_get-map edit_of cs n ∙ ap (option_map edit_of) (slice_get-get_or cs n c lt ∙ ap Some (sym is)) in
    sym (ap (misfit_facts limit enc t (edits_of cs) n) here ∙ ap (λ (l : List Fact). counts_in enc ∷ fails (n + 1) (edit_of c).span ∷ l) e)

-- the change at a place, as an edit
pub here_at : (cs : List Change) (n : ℕ) (c : Change) → n < length cs → c ≡ get_or cs n c → slice_get (edits_of cs) n ≡ Some (edit_of c)
here_at cs n c lt is = slice_get-map edit_of cs n ∙ ap (option_map edit_of) (slice_get-get_or cs n c lt ∙ ap Some (sym is))

pub all_seen : (cs : List Change) (n : ℕ) → length cs ≤ n → length (edits_of cs) ≤ n
all_seen cs n le = omega (arith, seen_length cs)
