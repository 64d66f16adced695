-- What changes find, one after another.
use Rattle.std.proofs.Common.{◌≡◌, ◌<◌, ◌≤◌, ◌+◌, ℕ, List, [], ◌∷◌, ◌++◌, length, take, get_or}
use Rattle.std.proofs.Common.{Option, Some, None, Ok, refl, sym, ap, ◌∙◌, append_assoc}
use Rattle.std.proofs.lemmas.List.{append-nil, map_more, take_all}
use Rattle.std.specs.Option.{option_or}
use Rattle.lsp_types.specs.declared.position.Encoding.{Encoding}
use Rattle.lsp_types.specs.declared.change.Change.{Change}
use Rattle.lsp_text.specs.Edits.{Edit, applied}
use Rattle.lsp_text.specs.Changes.{edit_of, edits_of}
use Rattle.lsp_text.specs.Findings.{nothing, noted, found_after, found_from, found_of, findings}
use Rattle.lsp_text.specs.declared.findings.Findings.{Findings}

or_none : {X : Type 0} (a : Option X) → option_or a None ≡ a
or_none None = refl
or_none (Some x) = refl

or_assoc : {X : Type 0} (a b c : Option X)
    → option_or (option_or a b) c ≡ option_or a (option_or b c)
or_assoc None b c = refl
or_assoc (Some x) b c = refl

-- where nothing more is found, what was found stays
pub noted-nothing : (a : Findings) → noted a nothing ≡ a
noted-nothing a =
    ap (λ x. record { past_end = x; range_length = option_or a.range_length None })
    (or_none a.past_end)
    ∙ ap (λ y. record { past_end = a.past_end; range_length = y }) (or_none a.range_length)

noted-assoc : (a b c : Findings) → noted (noted a b) c ≡ noted a (noted b c)
noted-assoc a b c =
    ap (λ x. record {
      past_end = x;
      range_length = option_or (option_or a.range_length b.range_length) c.range_length;
    })
    (or_assoc a.past_end b.past_end c.past_end)
    ∙ ap (λ y. record {
      past_end = option_or a.past_end (option_or b.past_end c.past_end);
      range_length = y;
    })
    (or_assoc a.range_length b.range_length c.range_length)

-- one more change, behind the others
found_behind : (limit : ℕ) (enc : Encoding) (t : List ℕ) (before cs : List Edit) (c : Edit)
    → found_from limit enc t before (cs ++ c ∷ [])
    ≡ noted (found_from limit enc t before cs)
    (found_after enc c (applied limit enc t (before ++ cs)))
found_behind limit enc t before [] c =
    noted-nothing (found_after enc c (applied limit enc t before))
    ∙ ap (λ (x : List Edit). found_after enc c (applied limit enc t x))
    (sym (append-nil before))
found_behind limit enc t before (d ∷ cs) c =
    ap (noted (found_after enc d (applied limit enc t before)))
    (found_behind limit enc t (before ++ d ∷ []) cs c)
    ∙ sym (noted-assoc (found_after enc d (applied limit enc t before))
    (found_from limit enc t (before ++ d ∷ []) cs)
    (found_after enc c (applied limit enc t ((before ++ d ∷ []) ++ cs))))
    ∙ ap (λ (x : List Edit). noted
    (noted (found_after enc d (applied limit enc t before))
    (found_from limit enc t (before ++ d ∷ []) cs)) (found_after enc c (applied limit enc t x)))
    (append_assoc before (d ∷ []) cs)

-- the next change of a list
pub found_next : (limit : ℕ) (enc : Encoding) (t u : List ℕ) (cs : List Change) (n : ℕ)
    (c : Change) (old new : Findings) → n < length cs → c ≡ get_or cs n c
    → applied limit enc t (edits_of (take n cs)) ≡ Ok u
    → old ≡ findings limit enc t (edits_of (take n cs))
    → new ≡ noted old (found_of enc u c.span c.range_length)
    → new ≡ findings limit enc t (edits_of (take (n + 1) cs))
found_next limit enc t u cs n c old new lt is made before now =
    now
    ∙ ap (λ (x : Findings). noted x (found_of enc u c.span c.range_length)) before
    ∙ ap (λ r. noted (findings limit enc t (edits_of (take n cs)))
    (found_after enc (edit_of c) r)) (sym made)
    ∙ sym (found_behind limit enc t [] (edits_of (take n cs)) (edit_of c))
    ∙ ap (found_from limit enc t []) (sym (map_more edit_of cs n c lt
    ∙ ap (λ (x : Change). edits_of (take n cs) ++ edit_of x ∷ []) (sym is)))

-- of all of them
pub found_all : (limit : ℕ) (enc : Encoding) (t : List ℕ) (cs : List Change) (n : ℕ)
    (found : Findings) → length cs ≤ n → found ≡ findings limit enc t (edits_of (take n cs))
    → found ≡ findings limit enc t (edits_of cs)
found_all limit enc t cs n found le is =
    is ∙ ap (λ (x : List Change). findings limit enc t (edits_of x)) (take_all n cs le)

-- of a lone change
pub found_one : (limit : ℕ) (enc : Encoding) (t : List ℕ) (c : Edit)
    → findings limit enc t (c ∷ []) ≡ found_of enc t c.span c.range_length
found_one limit enc t c = noted-nothing (found_of enc t c.span c.range_length)
