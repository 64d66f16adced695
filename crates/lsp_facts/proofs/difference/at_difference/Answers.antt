use Rattle.std.proofs.Common.{◌≡◌, ℕ, [], ◌∷◌, ◌++◌, List, Option, length, ap, sym, ◌∙◌, subst}
use Rattle.std.specs.Prelude.{codes, slice_get}
use Rattle.std.specs.Str.{chars}
use Rattle.lsp_facts.specs.DocumentFacts.{AreOfDifference, differs_at}
use Rattle.lsp_facts.specs.Fact.{Fact, counts_in, differing_codes, part_line, part_at}
use Rattle.lsp_facts.proofs.TextsDiffer.{apart_facts, are_apart, char_there, part_there}
use Rattle.lsp_facts.proofs.difference.at_difference.Goals as goal

pub returns : goal.returns
returns c =
    let a = chars c.args.held.now in
    let b = chars c.args.other.now in
    let found = c.in-Some.found in
    let key = c.args.key.now in
    let held = part_at (length (chars found.held_front.now)) (chars found.held.now) in
    let other = part_at (length (chars found.other_front.now)) (chars found.other.now) in
    let x = slice_get (chars found.held.now) (length (chars found.held_front.now)) in
    let y = slice_get (chars found.other.now) (length (chars found.other_front.now)) in
    let first : Fact = part_line (codes "by-messages") held in
    let second : Fact = part_line key other in
    let third : Fact = differing_codes x y in
    let all : c.codes.new.self ≡ apart_facts c.args.encoding key found.at held other x y =
    c.in_ok-codes.ensures
    ∙ ap (λ (o : Option ℕ). c.part-2.new.self ++ differing_codes o c.char_behind-shown.result ∷ [])
    c.char_behind-sent.ensures
    ∙ ap (λ (o : Option ℕ). c.part-2.new.self ++ differing_codes x o ∷ [])
    c.char_behind-shown.ensures
    ∙ ap (λ (l : List Fact). l ++ third ∷ [])
    (c.in_ok-part-2.ensures.ok
    ∙ ap (λ p. c.part.new.self ++ part_line key p ∷ []) c.in_ok-other.ensures
    ∙ ap (λ (l : List Fact). l ++ second ∷ [])
    (c.in_ok-part.ensures.ok
    ∙ ap (λ p. c.place.new.self ++ part_line (codes "by-messages") p ∷ []) c.in_ok-held.ensures
    ∙ ap (λ (l : List Fact). l ++ first ∷ [])
    (c.in_ok-place.ensures ∙ ap (λ (l : List Fact). l ++ differs_at found.at ∷ [])
    (c.in_ok-encoding.ensures ∙ ap (λ (l : List Fact). l ++ counts_in c.args.encoding ∷ [])
    c.new-facts.ensures))))
    in
    let is = c.in-Some.ensures in (
      λ same. is.at.1.here (ap (λ (l : List ℕ). slice_get l is.at.0) same),
      subst (AreOfDifference c.args.encoding a b key) (sym all)
          (are_apart c.args.encoding a b key found.at held other x y is.at
          (part_there a b a _ _ is.held is.held_front)
          (part_there a b b _ _ is.other is.other_front)
          (char_there a b a _ _ is.held is.held_front)
          (char_there a b b _ _ is.other is.other_front)),
    )
