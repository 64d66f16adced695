use Rattle.std.proofs.Common.{◌≡◌, ◌+◌, List, ℕ, length, map, refl, sym, ap, subst, ◌∙◌, arith}
use Rattle.std.proofs.lemmas.List.{length-map}
use Rattle.lsp_types.specs.declared.position.Encoding.TheVariants.{Utf8}
use Rattle.lsp_lined.specs.Sums.{sums_of}
use Rattle.lsp_lined.specs.Parts.{joined, AreParts, IsFound, IsFoundBefore, IsReplacedIn}
use Rattle.lsp_lined.specs.declared.sums.Measure.TheVariants.{Units}
use Rattle.lsp_lined.proofs.Recuts.{AreFound, first_cut, second_cut, cut_fits, cut_order, cut_done}
use Rattle.lsp_lined.proofs.Recuts.{map-splice}
use Rattle.lsp_lined.proofs.PartEdits.{part_of_found}
use Rattle.lsp_lined.proofs.part.rebuild.Given.{Over}
use Rattle.lsp_lined.proofs.part.rebuild.Goals as goal
use Rattle.lsp_lined.proofs.part.rebuild.Goals.{After-index-2, After-deref-3}

-- the texts of the parts before the edit
abbrev texts : (g : Over) → After-index-2 g → List (List ℕ)
texts g c = map g.T.Part.text c.args.parts.now.items

found : (g : Over) (c : After-index-2 g) → AreFound (texts g c) (texts g c) c.args.from c.args.to
    c.find_before-a.result c.find-b.result (g.T.Part.text c.index.result.now)
    (g.T.Part.text c.index-2.result.now)
found g c =
    let f = g.T.Part.text in
    let xs = c.args.parts.now.items in
    let a = c.find_before-a.result in
    let b = c.find-b.result in
    let before : IsFoundBefore (map f xs) c.args.from a =
    subst (λ ds. IsFoundBefore (map f ds) c.args.from a) c.deref.ensures.value
    c.find_before-a.ensures in
    let at : IsFound (map f xs) (Units Utf8) c.args.to b =
    subst (λ ds. IsFound (map f ds) (Units Utf8) c.args.to b) c.deref-2.ensures.value
    c.find-b.ensures in
    record {
      before = before;
      found = at;
      first = part_of_found f xs a.index c.index.result.now before.index c.index.ensures;
      second = part_of_found f xs b.index c.index-2.result.now at.index c.index-2.ensures;
    }

pub between-requires-clause-from : goal.between-requires-clause-from
between-requires-clause-from g c =
    let at = (goal.at.between-requires-clause-from g c).After-index-2 in
    first_cut (texts g at) (texts g at) c.args.from c.args.to c.find_before-a.result
    c.find-b.result _ _ (found g at) c.requires.can.first

pub between-requires-clause-to : goal.between-requires-clause-to
between-requires-clause-to g c =
    let at = (goal.at.between-requires-clause-to g c).After-index-2 in
    second_cut (texts g at) (texts g at) c.args.from c.args.to c.find_before-a.result
    c.find-b.result _ _ (found g at) c.requires.parts c.requires.can.second

pub between-requires-clause-fits : goal.between-requires-clause-fits
between-requires-clause-fits g c =
    let at = (goal.at.between-requires-clause-fits g c).After-index-2 in
    cut_fits (texts g at) (texts g at) c.args.text.now c.args.from c.args.to
    c.find_before-a.result c.find-b.result _ _ (found g at) c.requires.can.second.0
    c.requires.new_fits

pub put-requires-clause-order : goal.put-requires-clause-order
put-requires-clause-order g c =
    let at = (goal.at.put-requires-clause-order g c).After-index-2 in
    omega (
      arith,
      cut_order (texts g at) c.args.from c.args.to c.find_before-a.result c.find-b.result _ _
          (found g at) c.requires.can.order c.requires.can.second.0,
    )

pub put-requires-clause-within : goal.put-requires-clause-within
put-requires-clause-within g c =
    let at = (goal.at.put-requires-clause-within g c).After-index-2 in
    omega (
      arith,
      (found g at).found.index,
      length-map c.args.parts.now.items g.T.Part.text,
    )

-- the texts after it
abbrev new_texts : (g : Over) → After-deref-3 g → List (List ℕ)
new_texts g c = map g.T.Part.text c.put.new.parts.items

replaced : (g : Over) (c : After-deref-3 g) (at : After-index-2 g)
    → AreFound (map g.T.Part.text c.args.parts.now.items)
    (map g.T.Part.text c.args.parts.now.items) c.args.from c.args.to c.find_before-a.result
    c.find-b.result (g.T.Part.text c.index.result.now) (g.T.Part.text c.index-2.result.now)
    → IsReplacedIn (map g.T.Part.text c.args.parts.now.items) c.args.from c.args.to
    c.args.text.now (new_texts g c) (sums_of (joined (new_texts g c)))
replaced g c at h =
    let f = g.T.Part.text in
    let xs = c.args.parts.now.items in
    let ys = c.in_ok-fresh.fresh.items in
    let i = c.find_before-a.result.index in
    let j = c.find-b.result.index + 1 in
    cut_done (map f xs) (map f ys) (new_texts g c) c.args.text.now c.args.from c.args.to _
    c.find_before-a.result c.find-b.result _ _ h c.requires.parts c.requires.can.second.0
    c.in_ok-fresh.ensures (ap (map f) c.in_ok-put.ensures.ok ∙ map-splice f xs ys i j) refl

pub sums_in-requires-clause-parts : goal.sums_in-requires-clause-parts
sums_in-requires-clause-parts g c =
    let at = goal.at.sums_in-requires-clause-parts g c in
    let r = replaced g at.After-deref-3 at.After-index-2 (found g at.After-index-2) in
    subst (λ xs. AreParts (map g.T.Part.text xs)) (sym c.deref-3.ensures.value) r.parts

pub sums_in-requires-clause-fits : goal.sums_in-requires-clause-fits
sums_in-requires-clause-fits g c =
    let at = goal.at.sums_in-requires-clause-fits g c in
    let r = replaced g at.After-deref-3 at.After-index-2 (found g at.After-index-2) in
    omega (
      arith,
      c.requires.new_fits,
      ap length r.text_is,
      ap (λ xs. length (joined (map g.T.Part.text xs))) c.deref-3.ensures.value,
    )

pub returns-clause-ok : goal.returns-clause-ok
returns-clause-ok g c =
    let at = goal.at.returns-clause-ok g c in
    let f = g.T.Part.text in
    let is : c.sums_in.result ≡ sums_of (joined (map f c.put.new.parts.items)) =
    c.sums_in.ensures
    ∙ ap (λ xs. sums_of (joined (map f xs))) c.deref-3.ensures.value in
    subst (λ s. IsReplacedIn (map f c.args.parts.now.items) c.args.from c.args.to c.args.text.now
    (map f c.put.new.parts.items) s) (sym is)
    (replaced g at.After-deref-3 at.After-index-2 (found g at.After-index-2))
