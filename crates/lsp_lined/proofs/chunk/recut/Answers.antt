use Rattle.std.proofs.Common.{◌≡◌, ◌+◌, ◌++◌, map, take, drop, sym, ap, ◌∙◌}
use Rattle.std.specs.List.{drop-map}
use Rattle.std.proofs.lemmas.List.{map-append, take-map, take_rest}
use Rattle.lsp_lined.proofs.Recuts.{AreFound, first_cut, second_cut, cut_fits, cut_between}
use Rattle.lsp_lined.proofs.PartEdits.{part_of_found}
use Rattle.lsp_lined.proofs.chunk.recut.Given.{Over}
use Rattle.lsp_lined.proofs.chunk.recut.Goals as goal
use Rattle.lsp_lined.proofs.chunk.recut.Goals.{After-index-tail-b}

found : (g : Over) (c : After-index-tail-b g) → AreFound (map g.T.Part.text c.args.head.now)
    (map g.T.Part.text c.args.tail.now) c.args.from c.args.to c.find_before-a.result
    c.find-b.result (g.T.Part.text c.index-head-a.result) (g.T.Part.text c.index-tail-b.result)
found g c =
    let f = g.T.Part.text in
    let a = c.find_before-a in
    let b = c.find-b in
    record {
      before = a.ensures;
      found = b.ensures;
      first =
          part_of_found f c.args.head.now a.result.index c.index-head-a.result a.ensures.index
          c.index-head-a.is;
      second =
          part_of_found f c.args.tail.now b.result.index c.index-tail-b.result b.ensures.index
          c.index-tail-b.is;
    }

pub between-requires-clause-from : goal.between-requires-clause-from
between-requires-clause-from g c =
    let at = (goal.at.between-requires-clause-from g c).After-index-tail-b in
    first_cut (map g.T.Part.text c.args.head.now) (map g.T.Part.text c.args.tail.now) c.args.from
    c.args.to c.find_before-a.result c.find-b.result _ _ (found g at) c.requires.from

pub between-requires-clause-to : goal.between-requires-clause-to
between-requires-clause-to g c =
    let at = (goal.at.between-requires-clause-to g c).After-index-tail-b in
    second_cut (map g.T.Part.text c.args.head.now) (map g.T.Part.text c.args.tail.now) c.args.from
    c.args.to c.find_before-a.result c.find-b.result _ _ (found g at) c.requires.tail.parts
    c.requires.to

pub between-requires-clause-fits : goal.between-requires-clause-fits
between-requires-clause-fits g c =
    let at = (goal.at.between-requires-clause-fits g c).After-index-tail-b in
    cut_fits (map g.T.Part.text c.args.head.now) (map g.T.Part.text c.args.tail.now)
    c.args.text.now c.args.from c.args.to c.find_before-a.result c.find-b.result _ _ (found g at)
    c.requires.to.0 c.requires.fits

pub returns : goal.returns
returns g c =
    let at = (goal.at.returns g c).After-index-tail-b in
    let f = g.T.Part.text in
    let head = c.args.head.now in
    let tail = c.args.tail.now in
    let a = c.find_before-a.result in
    let b = c.find-b.result in
    let middle = c.in_ok-middle.middle.items in
    let one : c.share_into.new.to.items ≡ take a.index head =
    c.in_ok-share_into.ensures ∙ ap (λ xs. xs ++ take a.index head) c.new-parts.ensures.items in
    let two : c.append.new.self.items ≡ take a.index head ++ middle =
    c.in_ok-append.ensures.items ∙ ap (λ xs. xs ++ middle) one in
    let three : c.share_into-2.new.to.items
    ≡ (take a.index head ++ middle) ++ drop (b.index + 1) tail =
    c.in_ok-share_into-2.ensures
    ∙ ap (λ xs. c.append.new.self.items ++ xs) (take_rest tail (b.index + 1))
    ∙ ap (λ xs. xs ++ drop (b.index + 1) tail) two in
    let texts : map f c.share_into-2.new.to.items
    ≡ (take a.index (map f head) ++ map f middle) ++ drop (b.index + 1) (map f tail) =
    ap (map f) three
    ∙ map-append f (take a.index head ++ middle) (drop (b.index + 1) tail)
    ∙ ap (λ xs. xs ++ map f (drop (b.index + 1) tail))
    (map-append f (take a.index head) middle
    ∙ ap (λ xs. xs ++ map f middle) (sym (take-map f a.index head)))
    ∙ ap (λ xs. (take a.index (map f head) ++ map f middle) ++ xs)
    (sym (drop-map f (b.index + 1) tail)) in
    cut_between (map f head) (map f tail) (map f middle) (map f c.share_into-2.new.to.items)
    c.args.text.now c.args.from c.args.to a b _ _ (found g at) c.requires.head.parts
    c.requires.tail.parts c.requires.to.0 c.in_ok-middle.ensures texts
