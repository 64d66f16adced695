use Rattle.std.proofs.Common.{◌∙◌, Bool, ap, rules}
use Rattle.std.proofs.lemmas.List.Sorted.{answers_always}
use Rattle.lsp_notes.specs.AtOnce.{Splice, is_first, splice_view, splices_view}
use Rattle.lsp_notes.specs.declared.at_once.Splice as code
use Rattle.lsp_notes.proofs.AtOnceSteps.{splices_ordered}
use Rattle.lsp_notes.proofs.Sorting.{sorted_is, sorted_view}
use Rattle.lsp_notes.proofs.at_once.put_in_order.Goals as goal

pub returns : goal.returns
returns c =
    let before : code.Splice → code.Splice → Bool = λ a b. is_first a.at b.at in
    let compares = answers_always _ _ _ (λ f a r next called. search rules) in
    ap splices_view (sorted_is before splices_ordered c.args.splices.now.items
    c.sort_by.new.self.items (c.in_ok-sort_by.ensures.sorted before splices_ordered compares)
    (c.sort_by.ensures.stable before splices_ordered compares))
    ∙ sorted_view splice_view (λ (a b : Splice). is_first a.at b.at) c.args.splices.now.items
