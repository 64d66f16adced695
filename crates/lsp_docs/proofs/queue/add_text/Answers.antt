use Rattle.std.proofs.Common.{◌∙◌, ap, sym, subst, w32, ◌++◌, ◌∷◌, []}
use Rattle.std.proofs.lemmas.Int.{to_z-of_z}
use mir.Val.{SFits}
use Rattle.std.proofs.lemmas.Result.{on_ok_weaker, on_err_weaker}
use Rattle.lsp_docs.specs.Documents.{versioned}
use Rattle.lsp_docs.specs.State.{SameOrder}
use Rattle.lsp_docs.specs.Stored.{text_of, versions_in}
use Rattle.lsp_docs.proofs.Due.{ordered-there, same-written}
use Rattle.lsp_docs.proofs.queue.add_text.Goals as goal

pub returns-clause-ok : goal.returns-clause-ok
returns-clause-ok c =
    let fits : SFits w32 c.args.version = c.ranges.version in
    let n = c.args.version in
    let es = c.args.texts.now.entries in
    let w = c.push.new.self in
    let at = simp to_z-of_z at c.in-Some.ensures.value in
    let put = simp to_z-of_z at (c.get_mut.follows.holds w).0 in
    on_ok_weaker c.push.result
    (λ more. subst (λ l. SameOrder (versions_in es ++ versioned n (text_of c.args.text) ∷ [])
    (versions_in l)) (sym put)
    (ordered-there n (text_of c.args.text) es c.in-Some.held.now w c.requires (sym at) more))
    c.push.ensures.ok

pub returns-clause-err : goal.returns-clause-err
returns-clause-err c =
    let fits : SFits w32 c.args.version = c.ranges.version in
    let es = c.args.texts.now.entries in
    let w = c.push.new.self in
    let at = simp to_z-of_z at c.in-Some.ensures.value in
    let put = simp to_z-of_z at (c.get_mut.follows.holds w).0 in
    on_err_weaker c.push.result
    (λ same. ap versions_in put
    ∙ same-written c.args.version es c.in-Some.held.now w (sym at) same) c.push.ensures.err
