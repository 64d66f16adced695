use Rattle.lsp_facts.proofs.EndLists.{both_cut, feed_cut, none_cut, return_cut}
use Rattle.lsp_facts.proofs.ends.without_last.Goals as goal

pub returns-in-Some : goal.returns-in-Some
returns-in-Some c =
    both_cut c.args.text.now c.utf8.text c.in-Some.front.now c.in-Some.ensures

pub returns-in-Some-before : goal.returns-in-Some-before
returns-in-Some-before c =
    feed_cut c.args.text.now c.utf8.text c.in_default.ensures c.in-Some-before.front.now
    c.in-Some-before.ensures

pub returns-in-Some-before-2 : goal.returns-in-Some-before-2
returns-in-Some-before-2 c =
    return_cut c.args.text.now c.utf8.text c.in-Some-before-2.front.now c.in-Some-before-2.ensures

pub returns : goal.returns
returns c =
    none_cut c.args.text.now c.utf8.text c.in_default.ensures c.in_default-before.ensures
    c.in_default-before-2.ensures
