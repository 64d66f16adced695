use Rattle.std.proofs.Common.{sym}
use Rattle.lsp_facts.proofs.TextEnds.{ends_behind, not_behind}
use Rattle.lsp_facts.proofs.json_text.more_of_text.Goals as goal

pub returns-in_default-2 : goal.returns-in_default-2
returns-in_default-2 c = record {
  more = sym (not_behind c.args.content.now c.args.behind.now c.walk_over.new.opened.items
      c.in_ok-place.field-0 (rw c.new-opened.ensures.items at c.in_ok-place.ensures.ends)
      c.in-GoesOn.place c.in-GoesOn.is c.walk_over-2.new.opened.items c.in_ok-more.field-0
      c.in_ok-more.ensures.ends c.in_default-2.not-Ends);
  within = tt;
}

pub returns-clause-more : goal.returns-clause-more
returns-clause-more c =
    sym (ends_behind c.args.content.now c.args.behind.now c.walk_over.new.opened.items
    c.in_ok-place.field-0 (rw c.new-opened.ensures.items at c.in_ok-place.ensures.ends)
    c.in-GoesOn.place c.in-GoesOn.is c.walk_over-2.new.opened.items c.in_ok-more.field-0
    c.in_ok-more.ensures.ends c.in-Ends.more c.in-Ends.is
    (rw c.in-Ends.is at c.in_ok-more.ensures.some))
