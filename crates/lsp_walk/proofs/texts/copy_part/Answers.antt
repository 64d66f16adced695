use Rattle.std.proofs.Common.{◌≡◌, ◌-◌, ◌++◌, take, drop, subst, sym, arith}
use Rattle.lsp_walk.specs.Texts.{IsPart}
use Rattle.lsp_walk.proofs.Parts.{part_on, run_part}
use Rattle.lsp_walk.proofs.texts.copy_part.Goals as goal

pub returns-clause-part : goal.returns-clause-part
returns-clause-part c = λ start part.
    let d = c.args.bytes.now in
    let at = c.in_ok-at.at in
    let stop = c.plain_end-stop.result in
    let before = c.copy_blocks.new.copy.items in
    let text = take (stop - at) (drop at d) in
    let behind : c.extend_from_slice.new.self.items ≡ before ++ text = grind arith in
    subst (IsPart d start stop) (sym behind)
    (part_on d start at stop before text (c.in_ok-at.ensures.part start part)
    (run_part d at stop (omega arith) c.plain_end-stop.ensures.value))
