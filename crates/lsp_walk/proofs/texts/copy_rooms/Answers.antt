use Rattle.std.proofs.Common.{◌≡◌, ◌++◌, take, subst, sym, arith}
use Rattle.lsp_walk.specs.Texts.{IsPart}
use Rattle.lsp_walk.proofs.Parts.{part_on}
use Rattle.lsp_walk.proofs.texts.copy_rooms.Goals as goal

pub returns-then-next-at-clause-part : goal.returns-then-next-at-clause-part
returns-then-next-at-clause-part c = λ start part.
    let d = c.args.bytes.now in
    let l = c.rooms in
    let read = c.in_ok-next in
    let text = take read.end c.write_blocks.new.room in
    let behind : c.extend.new.copy.items ≡ l.copy.items ++ text = grind arith in
    subst (IsPart d start read.next) (sym behind)
    (part_on d start l.at read.next l.copy.items text (l.invariant.0 start part) read.ensures.part)

pub rooms-preserved : goal.rooms-preserved
rooms-preserved c =
    let d = c.args.bytes.now in
    let l = c.rooms in
    let read = c.in_ok-next in
    let text = take read.end c.write_blocks.new.room in
    let behind : c.extend.new.copy.items ≡ l.copy.items ++ text = grind arith in (
      λ start part. subst (IsPart d start read.next) (sym behind)
          (part_on d start l.at read.next l.copy.items text (l.invariant.0 start part)
          read.ensures.part),
      omega (arith, read.ensures.part.run.forward),
      read.ensures.part.run.within,
    )
