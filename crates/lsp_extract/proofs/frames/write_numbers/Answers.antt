use Rattle.std.specs.Prelude.{length}
use Rattle.std.proofs.Common.{◌≡◌, ◌-◌, subst, arith}
use Rattle.std.proofs.lemmas.List.{length-set}
use Rattle.lsp_frame.specs.Sink.{Writes}
use Rattle.lsp_extract.proofs.Framing.Lines.{line_is}
use Rattle.lsp_extract.proofs.frames.write_numbers.Goals as goal

pub returns : goal.returns
returns g c =
    let size = c.fill_number-size in
    let start = c.fill_number-start in
    let third : length start.new.line ≡ 42 =
    omega (
      arith,
      start.auto.line,
      size.auto.line,
      length-set size.new.line (size.result - 1) 32,
    ) in
    let first : length size.new.line ≡ 42 = omega (arith, size.auto.line) in
    let whole = line_is c.args.frame c.args.len c.args.end size.result start.result size.new.line
    start.new.line (omega (arith, size.ensures.start.0))
    (omega (arith, size.ensures.start.1, first)) third size.ensures.written
    start.ensures.written in
    subst (Writes (g.W.Sink.told c.args.writer.now) (g.W.Sink.told c.put_all.new.writer)
    c.put_all.result) whole c.put_all.ensures
