use Rattle.std.proofs.Common.{◌≡◌, ◌≤◌, ◌^◌, ◌<◌, length, arith, subst}
use Rattle.std.specs.Prelude.{decimal}
use Rattle.std.proofs.lemmas.Fmt.{length-decimal-le}
use Rattle.lsp_frame.specs.Sink.{Writes}
use Rattle.lsp_frame.proofs.Writing.{header_is}
use Rattle.lsp_frame.proofs.write.write_header.Goals as goal

pub write_digits-digits-requires : goal.write_digits-digits-requires
write_digits-digits-requires g c =
    let fits = c.requires in
    let small : c.args.len < 2 ^ 64 = omega (arith, fits) in
    let short : length (decimal c.args.len) ≤ 8 =
    length-decimal-le 8 c.args.len (omega arith) (omega (arith, fits)) small in
    (omega (arith, short), omega arith)

pub fill_bytes-start-requires : goal.fill_bytes-start-requires
fill_bytes-start-requires g c =
    let fits = c.requires in
    let small : c.args.len < 2 ^ 64 = omega (arith, fits) in
    let short : length (decimal c.args.len) ≤ 8 =
    length-decimal-le 8 c.args.len (omega arith) (omega (arith, fits)) small in
    let digits = c.write_digits-digits in
    let start = digits.ensures.start in
    let len = digits.auto.buf in
    (omega (arith, short, start), omega (arith, start, len))

pub returns : goal.returns
returns g c =
    let digits = c.write_digits-digits in
    let start = c.fill_bytes-start in
    let second : length start.new.line ≡ 28 = omega (arith, start.auto.line, digits.auto.buf) in
    let whole = header_is c.args.len digits.result start.result digits.new.buf start.new.line
    second digits.ensures.written start.ensures.written in
    subst (Writes (g.W.Sink.told c.args.writer.now) (g.W.Sink.told c.put_all.new.writer)
    c.put_all.result) whole c.put_all.ensures
