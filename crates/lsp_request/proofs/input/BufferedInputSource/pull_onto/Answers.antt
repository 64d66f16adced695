use Rattle.std.proofs.Common.{◌≤◌, ap, arith, length}
use Rattle.std.specs.Io.Buffered.{reader_buffer}
use Rattle.lsp_frame.proofs.Telling.{given_ok}
use Rattle.lsp_request.proofs.Appended.{ahead_given}
use Rattle.lsp_request.proofs.input.BufferedInputSource.pull_onto.Goals as goal

pub returns-clause-gave : goal.returns-clause-gave
returns-clause-gave g c =
    let reader = c.args.self.now.reader.reader in
    let count = c.min-count.result in
    let after = c.extend_from_slice.new.self in
    let fits : count ≤ length (reader_buffer reader) =
    omega (arith, c.min-count.ensures, c.min.ensures, ap length c.ahead.ensures) in
    let within : count ≤ c.args.most = omega (arith, c.min-count.ensures, c.min.ensures) in
    let items = given_ok _ _ after.items _ _ c.unwrap.ensures c.extend_from_slice.ensures.items in
    ahead_given _ _ c.args.buffer.now.items after.items c.ahead-2.result.now
    (reader_buffer reader) c.args.most count within fits c.ahead-2.ensures items
    c.consume.ensures.bytes c.consume.ensures.raises
