use Rattle.std.proofs.Common.{◌≡◌, ℕ, ◌+◌, ◌-◌, ap, arith, length, subst}
use Rattle.std.proofs.lemmas.List.{length-append}
use Rattle.lsp_frame.specs.Header.{line}
use Rattle.lsp_frame.specs.Reading.{usual_type}
use Rattle.lsp_frame.specs.Start.{StartsWithHeader}
use Rattle.lsp_frame.proofs.TypedHeaders.{typed_starts}
use Rattle.lsp_frame.proofs.start.typed_size.Goals as goal

pub returns : goal.returns
returns c =
    let limits = c.args.limits.now in
    let bytes = c.args.bytes.now in
    let rest = c.in_ok-rest.rest.now in
    let size = c.in_ok-size.size in
    let whole = c.in_ok-rest.ensures in
    let len : 57 + size.header ≡ length bytes - length rest + size.header =
    omega (arith, ap length whole, length-append (line usual_type) rest) in
    subst (λ (n : ℕ).
    StartsWithHeader limits bytes (record { header = n; content = size.content })) len
    (typed_starts limits bytes rest size whole c.requires.near c.in_ok-size.ensures)
