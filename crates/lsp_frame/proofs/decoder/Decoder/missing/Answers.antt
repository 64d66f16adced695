use Rattle.std.proofs.Common.{◌≡◌, ◌-◌, length, arith, ap, sym, ◌∙◌, take}
use Rattle.std.proofs.lemmas.List.{length-drop, length-take}
use Rattle.lsp_frame.specs.Decoder.{State}
use Rattle.lsp_frame.proofs.Passing.{misses, no_header_misses, whole_misses}
use Rattle.lsp_frame.proofs.Pulls.{not_some}
use Rattle.lsp_frame.proofs.decoder.Decoder.missing.Goals as goal

pub returns-in_err-size : goal.returns-in_err-size
returns-in_err-size c = rw c.from_residual.ensures (no_header_misses c.args.self.now c.in_err-size.ensures)

pub returns-then-size-held : goal.returns-then-size-held
returns-then-size-held c =
    let i = c.self.inside in
    let len : length c.args.self.now.rest ≡ i.end - i.start = omega (arith, ap (λ (s : State). length s.rest) c.self.view_is, length-drop i.start (take i.end i.buffer.items), length-take i.end i.buffer.items, c.self.invariant.0, c.self.invariant.1, i.buffer.ok.0) in
    whole_misses c.args.self.now c.in_ok-size.size c.in_ok-size.ensures (omega (arith, len))

pub returns : goal.returns
returns c =
    let i = c.self.inside in
    let len : length c.args.self.now.rest ≡ i.end - i.start = omega (arith, ap (λ (s : State). length s.rest) c.self.view_is, length-drop i.start (take i.end i.buffer.items), length-take i.end i.buffer.items, c.self.invariant.0, c.self.invariant.1, i.buffer.ok.0) in
    let none = ap (λ (s : State). s.fault) (sym c.self.view_is) ∙ not_some i.fault (sym c.is_some.ensures ∙ c.if-is_some.false) in
    rw (← len) (misses c.args.self.now c.in_ok-size.size none c.in_ok-size.ensures (omega (arith, len)))
