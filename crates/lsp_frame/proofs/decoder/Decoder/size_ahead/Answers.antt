use Rattle.std.proofs.Common.{subst, List, ℕ}
use Rattle.lsp_frame.specs.Decoder.{State}
use Rattle.lsp_frame.specs.Start.{StartsAs, StartsWithHeader, StartsWithNone}
use Rattle.lsp_frame.proofs.Starts.{none_at}
use Rattle.lsp_frame.proofs.Steps.{rest_slice}
use Rattle.lsp_frame.proofs.decoder.Decoder.size_ahead.Goals as goal

pub returns-in-Header : goal.returns-in-Header
returns-in-Header c =
    let i = c.self.inside in
    let rest = rest_slice c.deref.result.now i.buffer.items i.start i.end c.deref.ensures.value in
    rw (← c.self.view_is) (subst (λ (w : List ℕ). StartsWithHeader i.limits w c.in-Header.size) rest c.in-Header.ensures)

pub returns-in-Fault : goal.returns-in-Fault
returns-in-Fault c =
    let i = c.self.inside in
    let rest = rest_slice c.deref.result.now i.buffer.items i.start i.end c.deref.ensures.value in
    let none = none_at i.limits _ c.start_of.result (subst (λ (w : List ℕ). StartsAs i.limits w c.start_of.result) rest c.start_of.ensures) c.in-Fault.is in
    subst (λ (s : State). StartsWithNone s.limits s.rest) c.self.view_is none
