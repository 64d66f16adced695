use Rattle.std.proofs.Common.{refl, subst, List, ℕ}
use Rattle.lsp_frame.specs.Frame.{Breaks}
use Rattle.lsp_frame.specs.Start.{StartsUnfinished, StartsWithHeader}
use Rattle.lsp_frame.proofs.Steps.{rest_slice}
use Rattle.lsp_frame.proofs.decoder.Decoder.read_ahead.Goals as goal

pub invariant_of-self : goal.invariant_of-self
invariant_of-self c =
    let i = c.self.inside in
    let rest = rest_slice c.deref.result.now i.buffer.items i.start i.end c.deref.ensures.value in
    (c.self.invariant.0, c.self.invariant.1, subst (λ (w : List ℕ). StartsWithHeader i.limits w c.in-Header.size) rest c.in-Header.ensures, c.self.invariant.3)

pub returns-in-Header : goal.returns-in-Header
returns-in-Header c =
    let i = c.self.inside in
    let rest = rest_slice c.deref.result.now i.buffer.items i.start i.end c.deref.ensures.value in
    rw (← c.self.view_is) (refl, c.in_default.is, subst (λ (w : List ℕ). StartsWithHeader i.limits w c.in-Header.size) rest c.in-Header.ensures)

pub invariant_of-self-in-Fault : goal.invariant_of-self-in-Fault
invariant_of-self-in-Fault c =
    let i = c.self.inside in
    let rest = rest_slice c.deref.result.now i.buffer.items i.start i.end c.deref.ensures.value in
    (c.self.invariant.0, c.self.invariant.1, c.self.invariant.2, subst (λ (w : List ℕ). Breaks i.limits w c.in-Fault.rule) rest c.in-Fault.ensures)

pub returns-in-Fault : goal.returns-in-Fault
returns-in-Fault c =
    let i = c.self.inside in
    let rest = rest_slice c.deref.result.now i.buffer.items i.start i.end c.deref.ensures.value in
    rw (← c.self.view_is) (record { breaks = subst (λ (w : List ℕ). Breaks i.limits w c.in-Fault.rule) rest c.in-Fault.ensures; again = rw c.in_default.is tt; same = refl })

pub returns-in-Unfinished : goal.returns-in-Unfinished
returns-in-Unfinished c =
    let i = c.self.inside in
    let rest = rest_slice c.deref.result.now i.buffer.items i.start i.end c.deref.ensures.value in
    let starts = subst (λ (w : List ℕ). StartsUnfinished i.limits w) rest c.in-Unfinished.ensures.0 in
    rw (← c.self.view_is) (record { open_before = c.in_default.is; no_frame = starts.no_frame; no_fault = starts.no_fault; same = refl })
