use Rattle.std.proofs.Common.{◌≡◌, ◌∙◌, ◌-◌, ℕ, List, take, drop, ap, sym, subst}
use Rattle.lsp_frame.specs.Decoder.{State}
use Rattle.lsp_frame.specs.Front.{HoldsRest}
use Rattle.lsp_frame.proofs.Fronts.{holds_rest}
use Rattle.lsp_frame.proofs.Steps.{drop_take}
use Rattle.lsp_frame.proofs.decoder.Decoder.rest.Goals as goal

pub returns-clause-stands : goal.returns-clause-stands
returns-clause-stands c bytes contents stands =
    let i = c.self.inside in
    let held : c.args.self.now.rest ≡ take (i.end - i.start) (drop i.start c.deref.result.now) =
    ap (λ (s : State). s.rest) (sym c.self.view_is) ∙ sym (drop_take i.start i.end i.buffer.items) ∙ ap (λ (w : List ℕ). take (i.end - i.start) (drop i.start w)) (sym c.deref.ensures.value) in
    subst (HoldsRest c.args.self.now bytes contents) held (holds_rest c.args.self.now bytes contents stands)
