use Rattle.std.proofs.Common.{◌≡◌, ◌∙◌, sym, ap, None}
use Rattle.lsp_frame.specs.Decoder.{State}
use Rattle.lsp_frame.proofs.Steps.{push_stands_ok, push_room_ok}
use Rattle.lsp_frame.proofs.Pulls.{not_some, none_between, owned, fits_stands}
use Rattle.lsp_frame.proofs.decoder.Decoder.push_owned.Goals as goal

pub returns-then-is_some-clause-stands : goal.returns-then-is_some-clause-stands
returns-then-is_some-clause-stands c =
    rw c.as_slice.ensures.value at (push_stands_ok c.append.result c.args.self.now c.append.new.self c.as_slice.result.now c.append.ensures.ok)

pub returns-then-is_some-clause-held : goal.returns-then-is_some-clause-held
returns-then-is_some-clause-held c =
    rw c.as_slice.ensures.value at (push_room_ok c.append.result c.args.self.now c.append.new.self c.as_slice.result.now c.append.ensures.ok)

pub returns-clause-stands : goal.returns-clause-stands
returns-clause-stands c =
    let first = c.self.inside in
    let i = c.self-2.inside in
    let idle = none_between first.limits first.buffer.items first.start first.end first.fault c.args.self.now c.self.view_is c.if-self.false in
    let none : i.fault ≡ None = ap (λ (s : State). s.fault) (c.self-2.view_is ∙ sym c.self.view_is) ∙ not_some first.fault (sym c.is_some.ensures ∙ c.if-is_some.false) in
    let fits = owned i.limits i.buffer.items c.args.piece.items i.start i.end c.len-self-inside.result i.fault c.args.self.now c.self-2.view_is none idle (c.len-self-inside.ensures ∙ c.args.piece.ok.0) in
    λ bytes contents. fits_stands _ c.args.self.now c.args.piece.items bytes contents fits
