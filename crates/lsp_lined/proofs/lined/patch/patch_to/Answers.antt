use Rattle.std.proofs.Common.{◌-◌, length, ap, refl}
use Rattle.lsp_lined.specs.declared.sums.Sums.{Sums}
use Rattle.lsp_lined.specs.declared.walk.Front.{Front}
use Rattle.lsp_lined.proofs.Patches.{begun, ends_out, begun_boundary}
use Rattle.lsp_lined.proofs.Walks.{left_in_order, whole_span}
use Rattle.lsp_lined.proofs.lined.patch.patch_to.Goals as goal

pub walk-requires-clause-order : goal.walk-requires-clause-order
walk-requires-clause-order g c = left_in_order (λ (a : Front). a.rest.now)

pub walk-requires-clause-span : goal.walk-requires-clause-span
walk-requires-clause-span g c =
    whole_span (g.T.Part.text c.args.part.now) c.sums-len.result.bytes c.sums-len.ensures.utf8
    c.requires (ap (λ (s : Sums). s.bytes) c.sums-len.ensures.sums)

pub same_back-back-requires : goal.same_back-back-requires
same_back-back-requires g c =
    let bs = g.T.Part.text c.args.part.now in
    begun_boundary bs c.args.text.now c.walk.new.visitor.rest.now c.sums-len.ensures.utf8
    c.utf8.text
    (begun bs c.args.text.now c.walk.new.visitor.rest.now c.sums-len.result.bytes c.walk.result
    c.sums-len.ensures.utf8 c.utf8.text
    (ap (λ (s : Sums). s.bytes) c.sums-len.ensures.sums) c.walk.ensures.ok c.walk.ensures.err)

pub returns : goal.returns
returns g c =
    let bs = g.T.Part.text c.args.part.now in
    let size = ap (λ (s : Sums). s.bytes) c.sums-len.ensures.sums in
    ends_out bs c.args.text.now c.walk.new.visitor.rest.now c.split_at.result.0.now
    c.sums-len.result.bytes (length c.args.text.now - length c.walk.new.visitor.rest.now)
    c.same_back-back.result _ c.sums-len.ensures.utf8 c.utf8.text size
    (begun bs c.args.text.now c.walk.new.visitor.rest.now c.sums-len.result.bytes c.walk.result
    c.sums-len.ensures.utf8 c.utf8.text size c.walk.ensures.ok c.walk.ensures.err)
    refl c.same_back-back.ensures.same c.same_back-back.ensures.within c.split_at.ensures.front
    refl refl refl
