use Rattle.lsp_trail.specs.Common.{calls, kept_of, terms_in}
use Rattle.lsp_origins.proofs.unopened.is_standing.Goals as goal

pub returns : goal.returns
returns c = λ before stands.
    let terms = terms_in c.args.past in
    c.stands_open.ensures terms before (calls (kept_of terms before)) stands.holds.called
    stands.trail.opened
