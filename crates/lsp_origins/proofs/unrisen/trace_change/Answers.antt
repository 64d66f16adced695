use mir.Syntax.{w32}
use Rattle.std.proofs.Common.{◌++◌, ◌∙◌, ap}
use Rattle.std.proofs.lemmas.Int.{to_z-of_z}
use Rattle.std.proofs.lemmas.Result.{on_ok_weaker}
use Rattle.lsp_trail.specs.Common.{edits_of, last_change, terms_in}
use Rattle.lsp_origins.specs.Traced.{unrisen_facts}
use Rattle.lsp_origins.proofs.unrisen.trace_change.Goals as goal

pub returns : goal.returns
returns c = on_ok_weaker c.push_unrisen.result (λ says before stands.
    let terms = terms_in c.args.past in
    says terms before stands.trail.changed
    ∙ ap (λ number. c.args.facts.now ++ unrisen_facts number (edits_of c.args.changes.now)
    (last_change terms before) c.as_slice.result.now)
    (to_z-of_z w32 c.args.version c.ranges.version)
    ∙ ap (λ done. c.args.facts.now ++ unrisen_facts c.args.version (edits_of c.args.changes.now)
    (last_change terms before) done)
    (c.as_slice.ensures.value ∙ c.in_ok-setters.ensures terms before stands.trail.marked))
    c.push_unrisen.ensures
