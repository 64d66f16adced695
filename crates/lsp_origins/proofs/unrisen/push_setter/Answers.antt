use mir.Syntax.{w32}
use Rattle.std.specs.Prelude.{if◌then◌else◌}
use Rattle.std.proofs.Common.{◌++◌, ◌∙◌, Bool, ap, sym}
use Rattle.std.proofs.lemmas.Int.{to_z-of_z}
use Rattle.std.proofs.lemmas.Result.{on_ok_weaker}
use Rattle.lsp_trail.specs.Common.{edits_of, is_set_to, last_change}
use Rattle.lsp_origins.specs.Traced.{precedes_facts, same_facts}
use Rattle.lsp_origins.proofs.unrisen.push_setter.Goals as goal

pub returns : goal.returns
returns c = on_ok_weaker c.push_precedes.result (λ said terms before are.
    let old = c.args.facts.now in
    let setter = c.args.setter in
    let earlier = c.args.earlier in
    said
    ∙ ap (λ number. old ++ precedes_facts number earlier setter)
    (to_z-of_z w32 c.args.version c.ranges.version)
    ∙ ap (λ (b : Bool). old ++ (if b
    then same_facts setter.place (edits_of c.args.changes.now) (last_change terms before)
    else precedes_facts c.args.version earlier setter)) (sym c.if-is_set_to.false ∙ c.is_set_to.ensures)
    ∙ ap (λ number. old ++ (if is_set_to number setter
    then same_facts setter.place (edits_of c.args.changes.now) (last_change terms before)
    else precedes_facts c.args.version earlier setter))
    (to_z-of_z w32 c.args.version c.ranges.version)) c.push_precedes.ensures
