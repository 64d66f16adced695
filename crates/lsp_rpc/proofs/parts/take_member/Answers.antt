use Rattle.std.proofs.Common.{option_map, sym, ap, ◌∙◌}
use Rattle.std.proofs.lemmas.Map.Text.{btree_map_updates_text}
use Rattle.serde_json.specs.View.{view}
use Rattle.serde_json.proofs.Views.{view-lookup}
use Rattle.lsp_rpc.proofs.parts.take_member.Goals as goal

pub returns-clause-taken : goal.returns-clause-taken
returns-clause-taken c = ap (option_map view) c.remove.ensures.value ∙ view-lookup c.args.name.now _

pub returns-clause-others : goal.returns-clause-others
returns-clause-others c = λ other differs.
    let kept = rw differs at (btree_map_updates_text c.args.name.now c.args.members.now c.remove.new.self _ c.remove.ensures.updates other) in
    sym (view-lookup other _) ∙ ap (option_map view) kept ∙ view-lookup other _
