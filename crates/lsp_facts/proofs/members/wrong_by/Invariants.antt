use Rattle.std.proofs.Common.{◌≡◌, drop, map, option_map}
use Rattle.serde_json.specs.View.{view}
use Rattle.lsp_facts.specs.Members.{part_view, wrong_by}
use Rattle.lsp_facts.proofs.members.wrong_by.Given as goal

abbrev pub invariant-loop-part : goal.invariant-loop-part
invariant-loop-part l =
    let params = option_map (λ v. view v.now) l.params in
    wrong_by (map part_view l.parts) l.method params
    ≡ wrong_by (map part_view (drop l.part-index l.parts)) l.method params
