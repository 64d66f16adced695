use Rattle.std.proofs.Common.{◌≡◌, ◌++◌, option_map, drop}
use Rattle.serde_json.specs.View.{items_view}
use Rattle.serde_json.specs.Find.{as_str}
use Rattle.lsp_rpc.specs.Params.{all_of, required}
use Rattle.lsp_trail.specs.Openings.{names_view}
use Rattle.lsp_trail.proofs.renames.each_uri.Given as goal

abbrev pub invariant-loop-file : goal.invariant-loop-file
invariant-loop-file l =
    all_of (required l.name as_str) (items_view l.files)
    ≡ option_map (λ rest. names_view l.uris.items ++ rest)
    (all_of (required l.name as_str) (items_view (drop l.file-index l.files)))
