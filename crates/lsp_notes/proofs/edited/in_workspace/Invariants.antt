use Rattle.std.specs.Prelude.{map}
use Rattle.std.proofs.Common.{◌≡◌, ◌++◌, List, length}
use Rattle.serde_json.specs.View.{view}
use Rattle.lsp_trail.specs.Common.{Call, Stands}
use Rattle.lsp_notes.specs.ServerEdits.{edited_in, edited_view, open_uris}
use Rattle.lsp_notes.proofs.edited.in_workspace.Given as goal

abbrev pub invariant-loop-uri : goal.invariant-loop-uri
invariant-loop-uri l = (made : List Call) → Stands l.docs made
    → edited_in (open_uris l.docs.terms made) l.since (view l.edit)
    ≡ map edited_view l.found.items ++ edited_in l.uris l.since (view l.edit)

abbrev pub decreases-loop-uri : goal.decreases-loop-uri
decreases-loop-uri l = length l.uris
