use Rattle.std.proofs.Common.{◌≡◌, [], drop}
use Rattle.lsp_text.specs.Changes.{edits_of}
use Rattle.lsp_notes.specs.AtOnce.{splices_of, splices_view}
use Rattle.lsp_notes.proofs.AtOnceSteps.{found_all}
use Rattle.lsp_notes.proofs.at_once.splices_of.Given as goal

abbrev pub invariant-loop-edit : goal.invariant-loop-edit
invariant-loop-edit l =
    found_all (splices_view l.found.items)
    (splices_of l.encoding l.text.content (edits_of (drop l.edit-index l.edits)))
    ≡ found_all [] (splices_of l.encoding l.text.content (edits_of l.edits))
