use Rattle.std.specs.Prelude.{if◌then◌else◌}
use Rattle.std.proofs.Common.{Bool, None, ◌∙◌, ap}
use Rattle.lsp_notes.specs.AllNotes.{is_shutdown_refused}
use Rattle.lsp_trail.specs.Trails.{terms_in}
use Rattle.lsp_notes.proofs.along.NotesAlong.exit.Goals as goal

pub returns : goal.returns
returns c = λ before heard stands are.
    let kept = c.args.past.trail.now.said.notes.abrupt_exit in
    c.unless.ensures
    ∙ ap (λ (b : Bool). if b then None else kept) are.refused
    ∙ ap (λ o. if is_shutdown_refused (terms_in c.args.past) heard then None else o)
    stands.trail.said.notes_are.abrupt_is
