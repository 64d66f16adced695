use Rattle.std.proofs.Common.{◌∙◌, ap}
use Rattle.std.proofs.lemmas.Result.{IfOk-weaker}
use Rattle.lsp_trail.specs.Marking.{recent, steps}
use Rattle.lsp_notes.specs.ServerEdits.{calls_with}
use Rattle.lsp_notes.specs.TextsSince.{texts_since}
use Rattle.lsp_notes.proofs.server_edits.texts_of.Goals as goal

pub returns : goal.returns
returns c = IfOk-weaker c.texts_since.result _ _
    (λ texts is terms before event now.
    let made = calls_with terms before event in
    let setters = c.as_slice.ensures.value
    ∙ c.in_ok-setters.ensures terms before now.trail.marked
    ∙ ap (λ u. recent (steps terms u before)) c.as_str-uri.ensures.value in
    is made now.stands
    ∙ (λ i. texts_since (now.by i) (c.as_str-uri.ensures.value i) made (setters i)
    c.args.edited.now.since)) c.texts_since.ensures
