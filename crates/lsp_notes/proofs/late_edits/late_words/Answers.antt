use Rattle.std.specs.List.{flat_map}
use Rattle.std.specs.Prelude.{codes}
use Rattle.std.proofs.Common.{◌++◌, ◌∙◌, ap, append_assoc, sym}
use Rattle.std.proofs.lemmas.List.Concat.{flat_map-append}
use Rattle.lsp_facts.specs.Fact.{place_words, spaced}
use Rattle.lsp_notes.proofs.late_edits.late_words.Goals as goal

pub returns : goal.returns
returns c =
    let head = codes "note late-edits" in
    let asked = flat_map spaced (place_words c.args.answer.now.asked) in
    let answered = flat_map spaced (place_words c.args.answer.now.answered) in
    c.in_ok-push_place-2.ensures
    ∙ ap (λ w. w ++ answered) (c.in_ok-push_place.ensures
    ∙ ap (λ w. w ++ asked) c.in_ok-words.ensures.ok)
    ∙ append_assoc head asked answered
    ∙ ap (λ w. head ++ w) (sym (flat_map-append spaced (place_words c.args.answer.now.asked)
    (place_words c.args.answer.now.answered)))
