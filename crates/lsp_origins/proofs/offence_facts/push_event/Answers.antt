use Rattle.std.proofs.Common.{◌∙◌, ◌++◌, ap, string_bytes}
use Rattle.std.proofs.lemmas.Result.{on_ok_weaker}
use Rattle.lsp_origins.proofs.SaidFacts.{bare_said, line_said}
use Rattle.lsp_origins.proofs.offence_facts.push_event.Goals as goal

pub returns-in-Some : goal.returns-in-Some
returns-in-Some c = rw (c.in-Content.is, c.in-Some.is) (on_ok_weaker c.push_message_event.result
    (λ said event kept reads speaks.
    said ∙ ap (λ w. string_bytes c.args.lines.now ++ w)
    (line_said kept _ c.in-Content.content.now event c.in-Some.spoken.now speaks.0
    c.args.offence.now.event c.args.offence.now.number c.args.offence.now.who reads speaks.1))
    (rw c.place_in-place.ensures at c.push_message_event.ensures))

pub returns-in-None : goal.returns-in-None
returns-in-None c = rw (c.in-Content.is, c.in-None.is) (on_ok_weaker c.push_content_event.result
    (λ said event kept reads speaks. said)
    (rw c.place_in-place.ensures at c.push_content_event.ensures))

pub returns-in_default : goal.returns-in_default
returns-in_default c = on_ok_weaker c.push_bare_event.result (λ said event kept reads speaks.
    said ∙ ap (λ w. string_bytes c.args.lines.now ++ w)
    (bare_said c.args.offence.now.event c.args.offence.now.number c.args.offence.now.who c.args.raw
    c.in_default.not-Content)) (rw c.place_in-place.ensures at c.push_bare_event.ensures)
