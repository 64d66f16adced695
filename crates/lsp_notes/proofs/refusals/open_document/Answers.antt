use Rattle.std.specs.Prelude.{option_and_then, option_map, string_bytes}
use Rattle.std.proofs.Common.{◌∙◌, ap, sym}
use Rattle.lsp_notes.specs.Refusals.{if_open_since}
use Rattle.lsp_notes.proofs.refusals.open_document.Goals as goal

-- it names one
pub returns-in-Some : goal.returns-in-Some
returns-in-Some c = λ terms before are.
    let place = c.args.request.now.place in
    c.if_open_since.ensures terms before are
    ∙ ap (if_open_since terms before place) c.as_str.ensures.value
    ∙ sym (ap (λ o. option_and_then (if_open_since terms before place) (option_map string_bytes o))
    c.in-Some.is)
