use Rattle.std.specs.Prelude.{option_and_then, option_map, string_bytes}
use Rattle.std.proofs.Common.{◌∙◌, ap, rules, sym, w32}
use Rattle.std.proofs.lemmas.Int.{to_z-of_z}
use Rattle.std.proofs.lemmas.Result.{on_ok_weaker}
use mir.Val.{SFits}
use Rattle.lsp_notes.specs.DocumentNotes.{document_note, notes_view, with_note}
use Rattle.lsp_trail.specs.History.{on_document}
use Rattle.lsp_notes.specs.ServerEdits.{edited_view, if_unsent, note_on}
use Rattle.lsp_notes.proofs.server_edits.note_unsent.Goals as goal

-- it names no version
pub returns-in_default : goal.returns-in_default
returns-in_default c = λ terms before event now.
    let e = edited_view c.args.edited.now in
    ap (λ o. with_note (notes_view c.args.notes.now.items) (option_map (note_on e c.args.now.place)
    (option_and_then (if_unsent terms before e.uri) o))) (sym c.in_default.is)

pub returns : goal.returns
returns c =
    let fits : SFits w32 c.in-Some.version = search rules in
    on_ok_weaker c.push_if.result (λ noted terms before event now.
    let e = edited_view c.args.edited.now in
    let place = c.args.now.place in
    let old = notes_view c.args.notes.now.items in
    let unsent = simp to_z-of_z at (c.in_ok-words.ensures terms before now.trail) in
    noted
    ∙ ap (λ u. with_note old (option_map (document_note (on_document u place))
    (option_map string_bytes c.in_ok-words.words))) c.as_str-uri.ensures.value
    ∙ ap (λ o. with_note old (option_map (note_on e place) o))
    (unsent
    ∙ ap (λ u. if_unsent terms before u c.in-Some.version) c.as_str-uri.ensures.value
    ∙ ap (option_and_then (if_unsent terms before e.uri)) (sym c.in-Some.is))) c.push_if.ensures
