use Rattle.std.specs.Prelude.{map, option_and_then, option_map}
use Rattle.std.proofs.Common.{◌∙◌, ap, sym}
use Rattle.std.proofs.lemmas.Result.{IfOk-weaker}
use Rattle.lsp_rpc.specs.Ident.{id_view}
use Rattle.lsp_notes.specs.ServerEdits.{answered, edited_view, in_whole, uris_with}
use Rattle.lsp_notes.proofs.EditsByKind.{none_answered}
use Rattle.lsp_notes.proofs.edited.in_response.Goals as goal

pub returns-in-Some : goal.returns-in-Some
returns-in-Some c = IfOk-weaker c.in_answer.result _ _
    (λ edited is terms before event m now are reads.
    is terms before event m now are reads
    ∙ ap (λ o. in_whole (uris_with terms before event) (answered terms before (option_map id_view o)) m)
    (sym c.in-Some.is)) c.in_answer.ensures

pub returns-in-None : goal.returns-in-None
returns-in-None c = λ terms before event m now are reads.
    let uris = uris_with terms before event in
    ap (map edited_view) c.new.ensures.items
    ∙ sym (none_answered uris m)
    ∙ ap (λ o. in_whole uris (answered terms before (option_map id_view o)) m) (sym c.in-None.is)
