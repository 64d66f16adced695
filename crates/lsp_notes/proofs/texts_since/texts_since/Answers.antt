use Rattle.std.specs.Prelude.{option_and_then}
use Rattle.std.proofs.Common.{◌∙◌, ap, rules, sym, w32}
use Rattle.std.proofs.lemmas.Int.{to_z-of_z}
use Rattle.std.proofs.lemmas.Result.{IfOk-weaker}
use mir.Val.{SFits}
use Rattle.lsp_trail.specs.Common.{held, kept}
use Rattle.lsp_notes.specs.TextsSince.{texts_in}
use Rattle.lsp_notes.proofs.texts_since.texts_since.Goals as goal

pub returns-in-Some : goal.returns-in-Some
returns-in-Some c =
    let fits : SFits w32 c.in-Some.version = search rules in
    let from = simp to_z-of_z at c.texts_from.ensures in
    IfOk-weaker c.texts_from.result _ _ (λ texts is made stands.
    let terms = c.args.docs.now.terms in
    let uri = c.args.uri.now in
    is made stands
    ∙ ap (option_and_then (texts_in (kept terms uri made) (held terms uri made)))
    (sym c.in-Some.is ∙ c.version_at.ensures)) from

pub returns-in-None : goal.returns-in-None
returns-in-None c = λ made stands.
    let terms = c.args.docs.now.terms in
    let uri = c.args.uri.now in
    ap (option_and_then (texts_in (kept terms uri made) (held terms uri made)))
    (sym c.in-None.is ∙ c.version_at.ensures)
