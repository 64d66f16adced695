use Rattle.std.specs.Prelude.{option_map, string_bytes}
use Rattle.std.proofs.Common.{◌∙◌, ap, refl, rules, sym, w32}
use Rattle.std.proofs.lemmas.Int.{to_z-of_z}
use Rattle.std.proofs.lemmas.Result.{IfOk-weaker}
use mir.Val.{SFits}
use Rattle.lsp_notes.specs.LateEdits.{lates_view, late_view}
use Rattle.lsp_notes.proofs.LateSteps.{words_by, words_first}
use Rattle.lsp_notes.proofs.late_edits.words_since.Goals as goal

-- no message set a version
pub returns-in_default : goal.returns-in_default
returns-in_default c = λ made stands.
    words_first c.args.docs.now.terms made c.args.uri.now c.args.encoding c.args.setters.now
    (lates_view c.args.late.now.items) (sym c.in_default.is ∙ c.last_of.ensures)

pub returns : goal.returns
returns c =
    let fits : SFits w32 c.in-Some.setter.version = search rules in
    let late = simp to_z-of_z at c.words_if_late.ensures in
    IfOk-weaker c.words_if_late.result _ _ (λ words is made stands.
    words_by c.args.docs.now.terms made c.args.uri.now c.args.encoding c.args.setters.now
    (lates_view c.args.late.now.items) c.in-Some.setter _ (option_map string_bytes words)
    (sym c.in-Some.is ∙ c.last_of.ensures)
    (sym (ap (option_map (λ a. late_view a.now)) c.in-Some-late_since.is) ∙ c.late_since.ensures)
    (is made c.in-Some.setter stands refl)) late
