use Rattle.std.proofs.Common.{◌∙◌, ap, sym}
use Rattle.lsp_notes.proofs.EditedTexts.{outside_is, says_outside}
use Rattle.lsp_notes.proofs.texts_since.is_outside.Goals as goal

pub returns-in-Within : goal.returns-in-Within
returns-in-Within c =
    ap (says_outside c.args.position) (sym c.in-Within.is)
    ∙ outside_is c.args.encoding c.args.text.now.content c.args.position c.fit_of.result c.fit_of.ensures

pub returns-in-Past : goal.returns-in-Past
returns-in-Past c =
    c.is_past.ensures ∙ ap (says_outside c.args.position) (sym c.in-Past.is)
    ∙ outside_is c.args.encoding c.args.text.now.content c.args.position c.fit_of.result c.fit_of.ensures

pub returns-in-Nowhere : goal.returns-in-Nowhere
returns-in-Nowhere c =
    ap (says_outside c.args.position) (sym c.in-Nowhere.is)
    ∙ outside_is c.args.encoding c.args.text.now.content c.args.position c.fit_of.result c.fit_of.ensures
