use Rattle.std.proofs.Common.{Bool, sym, ap, ◌∙◌}
use Rattle.std.specs.Prelude.{◌||◌}
use Rattle.std.specs.List.{list_any}
use Rattle.std.specs.Str.{bytes_eq}
use Rattle.std.proofs.lemmas.List.Folds.{list_any-append}
use Rattle.lsp_redact.specs.Names.{editor_methods, server_methods}
use Rattle.lsp_redact.proofs.names.is_known.Goals as goal

pub returns-then-is_of_editor : goal.returns-then-is_of_editor
returns-then-is_of_editor c =
    let test = bytes_eq c.args.method.now in
    sym (list_any-append test editor_methods server_methods
    ∙ ap (λ (b : Bool). b || list_any test server_methods)
    (sym c.is_of_editor.ensures ∙ c.if-is_of_editor.true))

pub returns : goal.returns
returns c =
    let test = bytes_eq c.args.method.now in
    c.is_of_server.ensures
    ∙ sym (list_any-append test editor_methods server_methods
    ∙ ap (λ (b : Bool). b || list_any test server_methods)
    (sym c.is_of_editor.ensures ∙ c.if-is_of_editor.false))
