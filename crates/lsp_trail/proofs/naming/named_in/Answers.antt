use Rattle.std.proofs.Common.{◌∙◌, ap, sym}
use Rattle.std.proofs.lemmas.Result.{IfOk-weaker}
use Rattle.lsp_trail.specs.Naming.{version_named}
use Rattle.lsp_trail.proofs.naming.named_in.Goals as goal

pub returns-in-Editor : goal.returns-in-Editor
returns-in-Editor c = IfOk-weaker c.by_editor.result _ _ (λ named is m reads same.
    is m reads same ∙ ap (λ s. version_named s m) (sym c.in-Editor.is)) c.by_editor.ensures

pub returns-in-Server : goal.returns-in-Server
returns-in-Server c = IfOk-weaker c.by_server.result _ _ (λ named is m reads same.
    is m reads same ∙ ap (λ s. version_named s m) (sym c.in-Server.is)) c.by_server.ensures
