use Rattle.std.specs.Prelude.{is_some}
use Rattle.std.proofs.Common.{◌∙◌, ap}
use Rattle.lsp_rpc.specs.Ident.{id_view}
use Rattle.lsp_rpc.specs.contracts.message.IdPartialEq.TheImpl.{eq-value}
use Rattle.lsp_session.proofs.Ids.{eq_is_same_id}
use Rattle.lsp_uris.proofs.Putting.{lookup_in}
use Rattle.lsp_survey.proofs.notes.passed.Passed.has_other.Goals as goal

pub returns-in-Editor : goal.returns-in-Editor
returns-in-Editor c =
    let id = c.args.id.now in
    rw c.in-Editor.is (c.contains_key.ensures
    ∙ ap is_some (lookup_in ((eq-value).it id) (id_view id) (eq_is_same_id id)
    c.args.self.now.server.entries))

pub returns-in-Server : goal.returns-in-Server
returns-in-Server c =
    let id = c.args.id.now in
    rw c.in-Server.is (c.contains_key-in-Server.ensures
    ∙ ap is_some (lookup_in ((eq-value).it id) (id_view id) (eq_is_same_id id)
    c.args.self.now.editor.entries))
