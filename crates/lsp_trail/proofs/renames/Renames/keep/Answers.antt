use Rattle.std.proofs.Common.{◌∙◌, None, refl, sym}
use Rattle.std.proofs.lemmas.Result.{on_ok_weaker}
use Rattle.lsp_rpc.specs.View.{message_view}
use Rattle.lsp_session.proofs.Steps.{option_or-none}
use Rattle.lsp_trail.specs.Renames.{renamed_held}
use Rattle.lsp_trail.proofs.RenameSteps.{nothing_told, something_told}
use Rattle.lsp_trail.proofs.renames.Renames.keep.Goals as goal

pub returns-then-tells_files : goal.returns-then-tells_files
returns-then-tells_files c =
    let old = c.args.self.now in
    on_ok_weaker c.add_content.result (λ more p. something_told p c.args.side c.args.content.now
    (message_view c.args.message.now) None old old _ refl
    (sym (option_or-none (renamed_held old)))
    (sym c.tells_files.ensures ∙ c.if-tells_files.true) refl more) c.add_content.ensures

pub returns : goal.returns
returns c = λ p.
    let old = c.args.self.now in
    nothing_told p c.args.side c.args.content.now (message_view c.args.message.now) None old old old
    refl (sym (option_or-none (renamed_held old)))
    (sym c.tells_files.ensures ∙ c.if-tells_files.false)
