use Rattle.std.proofs.Common.{sym, ◌∙◌, w32}
use Rattle.std.proofs.lemmas.Int.{to_z-of_z}
use mir.Val.{SFits}
use Rattle.lsp_docs.specs.Documents.{versioned}
use Rattle.lsp_docs.proofs.Others.{at-first, at-behind}
use Rattle.lsp_docs.proofs.document.Document.store_at.Goals as goal

pub returns-in-Some : goal.returns-in-Some
returns-in-Some g c =
    let fits : SFits w32 c.args.version = c.ranges.version in
    let told = simp to_z-of_z at c.in-Some.ensures in
    sym (at-first c.args.version c.args.self.now.kept (versioned c.args.self.now.held.version
    (g.S.TextStore.content c.args.self.now.held.store)) _ (sym told))

pub returns-in-None : goal.returns-in-None
returns-in-None g c =
    let fits : SFits w32 c.args.version = c.ranges.version in
    let none = simp to_z-of_z at c.in-None.ensures in
    let told = simp to_z-of_z at c.store_at-in-None.ensures in
    told ∙ sym (at-behind c.args.version c.args.self.now.kept
    (versioned c.args.self.now.held.version (g.S.TextStore.content c.args.self.now.held.store))
    (sym none))
