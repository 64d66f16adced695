use Rattle.std.proofs.Common.{None}
use Rattle.lsp_uris.proofs.Putting.{puts_by}
use Rattle.std.specs.Prelude.{Vec, ℕ}
use Rattle.std.specs.Global.{Global}
use Rattle.lsp_survey.proofs.notes.note.take.Goals as goal

pub returns-clause-left : goal.returns-clause-left
returns-clause-left c =
    let updates = c.swap_remove.ensures.updates in
    puts_by (λ (k : Vec ℕ Global). k.items) None c.args.map.now.entries
    c.swap_remove.new.self.entries c.args.key.now.items updates.1 updates.3
