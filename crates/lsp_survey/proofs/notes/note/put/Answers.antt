use Rattle.std.proofs.Common.{Some}
use Rattle.lsp_uris.proofs.Putting.{puts_by}
use Rattle.std.specs.Prelude.{Vec, ℕ}
use Rattle.std.specs.Global.{Global}
use Rattle.lsp_survey.proofs.notes.note.put.Goals as goal

pub returns : goal.returns
returns c =
    let updates = c.in_ok-insert.ensures.updates in
    puts_by (λ (k : Vec ℕ Global). k.items) (Some c.args.spelling) c.args.map.now.entries
    c.insert.new.self.entries c.args.key.items updates.1 updates.3
