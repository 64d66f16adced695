use Rattle.std.specs.Prelude.{IfOk, ℤ}
use Rattle.std.proofs.Common.{◌≡◌, Option, sym, subst, w32}
use Rattle.std.proofs.lemmas.Int.{to_z-of_z}
use mir.Val.{SFits}
use Rattle.lsp_origins.proofs.Written.{written_err, written_ok}
use Rattle.lsp_origins.proofs.twins.written.Goals as goal

pub returns-in-Ok : goal.returns-in-Ok
returns-in-Ok c =
    let parses = c.in-Ok.ensures.value.0 in
    let fits : SFits w32 c.in-Ok.number = subst (SFits w32) (sym parses.1) parses.0.1 in
    let told = simp to_z-of_z at c.if_same.ensures in
    subst (λ (due : Option ℤ). IfOk c.if_same.result (λ found. found ≡ due))
    (written_ok c.args.text.now c.in-Ok.number fits parses.1) told

pub returns-in-Err : goal.returns-in-Err
returns-in-Err c = written_err c.args.text.now c.in-Err.field-0 c.in-Err.ensures.value.0
