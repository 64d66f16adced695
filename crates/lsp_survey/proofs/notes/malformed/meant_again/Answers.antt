use Rattle.std.proofs.Common.{None, refl, subst}
use Rattle.lsp_rpc.specs.Reading.{BreaksRule, IsRefusal}
use Rattle.lsp_verdict.proofs.Below.{not_both}
use Rattle.lsp_survey.proofs.notes.malformed.meant_again.Goals as goal

pub returns-in-Err-Rule : goal.returns-in-Err-Rule
returns-in-Err-Rule c =
    let at = c.in-Err-Rule in
    let bytes = c.args.content.now in
    let breaks : BreaksRule bytes at.field-0-0 =
    subst (IsRefusal bytes) at.field-0-is at.ensures.rule in (
      None,
      λ m reads. not_both bytes m at.field-0-0 reads breaks,
      record { asks = refl; brings = refl; asked = refl },
    )
