use Rattle.std.specs.Prelude.{int_lt}
use Rattle.std.proofs.Common.{rules}
use Rattle.std.proofs.lemmas.Fn.{filter_same}
use Rattle.lsp_trail.specs.declared.base.SentChanges.{SentChanges}
use Rattle.lsp_trail.proofs.base.drop_until.Goals as goal

pub returns : goal.returns
returns c =
    filter_same _ (λ (one : SentChanges). int_lt c.args.version one.version) _
    (λ x b f call. search rules) _ _ c.retain.ensures.filtered
