use Rattle.std.specs.Str.{chars}
use Rattle.std.proofs.Common.{◌+◌, ◌∙◌, ap}
use Rattle.lsp_docs.specs.Calls.{byte_len}
use Rattle.lsp_trail.specs.SentEdits.{per_change}
use Rattle.lsp_trail.proofs.base.size_of_change.Goals as goal

pub returns : goal.returns
returns c =
    c.size_of_text.ensures ∙ ap (λ bs. per_change + byte_len (chars bs)) c.as_str.ensures.value
