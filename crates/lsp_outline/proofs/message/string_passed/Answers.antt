use Rattle.std.proofs.Common.{refl}
use Rattle.std.proofs.lemmas.Option.{IfSome_then}
use Rattle.serde_json.specs.Data.{string}
use Rattle.lsp_outline.proofs.message.string_passed.Goals as goal

pub returns : goal.returns
returns c =
    rw (← c.as_bytes-2.ensures.value)
    (IfSome_then c.string_end.result c.string_end.ensures
    (λ end read. (string read.0, read.1 c.args.depth, refl)))
