use Rattle.std.proofs.Common.{false, length, sym, ap, ◌∙◌, arith}
use Rattle.std.proofs.lemmas.List.{take_all}
use Rattle.lsp_lined.specs.Ends.{ends_with_return}
use Rattle.lsp_lined.proofs.CutPlaces.{return_at}
use Rattle.lsp_lined.proofs.ends.is_return_last.Goals as goal

pub returns-then-bytes-gt0 : goal.returns-then-bytes-gt0
returns-then-bytes-gt0 c =
    let bytes = c.as_bytes-bytes.result.now in
    let n = length bytes in
    sym (return_at bytes n c.if-bytes-gt0.true (omega arith)) ∙ ap (ends_with_return false) (take_all n bytes (omega arith) ∙ c.as_bytes-bytes.ensures.value)
