use Rattle.std.proofs.Common.{◌≡◌, ◌++◌, string_bytes, take, Some}
use Rattle.std.specs.List.{flat_map}
use Rattle.lsp_verdict.specs.Report.{encoding_name}
use Rattle.lsp_facts.specs.Fact.{spaced}
use Rattle.lsp_facts.proofs.text_facts.push_encodings.Given as goal

abbrev pub invariant-loop-encoding : goal.invariant-loop-encoding
invariant-loop-encoding l =
    string_bytes l.words
    ≡ string_bytes l.fn.words
    ++ flat_map (λ e. spaced (encoding_name (Some e))) (take l.encoding-index l.encodings)
