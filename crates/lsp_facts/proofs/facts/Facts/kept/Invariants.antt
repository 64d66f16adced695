use Rattle.std.proofs.Common.{◌≡◌, ◌++◌, string_bytes, take}
use Rattle.std.specs.Prelude.{codes}
use Rattle.std.specs.Fmt.{signed_decimal}
use Rattle.std.specs.List.{flat_map}
use Rattle.lsp_facts.specs.Fact.{spaced}
use Rattle.lsp_facts.proofs.facts.Facts.kept.Given as goal

abbrev pub invariant-loop-version : goal.invariant-loop-version
invariant-loop-version l =
    string_bytes l.words
    ≡ codes "kept" ++ flat_map (λ number. spaced (signed_decimal number)) (take l.version-index l.versions)
