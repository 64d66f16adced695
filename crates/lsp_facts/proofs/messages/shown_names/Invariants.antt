use Rattle.std.proofs.Common.{◌≡◌, ◌++◌, string_bytes, take}
use Rattle.std.specs.Prelude.{codes}
use Rattle.std.specs.List.{flat_map}
use Rattle.json.specs.Print.{quoted}
use Rattle.lsp_rpc.specs.View.{texts_view}
use Rattle.lsp_facts.specs.Fact.{spaced}
use Rattle.lsp_facts.proofs.messages.shown_names.Given as goal

abbrev pub invariant-loop-name : goal.invariant-loop-name
invariant-loop-name l =
    string_bytes l.words
    ≡ codes "offered" ++ flat_map (λ name. spaced (quoted name)) (texts_view (take l.name-index l.names))
