use Rattle.std.specs.Prelude.{flat_map, string_bytes}
use Rattle.std.proofs.Common.{◌≡◌, ◌++◌, map, take}
use Rattle.lsp_json.specs.Fields.{word_view}
use Rattle.lsp_json.specs.Members.{other_item}
use Rattle.lsp_json.proofs.members.push_others.Given as goal

abbrev pub invariant-loop-word : goal.invariant-loop-word
invariant-loop-word l =
    string_bytes l.object
    ≡ string_bytes l.fn.object ++ flat_map other_item (map word_view (take l.word-index l.words))
