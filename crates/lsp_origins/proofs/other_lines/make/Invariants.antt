use Rattle.std.specs.Prelude.{string_bytes}
use Rattle.std.specs.Str.{chars}
use Rattle.std.proofs.Common.{◌≡◌, drop}
use Rattle.lsp_text.specs.Changes.{edits_of}
use Rattle.lsp_origins.specs.OtherLines.{made_so}
use Rattle.lsp_origins.proofs.other_lines.make.Given as goal

abbrev pub invariant-loop-change : goal.invariant-loop-change
invariant-loop-change l =
    made_so l.by l.encoding (chars (string_bytes l.fn.text)) (edits_of l.changes)
    ≡ made_so l.by l.encoding (chars (string_bytes l.made)) (edits_of (drop l.change-index l.changes))
