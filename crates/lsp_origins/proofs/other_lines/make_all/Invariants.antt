use Rattle.std.specs.Prelude.{string_bytes}
use Rattle.std.specs.Str.{chars}
use Rattle.std.proofs.Common.{◌≡◌, drop}
use Rattle.lsp_origins.specs.Fits.{suspects_view}
use Rattle.lsp_origins.specs.OtherLines.{edits_in, made_so}
use Rattle.lsp_origins.proofs.other_lines.make_all.Given as goal

abbrev pub invariant-loop-suspect : goal.invariant-loop-suspect
invariant-loop-suspect l =
    made_so l.by l.encoding (chars (string_bytes l.fn.text)) (edits_in (suspects_view l.suspects))
    ≡ made_so l.by l.encoding (chars (string_bytes l.made))
    (edits_in (suspects_view (drop l.suspect-index l.suspects)))
