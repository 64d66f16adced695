use Rattle.std.specs.Prelude.{string_bytes}
use Rattle.std.specs.Str.Lines.{lines}
use Rattle.std.proofs.Common.{◌≡◌, ◌++◌, drop, length, map}
use Rattle.lsp_json.specs.Lines.{json_by, json_from, row_view}
use Rattle.lsp_json.proofs.lines.push_json_by.Given as goal

abbrev pub invariant-loop-line : goal.invariant-loop-line
invariant-loop-line l =
    string_bytes l.text ++ json_from (map row_view l.rows) l.awaits_text (drop (length l.yielded) (lines l.report))
    ≡ string_bytes l.fn.text ++ json_by (map row_view l.rows) l.report
