use Rattle.std.proofs.Common.{◌≡◌, flat_map, string_bytes}
use Rattle.lsp_request.specs.ShownText.{shown_char}
use Rattle.lsp_request.proofs.shown.shown_text.Given as goal

abbrev pub invariant-loop-c : goal.invariant-loop-c
invariant-loop-c l = string_bytes l.shown ≡ flat_map shown_char l.yielded
