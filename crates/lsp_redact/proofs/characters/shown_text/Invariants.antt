use Rattle.std.proofs.Common.{◌≡◌, string_bytes}
use Rattle.lsp_redact.specs.Characters.{text_of, written_text}
use Rattle.lsp_redact.proofs.characters.shown_text.Given as goal

abbrev pub invariant-loop-character : goal.invariant-loop-character
invariant-loop-character l = string_bytes l.shown ≡ written_text (text_of l.apart l.yielded)
