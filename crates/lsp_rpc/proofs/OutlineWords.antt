-- A message is named by the words that name its outline.
use Rattle.std.proofs.Common.{◌≡◌, refl}
use Rattle.lsp_rpc.specs.Message.{Message, request, notification, response, result, error}
use Rattle.lsp_rpc.specs.Outline.{outline}
use Rattle.lsp_rpc.specs.Words.{words_of}

pub words_by_outline : (m : Message) → words_of m ≡ words_of (outline m)
words_by_outline (response id (result value)) = refl
words_by_outline _ = refl
