use Rattle.lsp_docs.proofs.Bindings.{bound-agrees}
use Rattle.lsp_docs.proofs.laws.held_is_shown.Goals as goal

pub returns : goal.returns
returns c = λ terms before after front back uri n t v h e same now number.
    bound-agrees terms before after front back uri n t v h e same now number
