use Rattle.lsp_session.proofs.Unread as lemmas
use Rattle.lsp_session.proofs.laws.params_unread.Goals as goal

pub returns : goal.returns
returns c = lemmas.params_unread
