use Rattle.lsp_session.proofs.Unread as lemmas
use Rattle.lsp_session.proofs.laws.result_unread.Goals as goal

pub returns : goal.returns
returns c = lemmas.result_unread
