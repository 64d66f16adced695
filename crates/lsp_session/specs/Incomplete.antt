-- What is missing from a session that ends after these messages. (JSON-RPC 2.0, section 4; LSP
-- 3.17, "Server lifecycle".)
use Rattle.std.specs.Prelude.{ℕ, List, [], ◌∷◌, Bool, true, false, not, Option, Some}
use Rattle.lsp_types.specs.declared.side.Side.TheVariants.{Editor}
use Rattle.lsp_session.specs.Entry.{Entry}
use Rattle.lsp_session.specs.Handshake.{was_sent}
use Rattle.lsp_session.specs.Negotiation.{first_row}
use Rattle.lsp_session.specs.Requests.{open_requests}
use Rattle.lsp_session.specs.Sent.{Sent, is_exit}
use Rattle.lsp_types.specs.declared.rules.TheConstants as rules

abbrev pub is_any_open : List Entry → Bool
is_any_open [] = false
is_any_open (e ∷ es) = true

-- a request of the editor is open: 303; the editor did not send `exit`: 407
abbrev pub incomplete : List Sent → Option ℕ
incomplete before =
    first_row (
    (is_any_open (open_requests Editor before), Some rules.REQUEST_NOT_ANSWERED)
    ∷ (not (was_sent is_exit before), Some rules.EXIT_MISSING)
    ∷ [])
