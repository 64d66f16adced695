-- For which events the account of the run stands.
use Rattle.std.specs.Prelude.{◌≡◌, List, map, None}
use Rattle.lsp_replay.specs.Common.{first_no, Heard, heard_events, Terms}
use Rattle.lsp_redact.specs.Kept.{awaits, kept_in}
use Rattle.lsp_redact.specs.View.{kept_view}
use Rattle.lsp_redact.specs.declared.redacting.Redacting.{Redacting}

-- **none of these events offends, and what the rules read of them is kept**
pub record Keeps (account : Redacting) (terms : Terms) (heard : List Heard) : Type 0 where
  pub clean : first_no terms (heard_events heard) ≡ None
  pub kept_is : map kept_view account.kept.items ≡ kept_in (heard_events heard)
  pub awaits_is : account.awaits ≡ awaits (heard_events heard)
