-- An event that offends, with those before it.
use Rattle.std.specs.Prelude.{ℕ, List, Option, option_map}
use Rattle.lsp_replay.specs.Common.{events_of, Heard, notes_of, rule_at, Terms}

-- after these events this one offends by this rule
pub record Breach : Type 0 where
  pub before : List Heard
  pub here : Heard
  pub rule : ℕ

abbrev pub breach : List Heard → Heard → ℕ → Breach
breach before h rule = record { before = before; here = h; rule = rule }

abbrev pub breach_at : Terms → List Heard → Heard → Option Breach
breach_at terms before h =
    option_map (breach before h) (rule_at terms (events_of (notes_of before)) h.note.event)
