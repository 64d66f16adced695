-- What holds of the definitions: ids are values, and a content is one message or breaks one rule.
use Rattle.std.specs.Prelude.{◌≡◌, ◌⊎◌, ◌↔◌, ℕ, List, true}
use Rattle.lsp_rpc.specs.Ident.{Ident, same_id}
use Rattle.lsp_rpc.specs.Message.{Message}
use Rattle.lsp_rpc.specs.Reading.{Reads, BreaksRule}

abbrev pub SameIdIsEquality : Type 0
SameIdIsEquality = (a b : Ident) → (same_id a b ≡ true) ↔ (a ≡ b)

abbrev pub OneMessage : Type 0
OneMessage = (content : List ℕ) (m n : Message) → Reads content m → Reads content n → m ≡ n

abbrev pub OneRule : Type 0
OneRule = (content : List ℕ) (r s : ℕ) → BreaksRule content r → BreaksRule content s → r ≡ s

abbrev pub NotBoth : Type 0
NotBoth = (content : List ℕ) (m : Message) (r : ℕ) → Reads content m → BreaksRule content r → ⊥

abbrev pub MessageOrRule : Type 0
MessageOrRule = (content : List ℕ) → ((m : Message) × Reads content m) ⊎ ((r : ℕ) × BreaksRule content r)
