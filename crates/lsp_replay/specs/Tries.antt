-- What was tried of the changes of a call that is refused.
use Rattle.std.specs.Prelude.{◌≤◌, ℕ, List, Option, Some, None}
use Rattle.lsp_docs.specs.Documents.{Terms}
use Rattle.lsp_docs.specs.Calls.{Call}
use Rattle.lsp_docs.specs.Tried.{IsTried, Made, tried_in}
use Rattle.lsp_docs.specs.declared.tried.Tried.{Tried}
use Rattle.lsp_lined.specs.Counted.{Counted}
use Rattle.lsp_types.specs.declared.rules.TheConstants as rules
use Rattle.lsp_verdict.specs.Event.{calls, Event}

-- this was tried of what is said of a document, if anything is
abbrev pub IsTriedOf : Terms → List Call → Option Call → Option Made → Type 0
IsTriedOf terms before None tried = Unit {0}
IsTriedOf terms before (Some call) tried = IsTried terms before call tried

-- **this was tried of what is said after these events**, where the rule is one on documents
abbrev pub TriesCall : Terms → List Event → Option Call → ℕ → Option Made → Type 0
TriesCall terms events said rule tried =
    rules.FIRST_ON_DOCUMENTS ≤ rule → IsTriedOf terms (calls events) said tried

-- what was tried in a text with its lines
abbrev pub made_in : Option (Tried Counted) → Option Made
made_in tried = tried_in (λ (s : Counted). s.content) tried
