-- What was tried of changes that are refused.
use Rattle.std.specs.Prelude.{◌≡◌, ◌≤◌, ℕ, List, length, take, slice_get, Option, Some, None, Ok}
use Rattle.std.specs.Prelude.{Err, option_map, unwrap_or}
use Rattle.lsp_types.specs.declared.position.Encoding.{Encoding}
use Rattle.lsp_text.specs.Edits.{Edit, changed, applied}
use Rattle.lsp_docs.specs.Calls.{Call, changes, Text}
use Rattle.lsp_docs.specs.Documents.{Version, held, Terms}
use Rattle.lsp_docs.specs.State.{early_rule}
use Rattle.lsp_docs.specs.declared.tried.Tried as code

-- a rule refuses the change, where there is one
abbrev pub IsRejected : ℕ → Encoding → Text → Option Edit → Type 0
IsRejected limit enc t None = Unit {0}
IsRejected limit enc t (Some edit) =
    (rule : ℕ) × (changed enc t edit.span edit.text limit ≡ Err rule)

-- the first n changes make this text, on which the next fails, if there is one
pub record IsMade (limit : ℕ) (enc : Encoding) (t : Text) (cs : List Edit) (n : ℕ)
    (text : Text) : Type 0 where
  pub within : n ≤ length cs
  pub made : applied limit enc t (take n cs) ≡ Ok text
  pub next : IsRejected limit enc text (slice_get cs n)

-- a text and how many changes are made in it
pub record Made : Type 0 where
  pub text : Text
  pub count : ℕ

-- what was tried, by what these stores hold
abbrev pub tried_in : {S : Type 0} → (S → Text) → Option (code.Tried S) → Option Made
tried_in content tried = option_map (λ t. record { text = content t.store; count = t.count }) tried

-- without a copy none is made
abbrev pub made_of : Text → Option Made → Made
made_of t tried = unwrap_or tried (record { text = t; count = 0 })

-- **as many of the changes of this text are made as can be**
abbrev pub AreTried : ℕ → Encoding → Text → List Edit → Option Made → Type 0
AreTried limit enc t cs tried = IsMade limit enc t cs (made_of t tried).count (made_of t tried).text

-- the same of what is held, if anything is
abbrev pub AreTriedOn : ℕ → Encoding → Option Version → List Edit → Option Made → Type 0
AreTriedOn limit enc None cs tried = Unit {0}
AreTriedOn limit enc (Some v) cs tried = AreTried limit enc v.text cs tried

-- the same of the changes of a call after these calls, where no rule on the call as a whole refuses
-- it
abbrev pub IsTried : Terms → List Call → Call → Option Made → Type 0
IsTried terms before (changes enc kind uri number cs) tried =
    early_rule kind number cs (held terms uri before) ≡ None
    → AreTriedOn terms.limit enc (held terms uri before) cs tried
IsTried terms before _ tried = Unit {0}
