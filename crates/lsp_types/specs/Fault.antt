-- What a fault says.
use Rattle.std.specs.Prelude.{◌≡◌, ℕ, Option, Some}
use Rattle.lsp_types.specs.declared.fault.Fault.{Fault}
use Rattle.lsp_types.specs.declared.fault.Fault.TheVariants.{Rule, Memory}

-- the fault names this rule, unless memory ran out
abbrev pub Names : Option ℕ → Fault → Type 0
Names rule (Rule n) = rule ≡ Some n
Names rule Memory = Unit {0}

-- the fault names a rule, and is not a lack of memory
abbrev pub IsRule : Fault → Type 0
IsRule (Rule n) = Unit {0}
IsRule Memory = ⊥
