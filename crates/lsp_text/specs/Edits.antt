-- What a change makes of a text.
use Rattle.std.specs.Prelude.{◌≡◌, ℕ, ℤ, cond, nat_lt, List, [], ◌∷◌, ◌++◌, take, drop, slice_get}
use Rattle.std.specs.declared.option.Option.{Option}
use Rattle.std.specs.declared.option.Option.TheVariants.{Some, None}
use Rattle.std.specs.declared.result.Result.{Result}
use Rattle.std.specs.declared.result.Result.TheVariants.{Ok, Err}
use Rattle.lsp_types.specs.declared.position.Encoding.{Encoding}
use Rattle.lsp_types.specs.declared.position.Encoding.TheVariants.{Utf8}
use Rattle.lsp_types.specs.declared.position.Span.{Span}
use Rattle.lsp_text.specs.declared.changes.ChangeFault.{ChangeFault}
use Rattle.lsp_types.specs.declared.fault.Fault.{Fault}
use Rattle.lsp_types.specs.declared.fault.Fault.TheVariants.{Rule, Memory}
use Rattle.lsp_text.specs.declared.store.Place.{Place}
use Rattle.lsp_text.specs.Places.{units, place_of}
use Rattle.lsp_types.specs.declared.rules.TheConstants as rules

-- `s` in place of the characters from `a` up to `b`
abbrev pub splice : List ℕ → ℕ → ℕ → List ℕ → List ℕ
splice t a b s = take a t ++ s ++ drop b t

-- a text of at most `limit` bytes, or 607
abbrev pub limited : ℕ → List ℕ → Result (List ℕ) ℕ
limited limit t = cond (nat_lt limit (units Utf8 t)) (Err rules.DOCUMENT_OVER_LIMIT) (Ok t)

-- a splice between two places: 605 where one is none, 606 where they are reversed
abbrev pub spliced : List ℕ → Option ℕ → Option ℕ → List ℕ → ℕ → Result (List ℕ) ℕ
spliced t None b s limit = Err rules.POSITION_INSIDE_CHARACTER
spliced t (Some a) None s limit = Err rules.POSITION_INSIDE_CHARACTER
spliced t (Some a) (Some b) s limit =
    cond (nat_lt b a) (Err rules.RANGE_REVERSED) (limited limit (splice t a b s))

-- `s` in place of what a span holds: the text, or the rule that refuses it
abbrev pub replaced : Encoding → List ℕ → Span → List ℕ → ℕ → Result (List ℕ) ℕ
replaced enc t span s limit = spliced t (place_of enc t span.first) (place_of enc t span.second) s limit

-- a change: of a span, or of the whole text
abbrev pub changed : Encoding → List ℕ → Option Span → List ℕ → ℕ → Result (List ℕ) ℕ
changed enc t None s limit = limited limit s
changed enc t (Some span) s limit = replaced enc t span s limit

-- a change: `text` in place of the span, or of all where there is none; the text that it replaces
-- is said to be so long
pub record Edit : Type 0 where
  pub span : Option Span
  pub range_length : Option ℤ
  pub text : List ℕ

-- what comes next, unless a rule was broken
abbrev pub and_then : Result (List ℕ) ℕ → (List ℕ → Result (List ℕ) ℕ) → Result (List ℕ) ℕ
and_then (Err rule) f = Err rule
and_then (Ok t) f = f t

-- changes in order, each of the text that the one before left: the text, or the rule that refuses
-- the first change that fails
abbrev pub applied : ℕ → Encoding → List ℕ → List Edit → Result (List ℕ) ℕ
applied limit enc t [] = Ok t
applied limit enc t (c ∷ cs) = and_then (changed enc t c.span c.text limit) (λ u. applied limit enc u cs)

-- the fault is that rule, or that memory was refused
abbrev pub IsFaultOf : Result (List ℕ) ℕ → Fault → Type 0
IsFaultOf r (Rule rule) = r ≡ Err rule
IsFaultOf r Memory = Unit {0}

-- the change after this many fails so on the text that those make, and that text is left
pub record FailsAfter (limit : ℕ) (enc : Encoding) (t : List ℕ) (cs : List Edit) (u : List ℕ)
    (failed : ChangeFault) : Type 0 where
  pub edit : Edit
  pub there : slice_get cs failed.made ≡ Some edit
  pub made : applied limit enc t (take failed.made cs) ≡ Ok u
  pub fails : IsFaultOf (changed enc u edit.span edit.text limit) failed.fault

-- the place, or 605 where there is none
abbrev pub IsPlaceOr605 : Option ℕ → Result Place Fault → Type 0
IsPlaceOr605 None r = r ≡ Err (Rule rules.POSITION_INSIDE_CHARACTER)
IsPlaceOr605 (Some k) r = r ≡ Ok (record { chars = k })
