-- Which versions no message has set for a document.
use Rattle.std.specs.Prelude.{◌&&◌, ◌||◌, ◌==◌, ◌++◌, ℕ, ℤ, int_lt, Bool, true, false, not, List}
use Rattle.std.specs.Prelude.{[], ◌∷◌, codes}
use Rattle.std.specs.Fmt.{signed_decimal}
use Rattle.std.specs.List.{list_any}
use Rattle.lsp_trail.specs.Common.{closing_of, closings, Event, is_set_to, recent, steps, Terms}
use Rattle.lsp_trail.specs.declared.mark.VersionEvent.{VersionEvent}
use Rattle.lsp_trail.specs.declared.openings.Closing.{Closing}
use Rattle.lsp_trail.specs.declared.openings.Closing.TheVariants as closing

-- no message closed the document
abbrev pub is_never : Closing → Bool
is_never closing.Never = true
is_never _ = false

-- it is the `didOpen`, or set a version below this one
abbrev pub covers : ℤ → VersionEvent → Bool
covers number setter = setter.rank == 1 || int_lt setter.version number

-- these last messages of an opening set another version each, and so did those before them:
-- versions rise
abbrev pub is_unset : ℤ → List VersionEvent → Bool
is_unset number [] = false
is_unset number (s ∷ ss) = covers number s && not (list_any (is_set_to number) (s ∷ ss))

-- **no message has set this version of the document of this URI**, which is open
abbrev pub is_unsent : Terms → List Event → List ℕ → ℤ → Bool
is_unsent terms before uri number =
    is_unset number (recent (steps terms uri before))
    && is_never (closing_of uri (closings terms before))

abbrev pub unsent_words : ℤ → List ℕ
unsent_words number = codes "note unsent " ++ signed_decimal number
