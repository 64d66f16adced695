-- A position that lies inside no character denotes a place.
use Rattle.std.specs.Prelude.{is_some, is_none, MatchOption, not}
use Rattle.std.proofs.Common.{◌≡◌, ℕ, Bool, true, false, Option, Some, None, refl, sym, ap, ◌∙◌}
use Rattle.std.proofs.Common.{true≢false}
use Rattle.lsp_replay.specs.Common.{Encoding, LiesInside, Position}
use Rattle.lsp_text.specs.Places.{place_of}
use Rattle.lsp_text.proofs.Differing.InsideCharacter.{positions_lie_inside}
use Rattle.lsp_docs.specs.Calls.{Text}

none_where : (o : Option ℕ) (none : Bool) → is_some o ≡ not none → none ≡ is_none o
none_where None false h = absurd (true≢false (sym h))
none_where (Some c) true h = absurd (true≢false h)
none_where _ _ h = refl

inside_none : (enc : Encoding) (t : Text) (p : Position) (found : Option ℕ)
    → MatchOption found (is_some (place_of enc t p) ≡ true) (LiesInside enc t p)
    → is_none found ≡ is_some (place_of enc t p)
inside_none enc t p None h = sym h
inside_none enc t p (Some c) h =
    sym (ap is_some ((positions_lie_inside.inside enc t p).1 (c, h)))

pub none_inside : (enc : Encoding) (t : Text) (p : Position) (found : Option ℕ) (none : Bool)
    → is_some found ≡ not none
    → MatchOption found (is_some (place_of enc t p) ≡ true) (LiesInside enc t p)
    → none ≡ is_some (place_of enc t p)
none_inside enc t p found none is h = none_where found none is ∙ inside_none enc t p found h
