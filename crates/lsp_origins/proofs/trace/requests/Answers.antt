use Rattle.std.proofs.Common.{◌≡◌, List, [], ◌∷◌, ◌++◌, map, None, refl, sym, ap, ◌∙◌, append-nil}
use Rattle.std.specs.Prelude.{slice_get}
use Rattle.std.proofs.lemmas.Option.{none-some}
use Rattle.lsp_trail.specs.Asking.{numbered}
use Rattle.lsp_origins.specs.Traced.{waiting_by}
use Rattle.lsp_origins.proofs.trace.requests.Goals as goal

none_left : {A : Type 0} (xs : List A) → None ≡ slice_get xs 0 → xs ≡ []
none_left [] none = refl
none_left (x ∷ xs) none = absurd (none-some x none)

pub returns : goal.returns
returns c = λ terms before are.
    let facts = c.loop-request.facts in
    sym (append-nil facts)
    ∙ ap (λ left. facts ++ map (waiting_by (numbered terms before)) left)
    (sym (none_left c.loop-request.requests c.in_default.ensures.next))
    ∙ c.loop-request.invariant terms before are
