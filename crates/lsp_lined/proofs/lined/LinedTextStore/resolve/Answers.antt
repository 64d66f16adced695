use Rattle.std.proofs.Common.{ℕ, Option, Ok, ap, sym, subst, ◌∙◌}
use Rattle.lsp_lined.specs.Counted.{Counted}
use Rattle.lsp_text.specs.Places.{place_of}
use Rattle.lsp_text.specs.Edits.{IsPlaceOr605}
use Rattle.lsp_lined.proofs.lined.LinedTextStore.resolve.Goals as goal

pub returns-in-Some : goal.returns-in-Some
returns-in-Some c =
    subst (λ (o : Option ℕ). IsPlaceOr605 o (Ok (record { chars = c.chars_before.result })))
    (sym (ap (λ (x : Counted). place_of c.args.encoding x.content c.args.position) (sym c.self.view_is) ∙ c.in-Some.ensures.place.place)) (ap (λ (n : ℕ). Ok (record { chars = n })) c.chars_before.ensures)
