use Rattle.std.proofs.Common.{◌≡◌, ◌++◌, ◌∷◌, [], ◌∙◌, Option, ap, subst, sym}
use Rattle.std.specs.Prelude.{OnOk, option_map}
use Rattle.std.specs.Str.{chars}
use Rattle.lsp_facts.specs.EndsApart.{Conversion, conversion_view, ends_by}
use Rattle.lsp_facts.proofs.facts.Facts.ends.Goals as goal

pub returns-in-Some : goal.returns-in-Some
returns-in-Some c =
    subst (λ (o : Option Conversion). OnOk c.converted.result (c.converted.new.self
    ≡ c.args.self.now ++ ends_by o (chars c.args.held.now) (chars c.args.other.now) ∷ []))
    (ap (option_map conversion_view) (sym c.in-Some.is) ∙ c.conversion_of.ensures) c.converted.ensures

pub returns-in-None : goal.returns-in-None
returns-in-None c =
    subst (λ (o : Option Conversion). OnOk c.last_or_mixed.result (c.last_or_mixed.new.self
    ≡ c.args.self.now ++ ends_by o (chars c.args.held.now) (chars c.args.other.now) ∷ []))
    (ap (option_map conversion_view) (sym c.in-None.is) ∙ c.conversion_of.ensures)
    c.last_or_mixed.ensures
