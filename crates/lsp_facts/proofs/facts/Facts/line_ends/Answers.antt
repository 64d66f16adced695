use Rattle.std.proofs.Common.{◌++◌, ◌∷◌, [], ◌∙◌, ap, append_assoc, sym}
use Rattle.std.proofs.lemmas.Result.{on_ok_weaker}
use Rattle.std.specs.Prelude.{if◌then◌else◌}
use Rattle.std.specs.Str.{chars}
use Rattle.lsp_facts.specs.DocumentFacts.{offer_facts}
use Rattle.lsp_facts.specs.EndsApart.{ends_apart}
use Rattle.lsp_facts.proofs.facts.Facts.line_ends.Goals as goal

pub returns : goal.returns
returns c = on_ok_weaker c.offer.result (λ said.
    let old = c.args.self.now in
    let fact = ends_apart (chars c.args.held.now) (chars c.args.other.now) in
    let offer = offer_facts c.args.was_equal in
    said ∙ ap (λ l. l ++ offer) c.in_ok-ends.ensures ∙ append_assoc old (fact ∷ []) offer
    ∙ ap (λ b. old ++ (if b then fact ∷ offer else []))
    (sym c.if-not-are_same_lines.false ∙ c.are_same_lines.ensures)) c.offer.ensures
