use Rattle.std.proofs.Common.{◌++◌, [], ◌∷◌, None, List, ℕ, ap, refl, subst, sym, ◌∙◌}
use Rattle.std.proofs.lemmas.Bool.{false≢true}
use Rattle.lsp_text.specs.SameText.{BeginsOtherwise, due, with_feeds}
use Rattle.lsp_lined.specs.declared.walk.LinesAhead.{LinesAhead}
use Rattle.lsp_lined.proofs.HeldText.{holds}
use Rattle.lsp_text.proofs.SameTexts.{from_none}
use Rattle.lsp_lined.proofs.Walks.{lines_in_order}
use Rattle.lsp_lined.proofs.lined.lines.Lines.have.Goals as goal

pub walk-requires-clause-order : goal.walk-requires-clause-order
walk-requires-clause-order c = lines_in_order (λ (a : LinesAhead). due a.left)

pub returns-in-Ok-clause-value : goal.returns-in-Ok-clause-value
returns-in-Ok-clause-value c =
    let taken =
    c.is_taken.ensures c.args.self.now
    (c.in-Ok.ensures.ok
    ∙ ap (λ (x : List ℕ). with_feeds x ++ due c.walk.new.visitor.left) c.self.view_is)
    in (
      λ t. taken.0 t ∙ sym c.without_last_end-whole.ensures,
      λ e. taken.1 (e ∙ c.without_last_end-whole.ensures),
    )

pub returns-in-Ok-clause-utf8 : goal.returns-in-Ok-clause-utf8
returns-in-Ok-clause-utf8 c = (holds c.self.inside.held c.args.self.now c.self.invariant c.self.view_is).utf8

pub returns-in-Err-clause-value : goal.returns-in-Err-clause-value
returns-in-Err-clause-value c =
    let whole = c.without_last_end-whole.result.now in (
      λ t. absurd (false≢true t),
      λ e. absurd (from_none c.args.self.now whole None refl
          (subst (λ (x : List ℕ). BeginsOtherwise (with_feeds x) (with_feeds whole ++ 10 ∷ []))
          c.self.view_is c.in-Err.ensures.err)
          (e ∙ c.without_last_end-whole.ensures)),
    )

pub returns-in-Err-clause-utf8 : goal.returns-in-Err-clause-utf8
returns-in-Err-clause-utf8 c = (holds c.self.inside.held c.args.self.now c.self.invariant c.self.view_is).utf8
