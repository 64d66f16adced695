use Rattle.std.proofs.Common.{refl, sym, ◌∙◌}
use Rattle.std.proofs.lemmas.Bool.{false≢true}
use Rattle.lsp_text.specs.SameText.{with_feeds}
use Rattle.lsp_text.proofs.SameTexts.{from_none, from_nothing, from_more, from_end, is_open}
use Rattle.lsp_text.proofs.same.is_taken.Goals as goal

pub returns-in_default : goal.returns-in_default
returns-in_default c = λ taken h. (
  λ t. absurd (false≢true t),
  λ e. absurd (from_none taken c.args.whole.now c.args.left c.in_default.is h e),
)

pub returns-in-Nothing : goal.returns-in-Nothing
returns-in-Nothing c =
    λ taken h. (
      λ t. from_nothing taken c.args.whole.now c.args.left c.in-Some.last c.in-Some.is
          c.in-Nothing.is h,
      λ e. refl,
    )

pub returns-then-is_empty : goal.returns-then-is_empty
returns-then-is_empty c =
    λ taken h.
    from_end taken c.args.whole.now c.args.left c.in-Some.last c.in-Rest.rest c.is_none.result
    c.in-Some.is c.in-Rest.is (sym c.is_empty.ensures ∙ c.if-is_empty.true)
    (is_open (with_feeds c.args.whole.now) c.before_last_end.result c.is_none.result
    c.is_none.ensures c.before_last_end.ensures) h

pub returns-else-is_empty : goal.returns-else-is_empty
returns-else-is_empty c =
    λ taken h. (
      λ t. absurd (false≢true (sym c.if-is_empty.false ∙ t)),
      λ e. absurd (from_more taken c.args.whole.now c.args.left c.in-Some.last c.in-Rest.rest
          c.in-Some.is c.in-Rest.is (sym c.is_empty.ensures ∙ c.if-is_empty.false) h e),
    )
