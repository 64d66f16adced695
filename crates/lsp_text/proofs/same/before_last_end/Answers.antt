use Rattle.std.proofs.Common.{[], ◌∷◌, ◌++◌, List, ℕ, ap, ◌∙◌}
use Rattle.std.proofs.lemmas.List.{append_assoc}
use Rattle.lsp_text.specs.SameText.{with_feeds}
use Rattle.lsp_text.proofs.SameTexts.{ends_both, ends_feed, last_end}
use Rattle.lsp_text.proofs.same.before_last_end.Goals as goal

pub returns-in-Some : goal.returns-in-Some
returns-in-Some c = ap with_feeds c.in-Some.ensures ∙ ends_both c.in-Some.front.now

pub returns-in-Some-before : goal.returns-in-Some-before
returns-in-Some-before c =
    ap with_feeds c.in-Some-before.ensures
    ∙ ends_feed c.in-Some-before.front.now
    (λ f e. c.in_default.ensures f (c.in-Some-before.ensures ∙ ap (λ (x : List ℕ). x ++ 10 ∷ []) e
    ∙ append_assoc f (13 ∷ []) (10 ∷ [])))

pub returns : goal.returns
returns c = last_end c.args.text.now c.before-4.result c.in_default-before.ensures
    c.before-4.ensures
