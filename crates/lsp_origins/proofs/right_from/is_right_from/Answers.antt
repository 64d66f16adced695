use Rattle.std.specs.Prelude.{IfOk}
use Rattle.std.specs.Str.{chars}
use Rattle.std.proofs.Common.{◌≡◌, ◌∙◌, ap, subst}
use Rattle.lsp_trail.specs.Bases.{later}
use Rattle.lsp_origins.specs.Fits.{suspects_view}
use Rattle.lsp_origins.specs.RightFrom.{some_by}
use Rattle.lsp_origins.proofs.right_from.is_right_from.Goals as goal

pub returns : goal.returns
returns c =
    let trial = c.args.trial in
    let text = c.in_ok-text.text.content in
    let after = ap suspects_view c.as_slice.ensures.value ∙ c.in_ok-after.ensures in
    let content = c.in_ok-text.ensures.content ∙ ap chars c.as_str.ensures.value in
    subst (λ t. IfOk c.some_give.result (λ b. b ≡ some_by trial t
    (later c.args.shown.now.version (suspects_view c.args.suspects.now)))) content
    (subst (λ sent. IfOk c.some_give.result (λ b. b ≡ some_by trial text sent)) after
    c.some_give.ensures)
