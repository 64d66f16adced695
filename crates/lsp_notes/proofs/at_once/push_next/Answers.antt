use Rattle.std.specs.Prelude.{string_bytes}
use Rattle.std.proofs.Common.{◌++◌, ◌-◌, ◌∙◌, List, ℕ, ap, subst, sym}
use Rattle.std.specs.Str.{chars}
use Rattle.lsp_notes.specs.AtOnce.{IsPut, IsSplit, splice_with}
use Rattle.lsp_notes.proofs.AtOnceSteps.{put_next}
use Rattle.lsp_notes.proofs.at_once.push_next.Goals as goal

pub returns : goal.returns
returns c = λ utf8.
    let at = c.args.at in
    let front : IsSplit (at.first - c.args.here) c.args.rest.now c.in_ok-front.front.now
    c.in_ok-front.behind.now =
    subst (λ (n : ℕ). IsSplit n c.args.rest.now c.in_ok-front.front.now c.in_ok-front.behind.now)
    c.saturating_sub.ensures c.in_ok-front.ensures in
    let behind : IsSplit (at.second - at.first) c.in_ok-front.behind.now c.in_ok-left.field-0-0.now
    c.in_ok-left.left.now =
    subst (λ (n : ℕ). IsSplit n c.in_ok-front.behind.now c.in_ok-left.field-0-0.now
    c.in_ok-left.left.now) c.saturating_sub-2.ensures c.in_ok-left.ensures in
    subst (λ (new : List ℕ). IsPut c.args.here (chars c.args.rest.now)
    (splice_with (chars c.args.text.now) at) (string_bytes c.args.made.now) new
    c.in_ok-left.left.now)
    (sym (c.in_ok-push_str-2.ensures.bytes
    ∙ ap (λ b. b ++ c.args.text.now) c.in_ok-push_str.ensures.bytes))
    (put_next c.args.here c.args.rest.now (string_bytes c.args.made.now) c.in_ok-front.front.now
    c.in_ok-front.behind.now c.in_ok-left.field-0-0.now c.in_ok-left.left.now c.args.text.now at utf8
    c.utf8.text front behind)
