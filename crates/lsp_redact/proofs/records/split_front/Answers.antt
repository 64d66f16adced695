use Rattle.std.proofs.Common.{◌≤◌, ◌-◌, ℕ, List, ap, subst, sym, ◌∙◌, drop, length, max, take}
use Rattle.std.specs.Iterator.{SkipsThenYields}
use Rattle.std.specs.Str.{IsCharBoundary}
use Rattle.std.specs.Str.Iter.{chars_rest, chars_steps}
use Rattle.lsp_redact.proofs.CutTexts.{IsFront, cut_at, front_at, rest_within}
use Rattle.lsp_redact.proofs.records.split_front.Goals as goal

pub overflow_sub-at : goal.overflow_sub-at
overflow_sub-at c =
    subst (λ (rest : List ℕ). length rest ≤ length c.args.text.now) (sym c.as_str-left.ensures)
    (rest_within c.args.text.now c.chars-rest.result c.nth.new.self c.saturating_sub.result
    c.nth.result c.chars-rest.ensures.rest c.nth.ensures.ran)

pub split_at-requires : goal.split_at-requires
split_at-requires c =
    let text = c.args.text.now in
    let u = c.nth.new.self in
    let front : IsFront text (max c.args.most 1) (length text - length (chars_rest u)) =
    front_at text c.chars-rest.result u c.args.most c.nth.result c.utf8.text
    c.chars-rest.ensures.rest
    (subst (λ (k : ℕ). SkipsThenYields chars_steps c.chars-rest.result k c.nth.result u)
    c.saturating_sub.ensures c.nth.ensures.ran) in
    subst (λ (rest : List ℕ). IsCharBoundary text (length text - length rest))
    (sym c.as_str-left.ensures) front.boundary

pub returns : goal.returns
returns c =
    let text = c.args.text.now in
    let u = c.nth.new.self in
    let front : IsFront text (max c.args.most 1) (length text - length (chars_rest u)) =
    front_at text c.chars-rest.result u c.args.most c.nth.result c.utf8.text
    c.chars-rest.ensures.rest
    (subst (λ (k : ℕ). SkipsThenYields chars_steps c.chars-rest.result k c.nth.result u)
    c.saturating_sub.ensures c.nth.ensures.ran) in
    let at = λ (rest : List ℕ). length text - length rest in
    let cut = cut_at text (max c.args.most 1) _ front c.split_at.result.0.now
    c.split_at.result.1.now
    (c.split_at.ensures.front ∙ ap (λ rest. take (at rest) text) c.as_str-left.ensures)
    (c.split_at.ensures.back ∙ ap (λ rest. drop (at rest) text) c.as_str-left.ensures) in
    record { front = cut.0; back = cut.1; utf8 = cut.2; less = cut.3 }
