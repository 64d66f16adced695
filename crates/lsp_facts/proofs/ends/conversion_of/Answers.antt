use Rattle.std.proofs.Common.{sym, ap, ◌∙◌}
use Rattle.std.specs.Bool.{then_some}
use Rattle.std.specs.Str.{chars}
use Rattle.lsp_facts.specs.EndsApart.{ends_in}
use Rattle.lsp_facts.proofs.EndLists.{by_test, kinds_of, none_here, none_there}
use Rattle.lsp_facts.proofs.ends.conversion_of.Goals as goal

pub returns-in_err-first : goal.returns-in_err-first
returns-in_err-first c =
    rw c.from_residual.ensures
    (sym (none_here c.args.held.now (ends_in (chars c.args.other.now)) c.in_err-first.ensures))

pub returns-in_err-second : goal.returns-in_err-second
returns-in_err-second c =
    rw c.from_residual-in_err-second.ensures
    (sym (none_there c.args.held.now c.args.other.now c.in_ok-first.first c.in_ok-first.ensures
    c.in_err-second.ensures))

pub returns-then-not-are_converted : goal.returns-then-not-are_converted
returns-then-not-are_converted c =
    let kinds = kinds_of c.in_ok-first.first c.in_ok-second.second in
    ap (λ b. then_some b kinds) (sym c.if-not-are_converted.true)
    ∙ by_test c.args.held.now c.args.other.now c.in_ok-first.first c.in_ok-second.second
    c.are_converted.result c.in_ok-first.ensures c.in_ok-second.ensures c.are_converted.ensures

pub returns : goal.returns
returns c =
    let kinds = kinds_of c.in_ok-first.first c.in_ok-second.second in
    ap (λ b. then_some b kinds) (sym c.if-not-are_converted.false)
    ∙ by_test c.args.held.now c.args.other.now c.in_ok-first.first c.in_ok-second.second
    c.are_converted.result c.in_ok-first.ensures c.in_ok-second.ensures c.are_converted.ensures
