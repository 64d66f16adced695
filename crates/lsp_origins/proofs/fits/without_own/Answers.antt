use Rattle.std.specs.Prelude.{length}
use Rattle.std.proofs.Common.{◌≡◌, ◌<◌, append-nil, arith, refl, rules, true}
use Rattle.std.proofs.lemmas.Bool.Decides.{nat_tests}
use Rattle.lsp_trail.specs.SentEdits.{sents_view}
use Rattle.lsp_origins.proofs.Fitting.{are_named, many_named, no_sents, none_named, sents-length}
use Rattle.lsp_origins.proofs.Fitting.{some_sents}
use Rattle.lsp_origins.proofs.fits.without_own.Goals as goal

pub returns-then-is_empty : goal.returns-then-is_empty
returns-then-is_empty c =
    let none : length c.args.sent.now ≡ 0 = search (rules, c.is_empty.ensures, c.if-is_empty.true) in
    none_named (sents_view c.args.sent.now) (no_sents c.args.sent.now none)

pub returns-then-sent-gt-MOST_NAMED : goal.returns-then-sent-gt-MOST_NAMED
returns-then-sent-gt-MOST_NAMED c =
    many_named true (sents_view c.args.sent.now) (omega (arith, sents-length c.args.sent.now))

pub returns : goal.returns
returns c =
    let some : 0 < length c.args.sent.now = grind (arith, nat_tests) in
    let sent = sents_view c.args.sent.now in
    are_named true sent _ refl (omega (arith, sents-length c.args.sent.now))
    (some_sents c.args.sent.now some) (append-nil sent)
