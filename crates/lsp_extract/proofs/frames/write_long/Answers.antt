use Rattle.std.proofs.lemmas.Result.{err_from_is_err_and}
use Rattle.lsp_extract.proofs.Framing.Long.{long_failed, long_ended, long_written, long_unwritten}
use Rattle.lsp_extract.proofs.frames.write_long.Goals as goal

pub returns-in_err-pass-clause-answer : goal.returns-in_err-pass-clause-answer
returns-in_err-pass-clause-answer g c =
    λ limits before sink_before read told fits.
    let p = err_from_is_err_and c.from_residual.result c.from_residual.ensures.1 in
    rw (p.1, p.2) (long_failed _ _ _ _ _ _ _ _ _ _ _ _ c.requires.missing told c.in_err-pass.ensures
    fits)

pub returns-then-not-branch-clause-answer : goal.returns-then-not-branch-clause-answer
returns-then-not-branch-clause-answer g c =
    λ limits before sink_before read told fits.
    long_ended _ _ _ _ _ _ _ _ _ _ c.args.missing c.requires.missing told
    (rw c.if-not-branch.true at c.in_ok-pass.ensures) fits

pub returns-in_err-write_numbers-clause-answer : goal.returns-in_err-write_numbers-clause-answer
returns-in_err-write_numbers-clause-answer g c =
    λ limits before sink_before read told fits.
    let p = err_from_is_err_and c.from_residual-in_err-write_numbers.result
    c.from_residual-in_err-write_numbers.ensures.1 in
    rw (p.1, p.2) (long_unwritten _ _ _ _ _ _ _ _ _ _ _ c.args.missing c.requires.missing told
    (rw c.if-not-branch.false at c.in_ok-pass.ensures) fits c.in_err-write_numbers.ensures)

pub returns-clause-answer : goal.returns-clause-answer
returns-clause-answer g c =
    λ limits before sink_before read told fits.
    long_written _ _ _ _ _ _ _ _ _ _ _ c.args.missing told
    (rw c.if-not-branch.false at c.in_ok-pass.ensures) c.requires.missing.some fits
    c.in_ok-write_numbers.ensures
