use Rattle.std.proofs.Common.{inl}
use Rattle.std.proofs.lemmas.Result.{err_from_is_err_and}
use Rattle.clap.specs.Words.{app_of}
use Rattle.lsp_words.proofs.Line.{line_free, line_simple, some_line}
use Rattle.lsp_words.proofs.finding.found_in.Goals as goal

pub returns-in_err-command-clause-err : goal.returns-in_err-command-clause-err
returns-in_err-command-clause-err c =
    let p = err_from_is_err_and c.from_residual.result c.from_residual.ensures.1 in
    rw p.1 (some_line.0, some_line.1, inl p.2)

pub returns-in_err-found-clause-err : goal.returns-in_err-found-clause-err
returns-in_err-found-clause-err c =
    let from = c.from_residual-in_err-found in
    let p = err_from_is_err_and from.result from.ensures.1 in
    let line = c.in_ok-command.ensures in
    rw (p.1, p.2)
    (app_of c.in_ok-command.command, line, c.in_err-found.ensures.kinds (line_free _ line))

pub returns-clause-ok : goal.returns-clause-ok
returns-clause-ok c =
    let line = c.in_ok-command.ensures in (
      app_of c.in_ok-command.command,
      line,
      record {
        taken = c.in_ok-found.ensures.kinds (line_free _ line);
        command = (c.in_ok-found.ensures.ok.2 (line_simple _ line)).1;
      },
    )
