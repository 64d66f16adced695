use Rattle.std.proofs.Common.{List, Option, inl, inr, subst, sym}
use Rattle.std.proofs.lemmas.Result.{err_from_is_err_and}
use Rattle.clap.specs.Words.{Row, Text, subcommand_rows_of}
use Rattle.lsp_request.specs.Words.{AsksFor, RequestIn}
use Rattle.lsp_request.specs.declared.command_line.task.Request.{Request}
use Rattle.lsp_request.proofs.command_line.words.request_of.Goals as goal

pub returns-in_err-found-clause-err : goal.returns-in_err-found-clause-err
returns-in_err-found-clause-err c =
    let p = err_from_is_err_and c.from_residual.result c.from_residual.ensures.1 in
    let refused = c.in_err-found.ensures.err in
    rw (p.1, p.2) (refused.0, refused.1, inl refused.2)

pub returns-in_err-requested-clause-err : goal.returns-in_err-requested-clause-err
returns-in_err-requested-clause-err c =
    let from = c.from_residual-in_err-requested in
    let p = err_from_is_err_and from.result from.ensures.1 in
    let found = c.in_ok-found.ensures.ok in
    rw p.1 (found.0, found.1, inl (inl p.2))

pub returns-in-Some-clause-ok : goal.returns-in-Some-clause-ok
returns-in-Some-clause-ok c =
    let found = c.in_ok-found.ensures.ok in
    let asked = subst
    (λ (r : Option Request). RequestIn (subcommand_rows_of c.in_ok-found.found) r)
    c.in-Some.is c.in_ok-requested.ensures in (
      found.0,
      found.1,
      record {
        taken = found.2.taken;
        found = subst (λ (o : Option (Text × List Row)). AsksFor o c.in-Some.request) found.2.command asked;
      },
    )

pub returns-in_err-command_required-in-None-clause-err : goal.returns-in_err-command_required-in-None-clause-err
returns-in_err-command_required-in-None-clause-err c =
    let from = c.from_residual-in_err-command_required-in-None in
    let p = err_from_is_err_and from.result from.ensures.1 in
    let found = c.in_ok-found.ensures.ok in
    rw p.1 (found.0, found.1, inl (inl p.2))

pub returns-clause-err : goal.returns-clause-err
returns-clause-err c =
    let found = c.in_ok-found.ensures.ok in
    let none = subst
    (λ (r : Option Request). RequestIn (subcommand_rows_of c.in_ok-found.found) r)
    c.in-None.is c.in_ok-requested.ensures in (
      found.0,
      found.1,
      inr (
        c.in_ok-command_required-in-None.ensures,
        λ request asked. none request
            (subst (λ (o : Option (Text × List Row)). AsksFor o request) (sym found.2.command) asked),
      ),
    )
