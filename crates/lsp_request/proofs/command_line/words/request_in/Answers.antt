use Rattle.std.proofs.Common.{subst, sym, List, Option, Some}
use Rattle.clap.specs.Words.{Row, Text}
use Rattle.lsp_request.specs.Words.{AsksFor, rows_in}
use Rattle.lsp_request.specs.declared.command_line.task.Request.{Request}
use Rattle.lsp_request.proofs.Found.{subcommand_is}
use Rattle.lsp_request.proofs.command_line.words.request_in.Goals as goal

pub returns : goal.returns
returns c =
    let name = c.in-Some.name.now in
    let arguments = c.in-Some.arguments.now in
    let named = c.in-Some.ensures in
    let found = subcommand_is c.args.matches.now name (rows_in arguments) named.name named.rows in
    let request : Request = record {
      task = c.in-Some-task_of.task;
      inputs = c.in_ok-inputs.inputs;
      quiet = c.is_set-quiet.result;
      compared = c.is_set-compared.result;
      both_texts = c.asks_both-both_texts.result;
      line_ends = c.line_ends_of.result;
      json = c.is_set-json.result;
    } in
    let asked : AsksFor (Some (name, rows_in arguments)) request = record {
      task = c.in-Some-task_of.ensures;
      inputs = c.in_ok-inputs.ensures;
      quiet = c.is_set-quiet.ensures;
      compared = c.is_set-compared.ensures;
      both_texts = c.asks_both-both_texts.ensures;
      line_ends = (c.is_set-ignored.result, c.is_set-ignored.ensures, c.line_ends_of.ensures);
      json = c.is_set-json.ensures;
    } in
    subst (λ (o : Option (Text × List Row)). AsksFor o request) (sym found) asked
