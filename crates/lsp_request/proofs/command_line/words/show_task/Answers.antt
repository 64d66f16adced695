use Rattle.std.proofs.Common.{refl}
use Rattle.lsp_request.proofs.command_line.words.show_task.Goals as goal

pub returns : goal.returns
returns c = record {
  command = refl;
  arguments = record {
    long = c.is_set-long.result;
    long_is = c.is_set-long.ensures;
    lines_is = c.lines_of.ensures;
    extent_is = (c.is_set-all.result, c.is_set-all.ensures, c.extent_of.ensures);
    form_is = (c.is_set-json.result, c.is_set-json.ensures, c.form_of.ensures);
  };
}
