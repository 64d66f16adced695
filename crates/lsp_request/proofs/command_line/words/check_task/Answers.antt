use Rattle.std.proofs.Common.{◌∙◌, ap, refl}
use Rattle.lsp_request.specs.Words.{report_of}
use Rattle.lsp_request.proofs.command_line.words.check_task.Goals as goal

pub returns : goal.returns
returns c = record {
  command = refl;
  arguments = record {
    complete = c.is_set-complete.result;
    all = c.is_set-all.result;
    every = c.is_set-every.result;
    complete_is = c.is_set-complete.ensures;
    all_is = c.is_set-all.ensures;
    every_is = c.is_set-every.ensures;
    completeness_is = c.completeness_of.ensures;
    report_is = c.report_of.ensures ∙ ap report_of c.listing_of-listing.ensures;
    form_is = (c.is_set-json.result, c.is_set-json.ensures, c.form_of.ensures);
  };
}
