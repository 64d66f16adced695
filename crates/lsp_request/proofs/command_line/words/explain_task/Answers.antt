use Rattle.std.proofs.Common.{◌∙◌, refl, sym}
use Rattle.lsp_request.proofs.command_line.words.explain_task.Goals as goal

-- one of the two texts
pub returns-in-Some : goal.returns-in-Some
returns-in-Some c = record {
  command = refl;
  arguments = (
    c.is_set-by_messages.result,
    c.is_set-in_editor.result,
    c.is_set-by_messages.ensures,
    c.is_set-in_editor.ensures,
    sym c.in-Some.is ∙ c.compared_of.ensures,
  );
}

pub returns : goal.returns
returns c = record {
  command = refl;
  arguments = record {
    complete = c.is_set-complete.result;
    no_text = (
      c.is_set-by_messages.result,
      c.is_set-in_editor.result,
      c.is_set-by_messages.ensures,
      c.is_set-in_editor.ensures,
      sym c.in_default.is ∙ c.compared_of.ensures,
    );
    complete_is = c.is_set-complete.ensures;
    completeness_is = c.completeness_of.ensures;
    explanation_is = (
      c.is_set-all.result,
      c.is_set-notes.result,
      c.is_set-all.ensures,
      c.is_set-notes.ensures,
      c.explanation_of-explanation.ensures,
    );
    form_is = (c.is_set-json.result, c.is_set-json.ensures, c.form_of.ensures);
  };
}
