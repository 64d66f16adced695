use Rattle.std.proofs.Common.{ap, sym, ◌∙◌}
use Rattle.std.specs.Prelude.{not}
use Rattle.std.specs.Str.{bytes_eq, chars}
use Rattle.lsp_types.specs.declared.line_ends.LineEnds.{LineEnds}
use Rattle.lsp_types.specs.declared.line_ends.LineEnds.TheVariants.{Ignored}
use Rattle.lsp_text.specs.SameText.{same_text}
use Rattle.lsp_docs.specs.Stored.{text_of}
use Rattle.lsp_docs.proofs.Others.{same_characters, same_where}
use Rattle.lsp_docs.proofs.snapshot.is_other_text.Goals as goal

pub returns-in-Exact : goal.returns-in-Exact
returns-in-Exact c =
    let text = chars c.args.text.now in
    c.ne.ensures
    ∙ (ap not (same_characters c.as_str.result.now c.args.text.now c.as_str.utf8 c.utf8.text)
    ∙ (ap (λ bs. not (bytes_eq text (chars bs))) c.as_str.ensures.value
    ∙ ap (λ (ends : LineEnds). not (same_text ends text (text_of c.args.other.now)))
    (sym c.in-Exact.is)))

pub returns-in-Ignored : goal.returns-in-Ignored
returns-in-Ignored c =
    let text = chars c.args.text.now in
    ap not (same_where Ignored text (chars c.as_str-in-Ignored.result.now) c.same_lines.result
    c.same_lines.ensures)
    ∙ (ap (λ bs. not (same_text Ignored text (chars bs))) c.as_str-in-Ignored.ensures.value
    ∙ ap (λ (ends : LineEnds). not (same_text ends text (text_of c.args.other.now)))
    (sym c.in-Ignored.is))
