use Rattle.std.proofs.Common.{sym, ap, ◌∙◌}
use Rattle.std.specs.Str.{chars}
use Rattle.lsp_types.specs.declared.line_ends.LineEnds.TheVariants.{Exact, Ignored}
use Rattle.lsp_docs.proofs.Mixed.{any_other, mixed-kept}
use Rattle.lsp_docs.proofs.snapshot.Texts.push.Goals as goal

pub invariant_of-self-2 : goal.invariant_of-self-2
invariant_of-self-2 c =
    let bytes = c.as_str-added.result.now in
    let old = c.self.inside.texts.items in
    let new = c.push.new.self.items in
    record {
      exact = c.any_is_not-mixed.ensures
          ∙ (ap (any_other Exact (chars bytes)) (sym c.self.view_is)
          ∙ mixed-kept Exact old new c.args.text bytes c.as_str-added.ensures.value
          c.in_ok-push.ensures.items);
      lines = c.any_is_not-mixed_lines.ensures
          ∙ (ap (any_other Ignored (chars bytes)) (sym c.self.view_is)
          ∙ mixed-kept Ignored old new c.args.text bytes c.as_str-added.ensures.value
          c.in_ok-push.ensures.items);
    }
