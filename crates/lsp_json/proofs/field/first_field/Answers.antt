use Rattle.std.specs.Prelude.{map, option_map}
use Rattle.std.proofs.Common.{◌∙◌, ◌∷◌, ap, sym}
use Rattle.lsp_json.specs.Fields.{field_of, fields_left}
use Rattle.lsp_json.proofs.field.first_field.Goals as goal

pub returns : goal.returns
returns c = record {
  fields = ap (map field_of) c.first_word.ensures.words
      ∙ ap (λ f. f ∷ fields_left (option_map (λ x. x.now) c.first_word.result.1))
      (sym c.field_of.ensures);
  less = c.first_word.ensures.less;
}
