use Rattle.std.specs.Prelude.{min}
use Rattle.std.proofs.Common.{◌≡◌, ◌∙◌, ap, drop, length, map, rules, sym, take}
use Rattle.std.proofs.lemmas.List.{drop-map, drop_min, take-map, take_min}
use Rattle.lsp_json.specs.Fields.{word_view}
use Rattle.lsp_json.proofs.field.Field.split.Goals as goal

pub returns : goal.returns
returns c =
    let words = c.args.words.now in
    let count : c.min.result ≡ min c.size.result (length words) = search rules in
    record {
      own = ap (map word_view) (c.split_at.ensures.front ∙ ap (λ n. take n words) count
          ∙ take_min c.size.result words)
          ∙ sym (take-map word_view c.size.result words)
          ∙ ap (λ n. take n (map word_view words)) c.size.ensures;
      behind = ap (map word_view) (c.split_at.ensures.back ∙ ap (λ n. drop n words) count
          ∙ drop_min c.size.result words)
          ∙ sym (drop-map word_view c.size.result words)
          ∙ ap (λ n. drop n (map word_view words)) c.size.ensures;
    }
