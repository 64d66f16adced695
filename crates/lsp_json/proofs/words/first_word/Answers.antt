use Rattle.std.specs.Str.{IsCharBoundary}
use Rattle.std.proofs.Common.{◌∙◌, ap, arith, drop, subst, sym, take}
use Rattle.std.proofs.lemmas.Str.Pattern.{strip_prefix_char}
use Rattle.lsp_json.specs.Words.{word_len}
use Rattle.lsp_json.specs.declared.words.Place.TheVariants.{Outside}
use Rattle.lsp_json.proofs.Cuts.{boundary, less, words_are}
use Rattle.lsp_json.proofs.words.first_word.Goals as goal

pub split_at-requires : goal.split_at-requires
split_at-requires c =
    subst (IsCharBoundary c.args.line.now) (sym (c.word_len.ensures
    ∙ ap (word_len Outside) c.as_bytes.ensures.value)) (boundary c.args.line.now)

pub returns : goal.returns
returns c =
    let len = c.word_len.ensures ∙ ap (word_len Outside) c.as_bytes.ensures.value in
    let front = c.split_at.ensures.front ∙ ap (λ n. take n c.args.line.now) len in
    let back = c.split_at.ensures.back ∙ ap (λ n. drop n c.args.line.now) len in
    let stripped = strip_prefix_char 32 c.split_at.result.1.now c.strip_prefix.result
    c.strip_prefix.ensures.cases (omega arith) in
    record {
      words = words_are c.args.line.now _ _ _ front back stripped;
      less = less c.args.line.now _ _ _ front back stripped;
    }
