use Rattle.std.proofs.Common.{◌≡◌, ap, sym, ◌∙◌, string_bytes, length}
use Rattle.std.proofs.lemmas.Str.{chars_from_encodes, IsUtf8-string_bytes}
use Rattle.std.specs.Str.{chars}
use Rattle.lsp_facts.specs.Fact.{left_after, left_before, shown, text_of}
use Rattle.lsp_facts.proofs.part.part_at.Goals as goal

pub returns : goal.returns
returns c =
    let line = chars c.args.line.now in
    let text = c.in_ok-text.text in
    let count = c.char_count-count.ensures in
    let place = length (chars c.args.front.now) in
    let before : c.left_before-before.result ≡ left_before (length line) place =
    c.left_before-before.ensures ∙ ap (λ n. left_before n c.char_count.result) count
    ∙ ap (left_before (length line)) c.char_count.ensures in
    let told : text_of text ≡ shown c.left_before-before.result line =
    sym (chars_from_encodes (shown c.left_before-before.result line) (string_bytes text)
    (IsUtf8-string_bytes text) (sym c.in_ok-text.ensures)) in
    λ i. record {
      before = before i;
      text = (told ∙ ap (λ n. shown n line) before) i;
      after = (c.left_after.ensures ∙ (λ j. left_after (count j) (before j))) i;
    }
