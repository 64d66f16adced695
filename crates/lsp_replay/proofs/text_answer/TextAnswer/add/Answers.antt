use Rattle.std.proofs.Common.{◌++◌, ◌∙◌, ap, refl, string_bytes, sym}
use Rattle.std.proofs.lemmas.Str.{encodes-chars, IsUtf8-string_bytes}
use Rattle.lsp_replay.proofs.text_answer.TextAnswer.add.Goals as goal

pub returns-in_ok-push_str-in-Text : goal.returns-in_ok-push_str-in-Text
returns-in_ok-push_str-in-Text c =
    let bytes = string_bytes c.in-Text.held in
    let due = c.as_str.ensures.value ∙ sym (encodes-chars bytes (IsUtf8-string_bytes c.in-Text.held)) in
    rw c.in-Text.is (
      c.in_ok-push_str-in-Text.ensures.bytes ∙ ap (λ w. string_bytes c.args.text.now ++ w) due,
      refl,
    )
