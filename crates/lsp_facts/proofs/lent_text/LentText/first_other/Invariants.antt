use Rattle.std.proofs.Common.{◌≡◌, take, None}
use Rattle.std.specs.List.{find}
use Rattle.lsp_docs.specs.Stored.{text_of}
use Rattle.lsp_facts.specs.TwoTexts.{lent_text}
use Rattle.lsp_facts.specs.Refuting.{is_other}
use Rattle.lsp_facts.proofs.lent_text.LentText.first_other.Given as goal

abbrev pub invariant-loop-other : goal.invariant-loop-other
invariant-loop-other g l =
    find (λ t. is_other l.line_ends (lent_text g.S.TextStore.content l.self) (text_of t))
    (take l.other-index l.texts) ≡ None
