use Rattle.std.proofs.Common.{◌≡◌, ◌++◌, ℕ, List, length, drop, ap, ap₂, sym, ◌∙◌}
use Rattle.std.proofs.lemmas.Bool.{true≢false}
use Rattle.std.proofs.lemmas.Str.{IsCharBoundary-at_seam}
use Rattle.lsp_text.proofs.CommonEnds.{IsUtf8-rest}
use Rattle.lsp_text.proofs.stretches.after_front.Goals as goal

-- what the bytes of two texts are to each other, the texts are
of_texts : (t f text front : List ℕ) → t ≡ text → f ≡ front → t ≡ f ++ drop (length f) t
    → text ≡ front ++ drop (length front) text
of_texts t f text front is also all = sym is ∙ all ∙ ap₂ (λ p q. p ++ drop (length p) q) also is

pub returns-then-not-begins_with : goal.returns-then-not-begins_with
returns-then-not-begins_with c =
    λ rest e. true≢false (sym (c.begins_with.ensures.no rest (c.as_bytes.ensures.value ∙ e
    ∙ ap (λ p. p ++ rest) (sym c.as_bytes-2.ensures.value))) ∙ c.if-not-begins_with.true)

pub split_at-requires : goal.split_at-requires
split_at-requires c =
    let text = c.args.text.now in
    let front = c.args.front.now in
    let whole = of_texts c.as_bytes.result.now c.as_bytes-2.result.now text front
    c.as_bytes.ensures.value c.as_bytes-2.ensures.value
    (c.begins_with.ensures.yes c.if-not-begins_with.false) in
    IsCharBoundary-at_seam text front (drop (length front) text) whole
    (IsUtf8-rest front text (drop (length front) text) c.utf8.front c.utf8.text whole)

pub returns : goal.returns
returns c =
    of_texts c.as_bytes.result.now c.as_bytes-2.result.now c.args.text.now c.args.front.now
    c.as_bytes.ensures.value c.as_bytes-2.ensures.value
    (c.begins_with.ensures.yes c.if-not-begins_with.false)
    ∙ ap (λ q. c.args.front.now ++ q) (sym c.split_at.ensures.back)
