use Rattle.std.specs.Prelude.{if◌then◌else◌}
use Rattle.std.proofs.Common.{rules, ◌≡◌, ◌∙◌, ◌==◌, ℕ, false, List, [], ◌∷◌, ap, length, sym}
use Rattle.std.proofs.lemmas.Bool.{true≢false}
use Rattle.lsp_request.specs.Hints.{has_mark, is_stream, log_hint, session_hint}
use Rattle.lsp_request.specs.declared.hint.Hint.TheVariants as hints
use Rattle.lsp_request.proofs.hint.log_hint.Goals as goal

-- what is not empty, no stream and has no byte order mark is looked at further
later : (bytes : List ℕ) → (length bytes == 0) ≡ false → is_stream bytes ≡ false
    → has_mark bytes ≡ false → session_hint bytes ≡ log_hint bytes
later [] some stream mark = absurd (true≢false some)
later (byte ∷ bytes) some stream mark =
    let all = byte ∷ bytes in
    sym (ap (λ b. if b then hints.RawStream
    else if has_mark all then hints.ByteOrderMark else session_hint all) stream
    ∙ ap (λ b. if b then hints.ByteOrderMark else session_hint all) mark)

pub returns : goal.returns
returns c =
    let bytes = c.args.bytes.now in
    let some : (length bytes == 0) ≡ false = search (rules, c.is_empty.ensures, c.if-is_empty.false) in
    let stream : is_stream bytes ≡ false = search (rules, c.is_stream.ensures, c.if-is_stream.false) in
    let mark : has_mark bytes ≡ false = search (rules, c.begins.ensures, c.if-begins.false) in
    c.session_hint.ensures ∙ later bytes some stream mark
