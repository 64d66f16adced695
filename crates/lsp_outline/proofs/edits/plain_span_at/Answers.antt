use Rattle.lsp_outline.proofs.Spans.{span_read}
use Rattle.lsp_outline.proofs.edits.plain_span_at.Goals as goal

pub returns : goal.returns
returns c =
    λ depth some.
    let r = c.in_ok-start.ensures depth some in
    (r.0, rw (← c.as_bytes.ensures.value) r.1, span_read r.0 _ r.2)
