use Rattle.std.proofs.Common.{ℕ, ◌+◌, length, take, ap, ◌∙◌}
use Rattle.std.specs.Option.{option_map}
use Rattle.std.specs.Str.{chars}
use Rattle.lsp_text.proofs.Widths.{place_past_skipped, offset_past_skipped}
use Rattle.lsp_text.proofs.columns.offset_from_nearer.Goals as goal

pub returns-in_err-offset : goal.returns-in_err-offset
returns-in_err-offset c =
    rw c.from_residual.ensures
    (place_past_skipped c.args.encoding c.args.line.now c.split_at.result.1.now c.args.column c.skip_to_end-skipped.result.bytes c.skip_to_end-skipped.result.left c.utf8.line c.skip_to_end-skipped.ensures c.split_at.ensures.back
    ∙ ap (option_map (λ (k : ℕ). length (chars (take c.skip_to_end-skipped.result.bytes c.args.line.now)) + k)) c.in_err-offset.ensures)

pub returns : goal.returns
returns c =
    offset_past_skipped c.args.encoding c.args.line.now c.split_at.result.1.now c.args.column c.skip_to_end-skipped.result.bytes c.skip_to_end-skipped.result.left c.in_ok-offset.offset c.utf8.line c.skip_to_end-skipped.ensures c.split_at.ensures.back
    c.in_ok-offset.ensures
