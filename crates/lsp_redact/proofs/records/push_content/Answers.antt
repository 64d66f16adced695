use Rattle.std.proofs.Common.{List, ℕ, ◌++◌, ap, map, max, string_bytes, ◌∙◌}
use Rattle.std.specs.List.{flat_map}
use Rattle.lsp_log.specs.Log.{chunk, spelling}
use Rattle.lsp_redact.specs.Records.{pieces}
use Rattle.lsp_redact.proofs.records.push_content.Goals as goal

pub returns : goal.returns
returns c =
    c.in_ok-push_pieces.ensures
    ∙ ap (λ (t : List ℕ). string_bytes c.args.text.now
    ++ flat_map spelling (map (chunk c.args.side) (pieces (max c.args.most 1) t)))
    (c.as_str.ensures.value ∙ c.in_ok-frame.ensures)
