use Rattle.std.proofs.Common.{List, ℕ, ◌++◌, append_assoc, ap, decimal, length, sym, ◌∙◌}
use Rattle.std.specs.Prelude.{codes}
use Rattle.lsp_frame.specs.Header.{blank_line}
use Rattle.lsp_redact.proofs.records.frame_of.Goals as goal

pub returns : goal.returns
returns c =
    let bytes = c.args.content.now in
    c.in_ok-format.ensures.ok
    ∙ ap (λ (t : List ℕ). codes "Content-Length: " ++ t)
    (sym (append_assoc (decimal (length bytes)) blank_line bytes))
