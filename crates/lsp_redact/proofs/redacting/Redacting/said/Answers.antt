use Rattle.std.proofs.Common.{List, ◌++◌, map, max, string_bytes, subst, ap, ◌∙◌, ℕ}
use Rattle.std.proofs.lemmas.List.{take_all}
use Rattle.lsp_log.specs.Log.{first_line}
use Rattle.lsp_redact.specs.Names.{names_in}
use Rattle.lsp_redact.specs.Naming.{Writes}
use Rattle.lsp_redact.specs.Redacting.{log_by}
use Rattle.lsp_redact.specs.View.{kept_view}
use Rattle.lsp_redact.specs.declared.kept.Kept as code
use Rattle.lsp_redact.proofs.ShownKept.{say_more, say_none}
use Rattle.lsp_redact.proofs.redacting.Redacting.said.Goals as goal

pub loop-kept-init : goal.loop-kept-init
loop-kept-init c =
    say_none c.args.redaction.now (max c.args.most 1) c.args.format _
    (c.in_ok-push_first_line.ensures
    ∙ ap (λ (t : List ℕ). t ++ first_line c.args.format) c.new-text.ensures.bytes)

pub loop-kept-preserved : goal.loop-kept-preserved
loop-kept-preserved c =
    say_more c.args.redaction.now c.loop-kept.redaction c.push_kept.new.redaction
    (max c.args.most 1) c.args.format c.deref-kept-items.result.now c.loop-kept.kept-index
    c.kept-item.result (string_bytes c.loop-kept.text) _ c.loop-kept-test.true c.kept-item.is
    c.loop-kept.invariant c.in_ok-push_kept.ensures

pub returns : goal.returns
returns c =
    subst (λ (ks : List code.Kept). Writes c.args.redaction.now c.loop-kept.redaction
    (names_in (map kept_view ks)) (λ n. log_by (max c.args.most 1) c.args.format n
    c.args.redaction.now.apart (map kept_view ks)) (string_bytes c.loop-kept.text))
    (take_all c.loop-kept.kept-index c.deref-kept-items.result.now c.loop-kept-test.false
    ∙ c.deref-kept-items.ensures.value)
    c.loop-kept.invariant
