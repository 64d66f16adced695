use Rattle.std.proofs.Common.{ap, max, option_map, string_bytes, sym, ◌∙◌}
use Rattle.std.proofs.lemmas.Result.{on_ok_weaker}
use Rattle.lsp_verdict.specs.Given.{raw_view}
use Rattle.lsp_redact.specs.View.{kept_view}
use Rattle.lsp_redact.proofs.ShownKept.{last_by, last_kept}
use Rattle.lsp_redact.proofs.redacting.Redacting.say_last.Goals as goal

pub returns-in-Some : goal.returns-in-Some
returns-in-Some c =
    on_ok_weaker c.push_kept.result (λ added before event waits reads speaks of.
    last_kept (max c.args.most 1) c.args.redaction.now c.push_kept.new.redaction
    (raw_view c.args.seen.now.raw) c.args.rule _ (kept_view c.in-Some.kept)
    (string_bytes c.args.text.now) (string_bytes c.push_kept.new.text)
    (sym (c.in_ok-kept.ensures before event waits reads speaks)
    ∙ ap (option_map kept_view) c.in-Some.is) added) c.push_kept.ensures

pub returns-in-None : goal.returns-in-None
returns-in-None c =
    on_ok_weaker c.push_broken.result (λ added before event waits reads speaks of.
    last_by (max c.args.most 1) c.args.redaction.now (raw_view c.args.seen.now.raw)
    c.args.rule before event (string_bytes c.args.text.now) (string_bytes c.push_broken.new.text)
    (sym (c.in_ok-kept.ensures before event waits reads speaks)
    ∙ ap (option_map kept_view) c.in-None.is) (added event reads of)) c.push_broken.ensures
