use Rattle.std.proofs.Common.{ap, sym, subst, ◌∙◌, map, max, string_bytes}
use Rattle.lsp_replay.specs.Common.{heard_events, Terms}
use Rattle.lsp_verdict.specs.Placed.{Raw}
use Rattle.lsp_redact.specs.Kept.{kept_of}
use Rattle.lsp_redact.specs.Records.{written}
use Rattle.lsp_redact.specs.Redacting.{AddsLast, format_by, shape_to}
use Rattle.lsp_redact.specs.View.{kept_view}
use Rattle.lsp_redact.proofs.AccountKeeps.{own_reads, own_speaks}
use Rattle.lsp_redact.proofs.AccountSteps.{fault_by, log_to}
use Rattle.lsp_redact.proofs.redacting.Redacting.left_to.Goals as goal

pub returns : goal.returns
returns c = λ terms before h stands seen offends fresh apart.
    let most = max c.most_of-most.result 1 in
    let events = heard_events before in
    let event = h.note.event in
    let rule = c.args.rule in
    let reads = own_reads terms before h _ _ _ c.args.seen.now seen stands.clean in
    let speaks = own_speaks terms before h _ _ _ c.args.seen.now seen stands.clean in
    log_to most terms events h.raw event rule (map kept_view c.args.self.now.kept.items)
    c.format_of.result c.args.redaction.now c.said.new.redaction c.say_last.new.redaction
    (string_bytes c.in_ok-left.left) (string_bytes c.say_last.new.text) stands.kept_is
    (c.format_of.ensures ∙ ap (λ (t : Terms). format_by t.kept) seen.stood.by) fresh apart
    c.in_ok-left.ensures
    (subst (λ (raw : Raw). AddsLast most c.said.new.redaction c.say_last.new.redaction raw rule
    (kept_of events event) (string_bytes c.in_ok-left.left) (string_bytes c.say_last.new.text))
    (sym seen.is)
    (c.in_ok-say_last.ensures events event stands.awaits_is reads speaks
    (fault_by terms before h rule offends)))
    ∙ ap (λ n. written n (shape_to terms events h.raw event rule)) c.most_of-most.ensures
