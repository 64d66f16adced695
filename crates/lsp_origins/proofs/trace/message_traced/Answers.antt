use Rattle.std.proofs.Common.{◌++◌, ◌∙◌}
use Rattle.lsp_trail.specs.Common.{act_view, kept_of, message_view, numbered, sent_in, terms_in}
use Rattle.lsp_origins.proofs.SaidFacts.{session_heard, trace_heard}
use Rattle.lsp_origins.proofs.trace.message_traced.Goals as goal

pub returns : goal.returns
returns c = λ event before stands heard.
    let terms = terms_in c.args.past in
    let sents = sent_in (kept_of terms before) in
    let said = message_view c.args.spoken.now.message in
    let act = act_view c.args.spoken.now.act in
    let rule = c.args.rule in
    let side = c.args.side in
    c.in_ok-trace_message.ensures terms before stands.trail.said
    ∙ (λ i. (c.in_ok-facts.ensures sents stands.holds.sent
    ∙ session_heard rule heard.sent side said heard.by heard.says sents act heard.means
    heard.has_value) i ++ trace_heard rule heard.sent side said heard.by heard.says
    (numbered terms before) i)
