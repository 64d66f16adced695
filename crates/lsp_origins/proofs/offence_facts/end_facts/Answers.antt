use Rattle.std.proofs.Common.{◌∙◌, ap, sym}
use Rattle.std.proofs.lemmas.Result.{IfOk-weaker}
use Rattle.lsp_facts.specs.EventFacts.{header_facts}
use Rattle.lsp_trail.specs.Common.{no, numbered, terms_in}
use Rattle.lsp_origins.specs.Explained.{end_facts}
use Rattle.lsp_origins.proofs.offence_facts.end_facts.Goals as goal

pub returns-then-rule-eq-STREAM_ENDS_INSIDE_FRAME :
    goal.returns-then-rule-eq-STREAM_ENDS_INSIDE_FRAME
returns-then-rule-eq-STREAM_ENDS_INSIDE_FRAME c = IfOk-weaker c.header_facts.result _ _
    (λ facts are rests before who number event stands fits.
    are ∙ ap header_facts fits
    ∙ ap (λ rule. end_facts rests (numbered (terms_in c.args.past) before)
    (no rule who number event)) (sym c.if-rule-eq-STREAM_ENDS_INSIDE_FRAME.true))
    c.header_facts.ensures
