use Rattle.std.specs.Prelude.{codes}
use Rattle.std.proofs.Common.{◌∙◌, ◌++◌, ap, append-nil, string_bytes, sym}
use Rattle.std.proofs.lemmas.Result.{on_ok_weaker}
use Rattle.lsp_trail.specs.Common.{bad_log_of, End, flaw_of}
use Rattle.lsp_facts.specs.Fact.{detail_lines}
use Rattle.lsp_facts.specs.EventFacts.{flaw_facts}
use Rattle.lsp_origins.specs.Explained.{flaw_lines, flaw_held}
use Rattle.lsp_origins.proofs.offence_facts.push_flaw.Goals as goal

pub returns-in_default : goal.returns-in_default
returns-in_default c = rw c.in_default.is (sym (append-nil (string_bytes c.args.text.now)))

pub returns : goal.returns
returns c = on_ok_weaker c.push_details.result (λ said.
    let old = string_bytes c.args.text.now in
    let number = c.in-Bad.number in
    said
    ∙ ap (λ fs. old ++ detail_lines fs (codes "recorder")) (c.in_ok-facts.ensures
    ∙ ap (λ n. flaw_facts number n c.found.result.now) c.place.ensures
    ∙ ap (flaw_facts number c.args.log.now.log.place) c.found.ensures)
    ∙ ap (λ (e : End). old ++ flaw_lines (bad_log_of (flaw_of e)) (flaw_held c.args.log.now e))
    (sym c.in-Bad.is)) c.push_details.ensures
