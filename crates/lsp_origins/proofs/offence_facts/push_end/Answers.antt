use Rattle.std.proofs.Common.{◌∙◌, ◌++◌, List, ℕ, ap, string_bytes, append_assoc}
use Rattle.std.proofs.lemmas.Result.{on_ok_weaker}
use Rattle.lsp_trail.specs.Common.{decoder_of, numbered, offence_view, report, terms_in}
use Rattle.lsp_facts.specs.Fact.{detail_lines, end_event}
use Rattle.lsp_facts.specs.EventFacts.{side_by}
use Rattle.lsp_origins.specs.Explained.{end_facts, end_usually, rests_held}
use Rattle.lsp_origins.proofs.Telling.{held_rest}
use Rattle.lsp_origins.proofs.offence_facts.push_end.Goals as goal

pub returns : goal.returns
returns c = on_ok_weaker c.push_details.result (λ says before stands.
    let end = c.args.end.now in
    let v = (offence_view end).no in
    let rests = rests_held c.args.log.now in
    let facts = end_facts rests (numbered (terms_in c.args.past) before) v in
    let old = string_bytes c.args.text.now in
    let line = end_event end.event end.who in
    let before_it = string_bytes c.push_end_event.new.lines in
    let rest = c.rest-rest.ensures ∙ ap (λ s. (decoder_of s c.args.log.now.streams).rest) c.side_by.ensures
    ∙ held_rest c.args.log.now (side_by end.who) in
    let who = end_usually rests v in
    says
    ∙ ap (λ fs. before_it ++ detail_lines fs c.end_usually.result.now)
    (c.in_ok-facts.ensures rests before end.who end.number end.event stands rest)
    ∙ ap (λ (w : List ℕ). before_it ++ detail_lines facts w)
    (c.end_usually.ensures rests end.number end.event rest)
    ∙ ap (λ w. w ++ detail_lines facts who) (c.in_ok-push_end_event.ensures
    ∙ ap (λ w. w ++ line) c.in_ok-push_report.ensures)
    ∙ append_assoc (old ++ report v) line (detail_lines facts who)
    ∙ append_assoc old (report v) (line ++ detail_lines facts who)) c.push_details.ensures
