use Rattle.std.proofs.Common.{ap, subst, sym, ◌∙◌, option_map}
use Rattle.serde_json.specs.Data.{Data, object}
use Rattle.serde_json.specs.View.{view}
use Rattle.lsp_replay.specs.Common.{id_view, Text}
use Rattle.lsp_redact.specs.Messages.{answer_members, answered_data, reply_data, reply_name}
use Rattle.lsp_redact.specs.Names.{Names, given_names, joined, no_names, reply_names, shown_id}
use Rattle.lsp_redact.specs.Naming.{Writes}
use Rattle.lsp_redact.specs.Shown.{shown_reply}
use Rattle.lsp_redact.specs.View.{reply_view}
use Rattle.lsp_redact.proofs.Showing.{writes_both}
use Rattle.lsp_redact.proofs.WrittenTexts.{same_name}
use Rattle.lsp_redact.proofs.redaction.Redaction.response.Goals as goal

pub returns : goal.returns
returns c =
    let id = option_map (λ i. id_view i.now) c.args.id in
    let reply = reply_view c.args.reply.now in
    let own = view c.in_ok-own.own in
    let answer = view c.in_ok-answer.answer in
    let name = reply_name (shown_reply no_names reply) in
    subst (λ (name : Names → Text). Writes c.args.self.now c.answer.new.self
    (joined (given_names id) (reply_names reply))
    (λ n. object (answer_members (answered_data (option_map (shown_id n) id)) (name n)
    (reply_data (shown_reply n reply)))) (view c.in_ok-shown.shown))
    (λ i n. sym (same_name n reply) i)
    (writes_both (λ (d e : Data). object (answer_members d name e))
    (view c.in_ok-shown.shown)
    (c.in_ok-shown.ensures
    ∙ ap (λ (t : Text). object (answer_members own t answer)) (c.reply_name.ensures no_names))
    c.in_ok-own.ensures c.in_ok-answer.ensures)
