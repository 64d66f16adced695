use Rattle.std.proofs.Common.{codes, refl, subst, sym, ◌∙◌}
use Rattle.serde_json.specs.Find.{get_member}
use Rattle.lsp_rpc.specs.View.{message_view}
use Rattle.lsp_outline.specs.Outlined.{Tells}
use Rattle.std.proofs.lemmas.Option.{IfSome_then}
use Rattle.lsp_outline.proofs.Meaning.{means_by}
use Rattle.lsp_outline.proofs.Outlining.{what_is_left}
use Rattle.lsp_outline.proofs.outline.put_text.Goals as goal

pub returns : goal.returns
returns c =
    let found = c.in_ok-text_into.ensures in
    let is = c.in_ok-put_message.ensures.left found.0 found.2 in
    let m = message_view c.put_message.new.message in
    let tells = subst (Tells found.0)
    (sym (c.take.ensures.value ∙ c.in_ok-put_message.ensures.told)) is.tells in
    IfSome_then c.put_act.result c.put_act.ensures (λ _ means. (
      found.0,
      found.1,
      record {
        whole = is.whole;
        is = is.is;
        means = means_by c.args.side _ (get_member (codes "params") found.0) m
            is.whole is.rest c.method_of-method.ensures is.params
            ∙ means found.0 found.1 tells;
        rest = what_is_left c.args.results m is.whole (c.if-not-suffices.ensures refl) is.rest;
      },
    ))
