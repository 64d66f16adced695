use Rattle.std.proofs.Common.{◌∷◌, [], List, String, Global, map, string_bytes, subst, ap}
use Rattle.std.proofs.lemmas.List.{take_all}
use Rattle.serde_json.specs.View.{view}
use Rattle.lsp_replay.specs.Common.{Text, texts_view}
use Rattle.lsp_redact.specs.Messages.{list, registration_data}
use Rattle.lsp_redact.specs.Names.{method_names, shown_method, written_method}
use Rattle.lsp_redact.specs.Naming.{Shows, Writes}
use Rattle.lsp_redact.proofs.Showing.{writes_made, writes_start}
use Rattle.lsp_redact.proofs.ShownLists.{registrations_more}
use Rattle.lsp_redact.proofs.redaction.Redaction.registrations.Goals as goal

pub loop-method-init : goal.loop-method-init
loop-method-init c = writes_start c.args.self.now _ (ap (map view) c.new-shown.ensures.items)

pub loop-method-preserved : goal.loop-method-preserved
loop-method-preserved c =
    registrations_more c.args.methods.now c.loop-method.method-index c.method-item.result c.args.self.now
    c.loop-method.self c.method.new.self c.loop-method.shown.items c.push.new.list.items
    c.in_ok-text.text c.in_ok-value.value c.loop-method-test.true c.method-item.is c.loop-method.invariant
    (subst (λ (t : Text). Shows c.loop-method.self.names c.method.new.self (method_names (t ∷ []))
    (λ n. written_method (shown_method n t)) (string_bytes c.in_ok-text.text)) c.as_str.ensures.value
    c.in_ok-text.ensures) c.in_ok-value.ensures c.in_ok-push.ensures.ok

pub returns : goal.returns
returns c =
    writes_made list _ c.array_of.ensures
    (subst (λ (xs : List (String Global)). Writes c.args.self.now c.loop-method.self
    (method_names (texts_view xs)) (λ n. map registration_data (map (shown_method n) (texts_view xs)))
    (map view c.loop-method.shown.items))
    (take_all c.loop-method.method-index c.args.methods.now c.loop-method-test.false)
    c.loop-method.invariant)
