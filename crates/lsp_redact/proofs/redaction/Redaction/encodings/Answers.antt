use Rattle.std.proofs.Common.{◌∷◌, [], List, String, Global, map, string_bytes, subst, ap}
use Rattle.std.proofs.lemmas.List.{take_all}
use Rattle.serde_json.specs.View.{view}
use Rattle.lsp_replay.specs.Common.{Text, texts_view}
use Rattle.lsp_redact.specs.Messages.{encoding_data, list}
use Rattle.lsp_redact.specs.Names.{encoding_names, shown_encoding, written_encoding}
use Rattle.lsp_redact.specs.Naming.{Shows, Writes}
use Rattle.lsp_redact.proofs.Showing.{writes_made, writes_start}
use Rattle.lsp_redact.proofs.ShownLists.{encodings_more}
use Rattle.lsp_redact.proofs.redaction.Redaction.encodings.Goals as goal

pub loop-name-init : goal.loop-name-init
loop-name-init c = writes_start c.args.self.now _ (ap (map view) c.new-shown.ensures.items)

pub loop-name-preserved : goal.loop-name-preserved
loop-name-preserved c =
    encodings_more c.args.names.now c.loop-name.name-index c.name-item.result c.args.self.now
    c.loop-name.self c.encoding.new.self c.loop-name.shown.items c.push.new.list.items
    c.in_ok-text.text c.text_value.result c.loop-name-test.true c.name-item.is c.loop-name.invariant
    (subst (λ (t : Text). Shows c.loop-name.self.names c.encoding.new.self (encoding_names (t ∷ []))
    (λ n. written_encoding (shown_encoding n t)) (string_bytes c.in_ok-text.text)) c.as_str.ensures.value
    c.in_ok-text.ensures) c.text_value.ensures c.in_ok-push.ensures.ok

pub returns : goal.returns
returns c =
    writes_made list _ c.array_of.ensures
    (subst (λ (xs : List (String Global)). Writes c.args.self.now c.loop-name.self
    (encoding_names (texts_view xs)) (λ n. map encoding_data (map (shown_encoding n) (texts_view xs)))
    (map view c.loop-name.shown.items))
    (take_all c.loop-name.name-index c.args.names.now c.loop-name-test.false)
    c.loop-name.invariant)
