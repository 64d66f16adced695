use Rattle.std.proofs.Common.{Option, List, map, option_map, subst}
use Rattle.serde_json.specs.View.{view}
use Rattle.lsp_replay.specs.Common.{id_view, Ident, Text, texts_view}
use Rattle.lsp_redact.specs.Messages.{id_data, offer_of, offered_data}
use Rattle.lsp_redact.specs.Names.{given_names, offered_names, shown_encoding, shown_id}
use Rattle.lsp_redact.specs.Naming.{Writes}
use Rattle.lsp_redact.proofs.Showing.{writes_both}
use Rattle.lsp_redact.proofs.ShownLists.{lent}
use Rattle.lsp_redact.proofs.redaction.Redaction.initialize.Goals as goal

pub returns : goal.returns
returns c =
    let mid = c.offered.new.self in
    let encodings = lent (λ v. texts_view v.items) c.as_ref.result c.args.offer.now.encodings
    c.as_ref.ensures.value in
    let token = lent id_view c.as_ref-2.result c.args.offer.now.token c.as_ref-2.ensures.value in
    writes_both offer_of (view c.in_ok-params.params) c.in_ok-params.ensures
    (subst (λ (o : Option (List Text)). Writes c.args.self.now mid (offered_names o)
    (λ n. offered_data (option_map (map (shown_encoding n)) o))
    (view c.in_ok-capabilities.capabilities)) encodings c.in_ok-capabilities.ensures)
    (subst (λ (o : Option Ident). Writes mid c.given_id.new.self (given_names o)
    (λ n. option_map id_data (option_map (shown_id n) o)) (option_map view c.in_ok-token.token))
    token c.in_ok-token.ensures)
