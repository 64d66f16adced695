use Rattle.std.proofs.Common.{◌≡◌, ◌∷◌, [], ap, subst, w32, ◌∙◌}
use Rattle.std.proofs.lemmas.Int.{to_z-of_z}
use Rattle.std.specs.Fmt.{signed_decimal}
use Rattle.serde_json.specs.View.{view}
use Rattle.lsp_rpc.specs.Act.{Text}
use Rattle.lsp_redact.specs.Messages.{natural}
use Rattle.lsp_redact.specs.Names.{no_names, number_of}
use Rattle.lsp_redact.specs.Naming.{Shows}
use Rattle.lsp_redact.proofs.NamesShown.{id_named}
use Rattle.lsp_redact.proofs.Showing.{shows_made}
use Rattle.lsp_redact.proofs.names.Names.id_number.Goals as goal

pub returns : goal.returns
returns c =
    let own : c.as_str.result.now ≡ signed_decimal c.args.id =
    c.as_str.ensures.value ∙ c.in_ok-text.ensures.ok
    ∙ ap signed_decimal (to_z-of_z w32 c.args.id c.ranges.id) in
    shows_made natural (view c.from.result) c.from.ensures
    (subst (λ (t : Text). Shows c.args.self.now (record c.args.self.now { ids = c.of.new.self })
    (record no_names { ids = t ∷ [] }) (λ n. number_of n.ids t) c.in_ok-number.number) own
    (id_named c.args.self.now c.of.new.self c.as_str.result.now c.in_ok-number.number
    c.in_ok-number.ensures.seen c.in_ok-number.ensures.number))
