use Rattle.std.proofs.Common.{Option, refl, option_map, string_bytes}
use Rattle.serde_json.specs.Data.{Data, object}
use Rattle.serde_json.specs.View.{view}
use Rattle.lsp_replay.specs.Common.{act_view, id_view, Ident, Text}
use Rattle.lsp_redact.specs.Messages.{call_members, id_data, params_of}
use Rattle.lsp_redact.specs.Names.{call_names, shown_id, shown_method, written_method}
use Rattle.lsp_redact.specs.Naming.{Writes}
use Rattle.lsp_redact.specs.Shown.{shown_act}
use Rattle.lsp_redact.specs.declared.redaction.Redaction.{Redaction}
use Rattle.lsp_redact.proofs.Showing.{writes_after, writes_both}
use Rattle.lsp_redact.proofs.redaction.Redaction.called.Goals as goal

pub returns : goal.returns
returns c =
    let start : Redaction = c.args.self.now in
    let mid : Redaction = record c.given_id.new.self { names = c.method.new.self } in
    let id : Option Ident = option_map (λ i. id_view i.now) c.args.id in
    let method : Text = c.args.method.now in
    let make : Option Data → Text → Option Data → Data =
    λ i m params. object (call_members i m params) in
    let with : (Option Data → Data) → Option Data → Data = λ f params. f params in
    let own : Option Data = option_map view c.in_ok-own.own in
    let name : Text = string_bytes c.in_ok-name.name in
    let front : Writes start mid (call_names id method)
    (λ n. make (option_map id_data (option_map (shown_id n) id)) (written_method (shown_method n method)))
    (make own name) =
    writes_both make (make own name) refl c.in_ok-own.ensures
    (record { same = refl; shows = c.in_ok-name.ensures }) in
    writes_both with (view c.in_ok-shown.shown) c.in_ok-shown.ensures front
    (writes_after (λ apart n. params_of (shown_act n apart (act_view c.args.act.now))) _ front
    c.in_ok-params.ensures)
