use Rattle.std.proofs.Common.{◌≡◌, ap, ◌∙◌}
use Rattle.serde_json.specs.Data.{object}
use Rattle.lsp_rpc.specs.View.{act_view}
use Rattle.lsp_outline.specs.Told.{notice_view, act_in}
use Rattle.lsp_outline.proofs.Meaning.{notice_of, notice_meant}
use Rattle.lsp_outline.proofs.params.document_act_at.Goals as goal

pub returns : goal.returns
returns c =
    let found = c.in_ok-end.ensures in
    let told : notice_of (object found.0) ≡ notice_view c.object_into.new.gathered =
    rw (found.2.0, found.2.1, found.2.2) in
    let act = act_view c.in_ok-act.act in (
      found.0,
      found.1,
      notice_meant c.args.method (object found.0) act
          (ap (act_in c.args.method) told ∙ c.in_ok-act.ensures),
    )
