use Rattle.std.proofs.Common.{◌∙◌, sym, ap, []}
use Rattle.std.specs.Prelude.{int_lt}
use Rattle.std.proofs.lemmas.Option.{same_Some}
use Rattle.lsp_docs.proofs.Accepted.{accepted-split, risen}
use Rattle.lsp_docs.proofs.laws.versions_rise.Goals as goal

pub returns : goal.returns
returns c = record {
  rises = λ terms uri calls more v w h open_still before after p.
      let r = risen terms uri calls more v (accepted-split terms [] calls more h).1 open_still
      before in
      sym (ap (λ x. int_lt v.number x.number) (same_Some r.version w (sym r.held ∙ after)))
      ∙ r.rises p;
  stays = λ terms uri calls more v w h open_still before after p.
      let r = risen terms uri calls more v (accepted-split terms [] calls more h).1 open_still
      before in
      r.stays p ∙ same_Some r.version w (sym r.held ∙ after);
}
