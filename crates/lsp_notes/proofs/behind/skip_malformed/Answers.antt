use Rattle.std.specs.Prelude.{option_map, string_bytes}
use Rattle.std.proofs.Common.{◌∙◌, Some, ap, refl, subst, sym, true}
use Rattle.std.proofs.lemmas.Result.{on_ok_weaker}
use Rattle.lsp_notes.specs.Behind.{PutsBehind}
use Rattle.lsp_notes.proofs.BehindSteps.{put_one}
use Rattle.lsp_notes.proofs.behind.skip_malformed.Goals as goal

-- it names none
pub returns-in_default : goal.returns-in_default
returns-in_default c =
    subst (λ own. PutsBehind true own c.args.uris.now.entries c.args.uris.now.entries)
    (sym (ap (option_map string_bytes) c.in_default.is) ∙ c.in_ok-uri.ensures) (λ uri. refl)

pub returns : goal.returns
returns c = on_ok_weaker c.add_uri.result (λ added.
    subst (λ own. PutsBehind true own c.args.uris.now.entries c.add_uri.new.uris.entries)
    (ap Some c.as_str.ensures.value ∙ sym (ap (option_map string_bytes) c.in-Some.is)
    ∙ c.in_ok-uri.ensures)
    (λ uri. put_one _ _ uri _ _ (added uri))) c.add_uri.ensures
