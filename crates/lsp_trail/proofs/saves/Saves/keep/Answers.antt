use Rattle.std.specs.Prelude.{option_map}
use Rattle.std.specs.List.{cons_option}
use Rattle.std.proofs.Common.{[], ap, subst, sym}
use Rattle.std.proofs.lemmas.Result.{on_ok_weaker}
use Rattle.lsp_trail.specs.History.{on_document}
use Rattle.lsp_trail.specs.Openings.{Holds}
use Rattle.lsp_trail.specs.Saves.{most_saves}
use Rattle.lsp_trail.proofs.Changing.{none_more}
use Rattle.lsp_trail.proofs.saves.Saves.keep.Goals as goal

-- it saves none that is not open
pub returns-in_default : goal.returns-in_default
returns-in_default c = λ made stands.
    none_more most_saves _ c.args.self.now.saved.items
    (ap (option_map (λ uri. on_document uri c.args.place.now))
    (sym (c.in_default.ensures made stands)))

pub returns : goal.returns
returns c = on_ok_weaker c.push.result (λ holds made stands.
    subst (λ o. Holds most_saves
    (cons_option (option_map (λ uri. on_document uri c.args.place.now) o) [])
    c.args.self.now.saved.items c.push.new.held.items) (c.in-Some.ensures made stands) holds)
    c.push.ensures
