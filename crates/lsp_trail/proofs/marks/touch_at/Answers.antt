use Rattle.std.proofs.Common.{Some, sym, ap, ◌∙◌, option_map, rules}
use Rattle.std.specs.Prelude.{unwrap_or}
use Rattle.std.specs.Option.{option_copied_mut}
use Rattle.std.specs.String.{string_eq_equiv}
use Rattle.std.proofs.lemmas.Option.{same_Some, slice_get-map}
use Rattle.std.proofs.lemmas.Result.{IfOk-weaker, on_ok_weaker}
use Rattle.indexmap.proofs.CallerLemmas.{updates-with_value_at}
use Rattle.lsp_uris.proofs.Putting.{puts-key}
use Rattle.lsp_trail.specs.Marking.{finds_equal, mark_view, stepped, unmarked}
use Rattle.lsp_trail.proofs.Marking.{step_there}
use Rattle.lsp_trail.proofs.marks.touch_at.Goals as goal

pub returns-clause-marked : goal.returns-clause-marked
returns-clause-marked c =
    let uri = c.args.uri.now in
    let p = c.args.place.now in
    let step = c.args.step.now in
    let (key, was, at, own, there) = c.requires.here in
    let now = c.step.new.self in
    let old = c.args.map.now in
    let updates = updates-with_value_at old c.args.at now string_eq_equiv
    c.get_index_mut.ensures.unique key was at in
    let put = puts-key mark_view (Some now) old.entries _ key uri own updates.1 updates.3 in
    let same = same_Some c.unwrap-mark.result.now was
    (ap option_copied_mut (sym c.unwrap-mark.ensures) ∙ c.get_index_mut.ensures.value
    ∙ slice_get-map (λ e. e.1) old.entries c.args.at ∙ ap (option_map (λ e. e.1)) at) in
    on_ok_weaker c.step.result
    (λ is. step_there uri p step was now old.entries _ (ap (option_map mark_view) there)
    (is ∙ ap (λ m. stepped p step (mark_view m)) same) put) c.step.ensures.marked

pub returns-clause-equal : goal.returns-clause-equal
returns-clause-equal c =
    let step = c.args.step.now in
    let old = c.args.map.now in
    let was = c.requires.here.1 in
    let at = c.requires.here.2 in
    let there = c.requires.here.4 in
    let same = same_Some c.unwrap-mark.result.now was
    (ap option_copied_mut (sym c.unwrap-mark.ensures) ∙ c.get_index_mut.ensures.value
    ∙ slice_get-map (λ e. e.1) old.entries c.args.at ∙ ap (option_map (λ e. e.1)) at) in
    IfOk-weaker c.step.result _ _ (λ found is. is ∙ ap (finds_equal step) (ap mark_view same
    ∙ sym (ap (λ o. unwrap_or o unmarked) (ap (option_map mark_view) there)))) c.step.ensures.equal

pub unwrap-mark-requires : goal.unwrap-mark-requires
unwrap-mark-requires c =
    search (
      rules,
      c.get_index_mut.ensures.value
          ∙ slice_get-map (λ e. e.1) c.args.map.now.entries c.args.at
          ∙ ap (option_map (λ e. e.1)) c.requires.here.2,
    )
