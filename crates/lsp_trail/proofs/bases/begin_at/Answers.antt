use Rattle.std.proofs.Common.{Some, sym, ap, ◌∙◌, option_map, refl, rules, subst, w32}
use Rattle.std.specs.Option.{option_copied_mut}
use Rattle.std.specs.String.{string_eq_equiv}
use Rattle.std.proofs.lemmas.Int.{to_z-of_z}
use Rattle.std.proofs.lemmas.Option.{same_Some, slice_get-map}
use Rattle.indexmap.proofs.CallerLemmas.{updates-with_value_at}
use mir.Val.{SFits}
use Rattle.lsp_uris.proofs.Putting.{puts-key}
use Rattle.lsp_trail.specs.Bases.{BegunBy, BeginsAt}
use Rattle.lsp_trail.proofs.BasesHeld.{put_one}
use Rattle.lsp_trail.proofs.bases.begin_at.Goals as goal

pub returns : goal.returns
returns c =
    let fits : SFits w32 c.args.version = c.ranges.version in
    let begun = simp to_z-of_z at c.begin.ensures in
    let uri = c.args.uri.now in
    let n = c.args.version in
    let t = c.args.text.content in
    let (key, was, at, own, there) = c.requires in
    let now = c.begin.new.self in
    let old = c.args.map.now in
    let updates = updates-with_value_at old c.args.at now string_eq_equiv
    c.get_index_mut.ensures.unique key was at in
    let put = puts-key (λ b. b) (Some now) old.entries _ key uri own updates.1 updates.3 in
    let same = same_Some c.unwrap-base.result.now was
    (ap option_copied_mut (sym c.unwrap-base.ensures) ∙ c.get_index_mut.ensures.value
    ∙ slice_get-map (λ e. e.1) old.entries c.args.at ∙ ap (option_map (λ e. e.1)) at) in
    put_one uri (BegunBy n t) (Some now) old.entries _ put
    (subst (λ o. BegunBy n t o (Some now)) (sym (ap (option_map (λ b. b)) there))
    (now, refl, subst (λ b. BeginsAt n t b now) same begun))

pub unwrap-base-requires : goal.unwrap-base-requires
unwrap-base-requires c =
    search (
      rules,
      c.get_index_mut.ensures.value
          ∙ slice_get-map (λ e. e.1) c.args.map.now.entries c.args.at
          ∙ ap (option_map (λ e. e.1)) c.requires.2,
    )
