use Rattle.std.proofs.Common.{Some, sym, ap, ◌∙◌, option_map, refl, rules, subst, w32}
use Rattle.std.specs.Option.{option_copied_mut}
use Rattle.std.specs.String.{string_eq_equiv}
use Rattle.std.proofs.lemmas.Int.{to_z-of_z}
use Rattle.std.proofs.lemmas.Option.{same_Some, slice_get-map}
use Rattle.indexmap.proofs.CallerLemmas.{updates-with_value_at}
use mir.Val.{SFits}
use Rattle.lsp_uris.proofs.Putting.{puts-key}
use Rattle.lsp_text.specs.Changes.{edits_of}
use Rattle.lsp_trail.specs.Bases.{AddedAt, AddsTo}
use Rattle.lsp_trail.specs.SentEdits.{sent_edits}
use Rattle.lsp_trail.proofs.BasesHeld.{put_one}
use Rattle.lsp_trail.proofs.bases.add_at.Goals as goal

pub returns : goal.returns
returns c =
    let fits : SFits w32 c.args.version = c.ranges.version in
    let added = simp to_z-of_z at c.in_ok-add.ensures in
    let uri = c.args.uri.now in
    let more = sent_edits c.args.version (edits_of c.args.changes.now) in
    let lost = c.has_lost.result in
    let (key, was, at, own, there) = c.requires in
    let now = c.add.new.self in
    let old = c.args.map.now in
    let updates = updates-with_value_at old c.args.at now string_eq_equiv
    c.get_index_mut.ensures.unique key was at in
    let put = puts-key (λ b. b) (Some now) old.entries _ key uri own updates.1 updates.3 in
    let same = same_Some c.unwrap-base.result.now was
    (ap option_copied_mut (sym c.unwrap-base.ensures) ∙ c.get_index_mut.ensures.value
    ∙ slice_get-map (λ e. e.1) old.entries c.args.at ∙ ap (option_map (λ e. e.1)) at) in
    put_one uri (AddedAt more lost) (Some now) old.entries _ put
    (subst (λ o. AddedAt more lost o (Some now)) (sym (ap (option_map (λ b. b)) there))
    (now, subst (λ b. AddsTo more b now) same added, refl, c.has_lost.ensures))

pub unwrap-base-requires : goal.unwrap-base-requires
unwrap-base-requires c =
    search (
      rules,
      c.get_index_mut.ensures.value
          ∙ slice_get-map (λ e. e.1) c.args.map.now.entries c.args.at
          ∙ ap (option_map (λ e. e.1)) c.requires.2,
    )
