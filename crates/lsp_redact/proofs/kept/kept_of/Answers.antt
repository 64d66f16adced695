use Rattle.std.proofs.Common.{Some, sym, ap, ◌∙◌, ℤ, option_map, rules, w32}
use Rattle.std.specs.Prelude.{chars}
use Rattle.std.proofs.lemmas.Int.{to_z-of_z}
use mir.Val.{SFits}
use Rattle.lsp_redact.specs.Kept.{kept_of, snapshot}
use Rattle.lsp_redact.specs.View.{spoken_kept}
use Rattle.lsp_redact.proofs.KeptEvents.{content_kept}
use Rattle.lsp_redact.proofs.kept.kept_of.Goals as goal

pub returns-in_ok-kept-in-Content : goal.returns-in_ok-kept-in-Content
returns-in_ok-kept-in-Content c = λ before event waits reads speaks.
    let own = rw c.in-Content.is at reads in
    let spoken = option_map (λ s. s.now) c.args.seen.now.spoken in
    c.in_ok-kept-in-Content.ensures
    ∙ ap (λ awaited. option_map (spoken_kept c.in-Content.side awaited) spoken) waits
    ∙ content_kept before event c.in-Content.side c.in-Content.content.now spoken own speaks

pub returns-in-Broken : goal.returns-in-Broken
returns-in-Broken c = λ before event waits reads speaks.
    let own = rw c.in-Broken.is at reads in sym (ap (kept_of before) own)

pub returns-in_ok-shown-in-Snapshot : goal.returns-in_ok-shown-in-Snapshot
returns-in_ok-shown-in-Snapshot c = λ before event waits reads speaks.
    let own = rw c.in-Snapshot.is at reads in
    let fits : SFits w32 c.in-Snapshot.version = search rules in
    ap Some (c.in_ok-shown-in-Snapshot.ensures
    ∙ ap (λ (z : ℤ). snapshot c.in-Snapshot.uri.now z (chars c.in-Snapshot.text.now))
    (to_z-of_z w32 c.in-Snapshot.version fits))
    ∙ sym (ap (kept_of before) own)
