use Rattle.std.proofs.Common.{refl, rules, w32}
use Rattle.std.proofs.lemmas.Int.{to_z-of_z}
use mir.Val.{SFits}
use Rattle.lsp_replay.proofs.Edits.{edits_seen}
use Rattle.lsp_replay.proofs.events.call_of.Goals as goal

pub returns-in-DidChange : goal.returns-in-DidChange
returns-in-DidChange c =
    let fits : SFits w32 c.in-DidChange.version = search rules in
    rw (to_z-of_z w32 c.in-DidChange.version fits, c.in-DidChange.is, ← c.as_str-in-DidChange.ensures.value, ← c.as_slice.ensures.value, ← edits_seen c.as_slice.result.now) refl
