use Rattle.std.proofs.Common.{ap, ◌∙◌, w32, rules}
use Rattle.std.proofs.lemmas.Int.{to_z-of_z}
use mir.Val.{SFits}
use Rattle.lsp_frame.specs.Decoder.{State}
use Rattle.lsp_types.specs.declared.side.Side.TheVariants.{Editor, Server}
use Rattle.lsp_replay.proofs.Streaming.{pushed_fault, pushed_limits, pushed_rest, shown_pushed}
use Rattle.lsp_replay.proofs.Streaming.{side_pushed}
use Rattle.lsp_replay.proofs.streams.Streams.push.Goals as goal

pub returns-in_ok-push_owned-in-Bytes-Editor-default-clause-ok :
    goal.returns-in_ok-push_owned-in-Bytes-Editor-default-clause-ok
returns-in_ok-push_owned-in-Bytes-Editor-default-clause-ok c =
    let at = c.in-Bytes-Editor-default in
    let pushed = c.in_ok-push_owned-in-Bytes-Editor-default.ensures in
    let same = ap (λ (s : State). s.limits) pushed.ok.same ∙ pushed_limits _ _ in
    let fault = ap (λ (s : State). s.fault) pushed.ok.same ∙ pushed_fault _ _ in
    let rest = pushed_rest _ _ _ pushed.ok in
    let stands = pushed.stands in
    rw (← c.self.view_is, at.is, at.side-is)
    (λ limits records given h.
    side_pushed limits records given Editor _ _ at.bytes.items same fault rest stands h)

pub returns-in_ok-push_owned-in-Bytes-Server-default-clause-ok :
    goal.returns-in_ok-push_owned-in-Bytes-Server-default-clause-ok
returns-in_ok-push_owned-in-Bytes-Server-default-clause-ok c =
    let at = c.in-Bytes-Server-default in
    let pushed = c.in_ok-push_owned-in-Bytes-Server-default.ensures in
    let same = ap (λ (s : State). s.limits) pushed.ok.same ∙ pushed_limits _ _ in
    let fault = ap (λ (s : State). s.fault) pushed.ok.same ∙ pushed_fault _ _ in
    let rest = pushed_rest _ _ _ pushed.ok in
    let stands = pushed.stands in
    rw (← c.self.view_is, at.is, at.side-is)
    (λ limits records given h.
    side_pushed limits records given Server _ _ at.bytes.items same fault rest stands h)

pub returns-in-Snapshot-clause-ok : goal.returns-in-Snapshot-clause-ok
returns-in-Snapshot-clause-ok c =
    let at = c.in-Snapshot in
    let fits : SFits w32 at.version = search rules in
    rw (← c.self.view_is, at.is)
    (λ limits records given h.
    shown_pushed limits records given _ _ at.version (to_z-of_z w32 at.version fits) h)
