use Rattle.std.proofs.Common.{◌∙◌, Bor, Option, ap, rules, subst, sym, w32}
use Rattle.std.specs.Prelude.{option_map}
use Rattle.std.proofs.lemmas.Int.{to_z-of_z}
use mir.Val.{SFits}
use Rattle.lsp_rpc.specs.declared.act.Spoken.{Spoken}
use Rattle.lsp_verdict.specs.Event.{call_at}
use Rattle.lsp_verdict.specs.Given.{raw_view}
use Rattle.lsp_verdict.specs.Placed.{Reads}
use Rattle.lsp_verdict.specs.declared.raw.Raw.{Raw}
use Rattle.lsp_replay.specs.Telling.{MaySpeak}
use Rattle.lsp_replay.proofs.Reading.{said_here, unsaid_here}
use Rattle.lsp_replay.proofs.events.ReadEvent.call.Goals as goal

pub returns-in-Some : goal.returns-in-Some
returns-in-Some c = λ events event read.
    c.call_of.ensures ∙ said_here events event _ _ c.in-Some.spoken.now
    (subst (λ (o : Option (Bor Spoken)). MaySpeak events event
    (option_map (λ (s : Bor Spoken). s.now) o)) c.in-Some.is read.spoken) read.encoding read.kind

pub returns-in-None : goal.returns-in-None
returns-in-None c = λ events event read.
    unsaid_here events event c.in-Content.side c.in-Content.content.now
    (subst (λ (r : Raw). Reads (raw_view r) event) c.in-Content.is read.reads)
    (subst (λ (o : Option (Bor Spoken)). MaySpeak events event
    (option_map (λ (s : Bor Spoken). s.now) o)) c.in-None.is read.spoken)

pub returns-in-Broken : goal.returns-in-Broken
returns-in-Broken c = λ events event read.
    ap (call_at events)
    (sym (subst (λ (r : Raw). Reads (raw_view r) event) c.in-Broken.is read.reads))

pub returns-in-Snapshot : goal.returns-in-Snapshot
returns-in-Snapshot c = λ events event read.
    let at = c.in-Snapshot in
    let fits : SFits w32 at.version = search rules in
    let is = subst (λ (r : Raw). Reads (raw_view r) event) at.is read.reads in
    rw (to_z-of_z w32 at.version fits) (ap (call_at events) (sym is))
