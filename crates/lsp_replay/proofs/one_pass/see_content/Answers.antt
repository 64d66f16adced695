use Rattle.std.proofs.Common.{Some, refl, subst, sym}
use Rattle.std.proofs.lemmas.Result.{IfOk-weaker}
use Rattle.lsp_rpc.specs.Fault.{IsUnspoken}
use Rattle.lsp_verdict.specs.Event.{fault}
use Rattle.lsp_verdict.specs.Given.{raw_view}
use Rattle.lsp_verdict.specs.Placed.{Reads, ReadsAs}
use Rattle.lsp_replay.specs.Telling.{kept_before}
use Rattle.lsp_types.specs.declared.fault.Fault.{Fault}
use Rattle.lsp_replay.proofs.Reading.{content_sound}
use Rattle.lsp_replay.proofs.Seeing.{comes_of, fault_rule, fault_silent, fault_tries, saw_of}
use Rattle.lsp_replay.proofs.Seeing.{sound_here, speaks_here}
use Rattle.lsp_replay.proofs.one_pass.see_content.Goals as goal

pub returns-in-Ok-clause-saw : goal.returns-in-Ok-clause-saw
returns-in-Ok-clause-saw g c =
    let side = c.args.side in
    let bytes = c.args.content.now in
    let read = c.as_read-read.ensures in
    IfOk-weaker c.see_read.result _ _ (λ flow saw terms before h comes.
    let kept = kept_before terms before in
    let is = c.in-Ok.ensures.ok kept comes.stood.holds.sent in
    let reads : Reads (raw_view c.args.raw) is.0 = rw c.requires is.1 in
    saw_of read.raw (saw terms before h (comes_of (sym read.raw) comes)
    (sound_here is.0 reads comes (content_sound kept side bytes _ is))
    (read.read kept h.note.event comes.stood.holds.sent comes.noted.0
    (speaks_here is.0 reads comes (Some c.read_into.new.spoken) (side, is.2)))))
    c.see_read.ensures.saw

pub returns-in_ok-rule-in-Err-clause-saw : goal.returns-in_ok-rule-in-Err-clause-saw
returns-in_ok-rule-in-Err-clause-saw g c =
    let side = c.args.side in
    let rule = c.in_ok-rule-in-Err.rule in
    let read : ReadsAs side c.args.content.now (fault side rule) = (
      refl,
      subst (λ (f : Fault). IsUnspoken side c.args.content.now f)
          c.in_ok-rule-in-Err.ensures.rule c.in-Err.ensures.rule,
    ) in
    let reads : Reads (raw_view c.args.raw) (fault side rule) = rw c.requires read in
    IfOk-weaker c.skip.result _ _ (λ flow saw terms before h comes.
    saw terms before h comes (fault_rule side rule comes reads) (fault_silent side rule comes reads)
    (fault_tries side rule comes reads _)) c.skip.ensures.saw
