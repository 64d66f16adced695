use Rattle.std.proofs.Common.{◌∙◌, ◌++◌, Bor, Option, ap, rules, string_bytes, subst, sym, w32}
use Rattle.std.specs.Prelude.{option_map}
use Rattle.std.proofs.lemmas.Int.{to_z-of_z}
use Rattle.std.proofs.lemmas.Result.{on_ok_weaker}
use mir.Val.{SFits}
use Rattle.lsp_rpc.specs.declared.act.Spoken.{Spoken}
use Rattle.lsp_replay.specs.Telling.{MaySpeak, kept_before}
use Rattle.lsp_replay.proofs.Apart.{said_by}
use Rattle.lsp_replay.proofs.Following.{whose_read}
use Rattle.lsp_replay.proofs.SeenLines.{broken_offends, counted_on, message_shown, silent_offends}
use Rattle.lsp_replay.proofs.SeenLines.{snapshot_shown}
use Rattle.lsp_verdict.specs.Heard.{heard_events}
use Rattle.lsp_verdict.specs.Given.{raw_view}
use Rattle.lsp_verdict.specs.Offences.{IsNoted}
use Rattle.lsp_verdict.specs.Placed.{Raw}
use Rattle.lsp_verdict.specs.declared.raw.Raw as code
use Rattle.lsp_replay.proofs.seen.push_line.Goals as goal

pub returns-in-Some : goal.returns-in-Some
returns-in-Some c =
    on_ok_weaker c.push_message_line.result (λ said terms before h seen rule.
    let kept = kept_before terms before in
    let read = subst (λ (w : Raw). IsNoted w h.note) seen.is seen.noted in
    let noted = subst (λ (r : code.Raw). IsNoted (raw_view r) h.note) c.in-Content.is read in
    let spoken = said_by c.in-Content.side c.in-Content.content.now kept h.note.event
    c.in-Some.spoken.now noted.0 (subst (λ (o : Option (Bor Spoken)). MaySpeak kept h.note.event
    (option_map (λ (s : Bor Spoken). s.now) o)) c.in-Some.is seen.spoken) in
    let place = c.last-place.ensures (heard_events before) h.note.event
    (counted_on before h _ seen.few seen.stood.counted)
    (c.who.ensures ∙ sym (whose_read _ h.note.event read.0)) in
    said ∙ ap (λ w. string_bytes c.args.text.now ++ w)
    (message_shown before h _ seen.few seen.stood.counted c.args.lines _ place _ _ _ spoken))
    c.push_message_line.ensures

pub returns-in-None : goal.returns-in-None
returns-in-None c = λ terms before h seen rule.
    let noted = subst (λ (w : Raw). IsNoted w h.note)
    (rw c.in-Content.is at seen.is) seen.noted in
    absurd (silent_offends terms before h _ _ noted.0
    (subst (λ (o : Option (Bor Spoken)). MaySpeak (kept_before terms before) h.note.event
    (option_map (λ (s : Bor Spoken). s.now) o)) c.in-None.is seen.spoken) rule)

pub returns-in-Broken : goal.returns-in-Broken
returns-in-Broken c = λ terms before h seen rule.
    let noted = subst (λ (w : Raw). IsNoted w h.note)
    (rw c.in-Broken.is at seen.is) seen.noted in
    absurd (broken_offends terms before h _ _ noted.0 rule)

pub returns-in-Snapshot : goal.returns-in-Snapshot
returns-in-Snapshot c =
    let at = c.in-Snapshot in
    let fits : SFits w32 at.version = search rules in
    let said = simp to_z-of_z at c.push_snapshot_line.ensures in
    on_ok_weaker c.push_snapshot_line.result (λ said terms before h seen rule.
    let read = subst (λ (w : Raw). IsNoted w h.note) seen.is seen.noted in
    let noted = subst (λ (r : code.Raw). IsNoted (raw_view r) h.note) at.is read in
    let place = c.last-place.ensures (heard_events before) h.note.event
    (counted_on before h _ seen.few seen.stood.counted)
    (c.who.ensures ∙ sym (whose_read _ h.note.event read.0)) in
    said ∙ ap (λ w. string_bytes c.args.text.now ++ w)
    (snapshot_shown before h _ seen.few seen.stood.counted c.args.lines _ place _ _ _ noted.0))
    said
