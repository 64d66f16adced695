use Rattle.std.specs.Borrow.{Bor}
use Rattle.std.specs.Prelude.{IfOk, OnOk, Option, Result, Ok, Err, option_map}
use Rattle.std.proofs.Common.{◌∙◌, ap, subst, sym}
use Rattle.std.proofs.lemmas.Result.{IfOk-weaker}
use Rattle.lsp_verdict.specs.Given.{raw_view}
use Rattle.lsp_replay.specs.Common.{kept_before, MaySpeak, Spoken}
use Rattle.lsp_survey.proofs.Losing.{frames_lost, message_lost, shown_lost, unread_lost}
use Rattle.lsp_survey.proofs.losses.Losses.offend.Goals as goal

pub returns-in-Some-clause-told : goal.returns-in-Some-clause-told
returns-in-Some-clause-told c = IfOk-weaker c.offend_message.result _ _
    (λ late told terms before h losses seen breaks.
    message_lost terms before h _ _ _ c.args.rule breaks seen.stood seen.noted late _ _ losses
    c.in-Content.side _ _ _ (seen.is ∙ ap raw_view c.in-Content.is)
    (subst (λ (o : Option (Bor Spoken)). MaySpeak (kept_before terms before) h.note.event
    (option_map (λ (s : Bor Spoken). s.now) o)) c.in-Some.is seen.spoken)
    (sym seen.says) (told terms)) c.offend_message.ensures

pub returns-in-None-clause-told : goal.returns-in-None-clause-told
returns-in-None-clause-told c = IfOk-weaker c.offend_unread.result _ _
    (λ late told terms before h losses seen breaks.
    unread_lost terms before h _ _ _ c.args.rule breaks seen.stood seen.noted late _ _ losses
    c.in-Content.side _ (seen.is ∙ ap raw_view c.in-Content.is)
    (subst (λ (o : Option (Bor Spoken)). MaySpeak (kept_before terms before) h.note.event
    (option_map (λ (s : Bor Spoken). s.now) o)) c.in-None.is seen.spoken)
    told.0 told.1 (told.2 terms)) c.offend_unread.ensures

pub returns-in-Broken-clause-told : goal.returns-in-Broken-clause-told
returns-in-Broken-clause-told c =
    let noted = c.offend_fault.ensures in λ terms before h losses seen breaks.
    frames_lost terms before h _ _ _ c.args.rule breaks seen.stood seen.noted
    c.offend_fault.result _ c.offend_fault.new.self losses c.in-Broken.side _
    (seen.is ∙ ap raw_view c.in-Broken.is) noted.stays noted.broken noted.follows

-- three facts on what is answered
if_all : {T E A B : Type 0} (r : Result T E) (P Q : T → Type 0)
    → ((x : T) → A → B → P x → Q x) → OnOk r A → OnOk r B → IfOk r P → IfOk r Q
if_all (Ok x) P Q all a b p = all x a b p
if_all (Err e) P Q all a b p = tt

pub returns-in-Snapshot-clause-told : goal.returns-in-Snapshot-clause-told
returns-in-Snapshot-clause-told c =
    let told = c.offend_call.ensures in
    if_all c.offend_call.result _ _ (λ late stays noted follows terms before h losses seen breaks.
    shown_lost terms before h _ _ _ c.args.rule breaks seen.stood seen.noted late _ _ losses _ _ _ _
    (seen.is ∙ ap raw_view c.in-Snapshot.is) (sym seen.says) stays noted follows)
    told.stays told.noted told.follows
