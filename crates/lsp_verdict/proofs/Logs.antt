-- A log has a verdict, and one only.
pub mod Text
pub mod Ends
use Rattle.std.proofs.Common.{◌≡◌, ℕ, List, ◌++◌, Option, refl, sym, ap, subst}
use Rattle.lsp_frame.specs.Bounds.{Bounds, IsInRange}
use Rattle.lsp_frame.specs.declared.format.Format.{Format}
use Rattle.lsp_types.specs.declared.side.Side.TheVariants.{Editor, Server}
use Rattle.lsp_docs.specs.Documents.{terms_of}
use Rattle.lsp_log.specs.declared.fault.LogCode.{LogCode}
use Rattle.lsp_log.specs.Log.{Record}
use Rattle.lsp_verdict.specs.Laws.{OneVerdict, SomeVerdict, SomeFinal, EventsFirst, OffenceDecides}
use Rattle.lsp_verdict.specs.Laws.{merged}
use Rattle.lsp_verdict.specs.Placed.{IsSession, joined}
use Rattle.lsp_verdict.specs.Outcome.{IsFinal, IsVerdict, Offends, ending, format_or_one, log_terms}
use Rattle.lsp_verdict.specs.Verdict.{Verdict, verdict}
use Rattle.lsp_verdict.proofs.Below.{one_log, some_log, some_stream, records_come_first}
use Rattle.lsp_verdict.proofs.Outcomes.{cuts_leave_verdict, offends_final, session_front}
use Rattle.lsp_verdict.proofs.Sessions.{same_session, some_session}

pub final_more : (limits : Bounds) (format : Format) (rs us more : List Record) (flaw : Option (ℕ × LogCode)) (v w : Verdict) → us ≡ rs ++ more → Offends limits format rs v → IsFinal limits format us flaw w → v ≡ w
final_more limits format rs us more flaw v w whole p q = offends_final limits format rs more flaw v w p (subst (λ (x : List Record). IsFinal limits format x flaw w) whole q)

-- ---- each log has a verdict

pub some_final : SomeFinal
some_final limits format rs flaw =
    let session = some_session limits rs in
    let editor = some_stream limits (joined Editor rs) in
    let server = some_stream limits (joined Server rs) in (
      verdict (terms_of limits format) session.0 (ending flaw editor.1 server.1),
      record {
        events = session.0;
        editor = editor.1;
        server = server.1;
        session = session.1;
        editor_rest = (editor.0, editor.2, editor.3);
        server_rest = (server.0, server.2, server.3);
        says = refl;
      },
    )

pub some_verdict : SomeVerdict
some_verdict limits log =
    let whole = some_log limits log in
    let final = some_final limits (format_or_one whole.0) whole.1 whole.2 in
    (final.0, record { format = whole.0; records = whole.1; fault = whole.2; is_log = whole.3; final = final.1 })

-- its events begin with those of records that it begins with
pub events_first : EventsFirst
events_first limits sizes format log rest rs es v begins session whole =
    let cut = records_come_first limits sizes log rest format whole.format rs whole.records whole.fault begins whole.is_log in
    session_front limits rs cut.1 es whole.final.events session (subst (λ (us : List Record). IsSession limits us whole.final.events) cut.2 whole.final.session)

-- where an event of these offends, the No at the first is the verdict
pub offence_decides : OffenceDecides
offence_decides limits sizes format log rest rs v begins offends =
    let whole = some_verdict limits log in
    let cut = records_come_first limits sizes log rest format whole.1.format rs whole.1.records whole.1.fault begins whole.1.is_log in
    let final = subst (λ (f : Option Format). IsFinal limits (format_or_one f) whole.1.records whole.1.fault whole.0) cut.0 whole.1.final in
    subst (IsVerdict limits log) (sym (final_more limits format rs whole.1.records cut.1 whole.1.fault v whole.0 cut.2 offends final)) whole.1

-- ---- and one only

pub same_events : (limits : Bounds) → IsInRange limits → (log : List ℕ) (v w : Verdict) → (p : IsVerdict limits log v) → (q : IsVerdict limits log w) → p.final.events ≡ q.final.events
same_events limits sizes log v w p q =
    let same = one_log limits sizes log p.format q.format p.records q.records p.fault q.fault p.is_log q.is_log in
    same_session limits p.records q.records p.final.events q.final.events (ap merged same.1) p.final.session q.final.session

pub one_verdict : OneVerdict
one_verdict limits sizes log v w p q =
    let same = one_log limits sizes log p.format q.format p.records q.records p.fault q.fault p.is_log q.is_log in
    let alike = subst (λ (f : Option Format). IsFinal limits (format_or_one f) p.records p.fault v) same.0 p.final in
    cuts_leave_verdict limits (format_or_one q.format) p.records q.records q.fault v w (ap merged same.1)
    (subst (λ (f : Option (ℕ × LogCode)). IsFinal limits (format_or_one q.format) p.records f v) same.2 alike) q.final

-- its terms are the same
pub same_terms : (limits : Bounds) → IsInRange limits → (log : List ℕ) (v w : Verdict) → (p : IsVerdict limits log v) → (q : IsVerdict limits log w) → log_terms limits p.format ≡ log_terms limits q.format
same_terms limits sizes log v w p q = ap (log_terms limits) (one_log limits sizes log p.format q.format p.records q.records p.fault q.fault p.is_log q.is_log).0
