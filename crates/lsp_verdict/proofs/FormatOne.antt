-- Logs of format 1 are judged with nothing kept.
use Rattle.std.proofs.Common.{◌≡◌, ℕ, List, [], Option, Some, ap, subst}
use Rattle.lsp_frame.specs.Bounds.{Bounds, IsInRange}
use Rattle.lsp_frame.specs.declared.format.Format.{Format}
use Rattle.lsp_frame.specs.declared.format.Format.TheVariants.{One}
use Rattle.lsp_log.specs.Log.{BeginsLog, IsLog}
use Rattle.lsp_verdict.proofs.Below.{records_come_first}
use Rattle.lsp_verdict.specs.Laws.{IsOfFormatOne, IsVerdictKeepingNone, FormatOneKeepsVerdict}
use Rattle.lsp_verdict.specs.Laws.{FormatOneKeepsReport}
use Rattle.lsp_verdict.specs.Outcome.{IsFinal, IsVerdict, format_or_one}
use Rattle.lsp_verdict.specs.Report.{report}
use Rattle.lsp_verdict.specs.Verdict.{Verdict}
use Rattle.lsp_verdict.proofs.Logs.{one_verdict}

format_is_one : (limits : Bounds) → IsInRange limits → (log : List ℕ) (v : Verdict) → IsOfFormatOne limits log → (whole : IsVerdict limits log v) → whole.format ≡ Some One
format_is_one limits sizes log v begins whole =
    let first : BeginsLog limits One log [] begins.0 = record { whole = begins.1; fits = tt } in
    let come = records_come_first limits sizes log begins.0 One whole.format [] whole.records whole.fault first whole.is_log in
    come.0

none_kept : (limits : Bounds) → IsInRange limits → (log : List ℕ) (v : Verdict) → IsOfFormatOne limits log → IsVerdict limits log v → IsVerdictKeepingNone limits log v
none_kept limits sizes log v begins whole =
    let is = format_is_one limits sizes log v begins whole in
    let final : IsFinal limits One whole.records whole.fault v = subst (λ (f : Option Format). IsFinal limits (format_or_one f) whole.records whole.fault v) is whole.final in
    record {
      records = whole.records;
      fault = whole.fault;
      events = final.events;
      editor = final.editor;
      server = final.server;
      is_log = subst (λ (f : Option Format). IsLog limits log f whole.records whole.fault) is whole.is_log;
      session = final.session;
      editor_rest = final.editor_rest;
      server_rest = final.server_rest;
      says = final.says;
    }

kept_as_before : (limits : Bounds) (log : List ℕ) (v : Verdict) → IsVerdictKeepingNone limits log v → IsVerdict limits log v
kept_as_before limits log v none = record {
  format = Some One;
  records = none.records;
  fault = none.fault;
  is_log = none.is_log;
  final = record {
    events = none.events;
    editor = none.editor;
    server = none.server;
    session = none.session;
    editor_rest = none.editor_rest;
    server_rest = none.server_rest;
    says = none.says;
  };
}

pub format_one_keeps_verdict : FormatOneKeepsVerdict
format_one_keeps_verdict limits sizes log v begins = (none_kept limits sizes log v begins, kept_as_before limits log v)

pub format_one_keeps_report : FormatOneKeepsReport
format_one_keeps_report limits sizes log v w begins whole none = ap report (one_verdict limits sizes log v w whole (kept_as_before limits log w none))
