use Rattle.std.proofs.Common.{◌≡◌, ◌++◌, string_bytes, map, take}
use Rattle.std.specs.List.{flat_map}
use Rattle.lsp_session.specs.Entry.{request_view}
use Rattle.lsp_verdict.specs.Report.{request_line}
use Rattle.lsp_verdict.proofs.report.push_requests.Given as goal

abbrev pub invariant-loop-side : goal.invariant-loop-side
invariant-loop-side l =
    string_bytes l.report ≡ string_bytes l.fn.report ++ flat_map request_line (map (λ r. (r.0, request_view r.1)) (take l.side-index l.requests))
