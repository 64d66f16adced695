-- The rule that a message breaks, and the sessions that break none.
use Rattle.std.specs.Prelude.{◌≡◌, ℕ, List, [], ◌∷◌, ◌++◌, Option, None}
use Rattle.std.specs.Option.{option_or}
use Rattle.lsp_session.specs.Lifecycle.{lifecycle_rule}
use Rattle.lsp_session.specs.Negotiation.{early_negotiation_rule, negotiation_rule}
use Rattle.lsp_session.specs.Requests.{request_rule}
use Rattle.lsp_session.specs.Sent.{Sent}

-- the least rule that the message breaks after these: 301 and 302, then 401 to 412, then 501 to 504
abbrev pub rule_after : List Sent → Sent → Option ℕ
rule_after before m = option_or (request_rule before m)
    (option_or (lifecycle_rule before m) (negotiation_rule before m))

-- the same of the rules that are decided before a session grows: all but 502 and 503
abbrev pub early_rule : List Sent → Sent → Option ℕ
early_rule before m = option_or (request_rule before m)
    (option_or (lifecycle_rule before m) (early_negotiation_rule before m))

-- none of these messages, which follow those before, breaks a rule
abbrev pub AdmittedAfter : List Sent → List Sent → Type 0
AdmittedAfter before [] = Unit {0}
AdmittedAfter before (m ∷ later) =
    (rule_after before m ≡ None) × AdmittedAfter (before ++ m ∷ []) later

abbrev pub IsAdmitted : List Sent → Type 0
IsAdmitted messages = AdmittedAfter [] messages
