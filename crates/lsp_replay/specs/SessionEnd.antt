-- What is wrong where a session ends.
use Rattle.std.specs.Prelude.{ℕ, List, Bool, true, false, Option, Some, None, option_map}
use Rattle.lsp_session.specs.Incomplete.{incomplete}
use Rattle.lsp_types.specs.declared.rules.TheConstants as rules
use Rattle.lsp_verdict.specs.Event.{Event, sent_in}
use Rattle.lsp_verdict.specs.declared.completeness.Completeness.{Completeness}
use Rattle.lsp_verdict.specs.declared.completeness.Completeness.TheVariants.{Ignored, Required}
use Rattle.lsp_verdict.specs.declared.verdict.Who.{Who}
use Rattle.lsp_verdict.specs.declared.verdict.Who.TheVariants as who

-- 303 or 407 where these kept events break them and the session must be complete
abbrev pub lack_rule : Completeness → List Event → Option ℕ
lack_rule Ignored kept = None
lack_rule Required kept = incomplete (sent_in kept)

-- **the rule that is broken first where it ends after them, and by whom**: a rest of the editor's
-- or the server's, whose streams end inside a frame or don't, else what is missing
abbrev pub first_end : Completeness → List Event → Bool → Bool → Option (ℕ × Who)
first_end completeness kept true server = Some (rules.STREAM_ENDS_INSIDE_FRAME, who.Editor)
first_end completeness kept false true = Some (rules.STREAM_ENDS_INSIDE_FRAME, who.Server)
first_end completeness kept false false =
    option_map (λ rule. (rule, who.Editor)) (lack_rule completeness kept)
