use Rattle.std.proofs.Common.{◌∙◌, ap, rules, sym, w32}
use Rattle.std.proofs.lemmas.Int.{to_z-of_z}
use Rattle.std.proofs.lemmas.Result.{IfOk-weaker}
use mir.Val.{SFits}
use Rattle.lsp_trail.specs.Common.{call_view, calls, kept_of, steps, terms_in, uri_of}
use Rattle.lsp_facts.specs.Refuting.{refuting}
use Rattle.lsp_trail.specs.Marking.{waiting_for}
use Rattle.lsp_origins.specs.Traced.{differing}
use Rattle.lsp_origins.proofs.trace.differing.Goals as goal

pub returns-in-Message : goal.returns-in-Message
returns-in-Message c =
    let number = c.in-Message.version in
    let fits : SFits w32 number = search rules in
    let waits = simp to_z-of_z at c.waiting-waiting.ensures in
    IfOk-weaker c.refuting.result _ _ (λ others are before stands breaks tried.
    let terms = terms_in c.args.past in
    let call = call_view c.args.call in
    let before_it = calls (kept_of terms before) in
    are before_it stands.holds.called breaks tried
    ∙ ap (refuting terms before_it call) (waits terms before stands.trail.marked
    ∙ ap (λ uri. waiting_for number (steps terms uri before)) c.uri.ensures)
    ∙ ap (differing terms before_it (steps terms (uri_of call) before) c.args.place call)
    (sym c.in-Message.is)) c.refuting.ensures
