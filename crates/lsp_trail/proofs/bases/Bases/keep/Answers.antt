use Rattle.std.proofs.Common.{◌≡◌, ◌∙◌, None, rules, subst, sym, w32}
use Rattle.std.proofs.lemmas.Int.{to_z-of_z}
use Rattle.std.proofs.lemmas.Result.{on_ok_weaker}
use mir.Val.{SFits}
use Rattle.lsp_replay.specs.Common.{Bytes, call_view}
use Rattle.lsp_trail.specs.Bases.{Begun, ChangesOne, KeepsBy, ShownBy}
use Rattle.lsp_trail.specs.declared.step.Step.{Step}
use Rattle.lsp_trail.proofs.BasesHeld.{keeps_added, keeps_known}
use Rattle.lsp_trail.proofs.bases.Bases.keep.Goals as goal

-- its document is closed
pub returns-in-Closes : goal.returns-in-Closes
returns-in-Closes c = λ after stands.
    let old = c.args.self.now.map.entries in
    let new = c.close.new.map.entries in
    subst (λ (s : Step). KeepsBy c.args.docs.now.terms after (call_view c.args.call) s
    c.args.is_equal old new) (sym c.in-Closes.is)
    (subst (λ (u : Bytes). ChangesOne u (λ was now. now ≡ None) old new) c.uri.ensures
    c.close.ensures)

-- the text that it has is known
pub returns-then-is_known : goal.returns-then-is_known
returns-then-is_known c =
    let fits : SFits w32 c.in-Reaches.version = search rules in
    let begins = simp to_z-of_z at c.begin.ensures in
    on_ok_weaker c.begin.result (λ begun after stands.
    let terms = c.args.docs.now.terms in
    let call = call_view c.args.call in
    let old = c.args.self.now.map.entries in
    let new = c.begin.new.map.entries in
    let n = c.in-Reaches.version in
    subst (λ (s : Step). KeepsBy terms after call s c.args.is_equal old new) (sym c.in-Reaches.is)
    (keeps_known terms after call n c.in-Reaches.opens c.args.is_equal old new
    (sym c.is_known.ensures ∙ c.if-is_known.true)
    (subst (λ (u : Bytes). Begun terms after u n old new) c.uri-then-is_known.ensures (begun after stands)))) begins

-- it is not
pub returns-else-is_known : goal.returns-else-is_known
returns-else-is_known c = on_ok_weaker c.add.result (λ added after stands.
    let terms = c.args.docs.now.terms in
    let call = call_view c.args.call in
    let old = c.args.self.now.map.entries in
    let new = c.add.new.map.entries in
    subst (λ (s : Step). KeepsBy terms after call s c.args.is_equal old new) (sym c.in-Reaches.is)
    (keeps_added terms after call c.in-Reaches.version c.in-Reaches.opens c.args.is_equal old new
    (sym c.is_known.ensures ∙ c.if-is_known.false) (λ more is. added after more stands is)))
    c.add.ensures

-- a snapshot is compared, or waits
pub returns-in-Shows : goal.returns-in-Shows
returns-in-Shows c =
    let fits : SFits w32 c.in-Shows.version = search rules in
    let shows = simp to_z-of_z at c.show.ensures in
    on_ok_weaker c.show.result (λ shown after stands.
    let terms = c.args.docs.now.terms in
    let old = c.args.self.now.map.entries in
    let new = c.show.new.map.entries in
    subst (λ (s : Step). KeepsBy terms after (call_view c.args.call) s c.args.is_equal old new)
    (sym c.in-Shows.is)
    (subst (λ (u : Bytes). ShownBy terms after u c.in-Shows.version c.in-Shows.answer old new)
    c.uri-in-Shows.ensures (shown after stands))) shows
