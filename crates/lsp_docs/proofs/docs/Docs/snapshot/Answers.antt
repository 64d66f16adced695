use Rattle.std.proofs.Common.{◌≡◌, sym, ◌∙◌, subst, w32, rules}
use Rattle.std.specs.Str.{chars}
use Rattle.std.proofs.lemmas.Int.{to_z-of_z}
use mir.Val.{SFits}
use Rattle.lsp_docs.specs.Calls.{shows}
use Rattle.lsp_docs.specs.Documents.{versioned}
use Rattle.lsp_docs.specs.State.{Accepts, IsAdded, Refuses, missed_one}
use Rattle.lsp_docs.proofs.Stepping.{accepts-equal, accepts-missed, accepts-waiting, allows, answers}
use Rattle.lsp_docs.proofs.Stepping.{refuses, stated, terms_in}
use Rattle.lsp_docs.proofs.docs.Docs.snapshot.Goals as goal

pub returns-in_err-judge-clause-refuses : goal.returns-in_err-judge-clause-refuses
returns-in_err-judge-clause-refuses g c =
    let fits : SFits w32 c.args.version = c.ranges.version in
    let rule = simp to_z-of_z at c.in_err-judge.ensures.rule in
    let call = shows c.args.uri.now c.args.version (chars c.args.text.now) in
    let named : Refuses c.args.self.now call c.in_err-judge.field-0.0 =
    refuses c.args.self.now call c.in_err-judge.field-0.0 rule in
    search rules

pub returns-in-Equal-clause-accepts : goal.returns-in-Equal-clause-accepts
returns-in-Equal-clause-accepts g c =
    let fits : SFits w32 c.args.version = c.ranges.version in
    let answer = simp to_z-of_z at c.in_ok-judge.ensures.answer in
    let accepted = simp to_z-of_z at c.in_ok-judge.ensures.accepted in
    accepts-equal c.args.self.now c.args.uri.now c.args.version (chars c.args.text.now) accepted
    (sym answer ∙ c.in-Equal.is)

pub returns-in-Equal-clause-answer : goal.returns-in-Equal-clause-answer
returns-in-Equal-clause-answer g c =
    let fits : SFits w32 c.args.version = c.ranges.version in
    let answer = simp to_z-of_z at c.in_ok-judge.ensures.answer in
    answers c.args.self.now c.args.uri.now c.args.version _ (sym c.in-Equal.is ∙ answer)

pub returns-in_ok-add-in-Waits-clause-accepts : goal.returns-in_ok-add-in-Waits-clause-accepts
returns-in_ok-add-in-Waits-clause-accepts g c =
    let fits : SFits w32 c.args.version = c.ranges.version in
    let answer = simp to_z-of_z at c.in_ok-judge.ensures.answer in
    let accepted = simp to_z-of_z at c.in_ok-judge.ensures.accepted in
    let s = c.args.self.now in
    let uri = c.args.uri.now in
    let n = c.args.version in
    let t = chars c.args.text.now in
    let new = c.add.new.self in
    let added = subst (λ x. IsAdded uri (versioned n t) x.waits.queues new.queues) c.self.view_is
    (simp to_z-of_z at c.in_ok-add-in-Waits.ensures.ok) in
    let counted = subst (λ x. new.missed ≡ x.waits.missed) c.self.view_is
    c.in_ok-add-in-Waits.ensures.missed in
    subst (λ x. Accepts s (stated x.terms x.documents x.kept new) (shows uri n t))
    (sym c.self.view_is)
    (accepts-waiting s uri n t new accepted (sym answer ∙ c.in-Waits.is) added counted)

pub returns-in_ok-add-in-Waits-clause-answer : goal.returns-in_ok-add-in-Waits-clause-answer
returns-in_ok-add-in-Waits-clause-answer g c =
    let fits : SFits w32 c.args.version = c.ranges.version in
    let answer = simp to_z-of_z at c.in_ok-judge.ensures.answer in
    answers c.args.self.now c.args.uri.now c.args.version _ (sym c.in-Waits.is ∙ answer)

pub returns-in-Missed-clause-accepts : goal.returns-in-Missed-clause-accepts
returns-in-Missed-clause-accepts g c =
    let fits : SFits w32 c.args.version = c.ranges.version in
    let answer = simp to_z-of_z at c.in_ok-judge.ensures.answer in
    let accepted = simp to_z-of_z at c.in_ok-judge.ensures.accepted in
    let s = c.args.self.now in
    let missing = subst (λ x. c.miss.new.self ≡ missed_one x.waits) c.self.view_is c.miss.ensures in
    subst (λ x. Accepts s (stated x.terms x.documents x.kept c.miss.new.self)
    (shows c.args.uri.now c.args.version (chars c.args.text.now))) (sym c.self.view_is)
    (accepts-missed s c.args.uri.now c.args.version (chars c.args.text.now) c.miss.new.self accepted
    (sym answer ∙ c.in-Missed.is) missing)

pub returns-in-Missed-clause-answer : goal.returns-in-Missed-clause-answer
returns-in-Missed-clause-answer g c =
    let fits : SFits w32 c.args.version = c.ranges.version in
    let answer = simp to_z-of_z at c.in_ok-judge.ensures.answer in
    answers c.args.self.now c.args.uri.now c.args.version _ (sym c.in-Missed.is ∙ answer)

pub returns-in_err-add-in-Waits-clause-memory : goal.returns-in_err-add-in-Waits-clause-memory
returns-in_err-add-in-Waits-clause-memory g c = λ refused.
    let fits : SFits w32 c.args.version = c.ranges.version in
    let accepted = simp to_z-of_z at c.in_ok-judge.ensures.accepted in
    allows c.args.self.now (shows c.args.uri.now c.args.version (chars c.args.text.now)) accepted

pub returns-in_err-add-in-Waits-clause-memory_waits :
    goal.returns-in_err-add-in-Waits-clause-memory_waits
returns-in_err-add-in-Waits-clause-memory_waits g c = λ refused.
    let fits : SFits w32 c.args.version = c.ranges.version in
    let answer = simp to_z-of_z at c.in_ok-judge.ensures.answer in
    answers c.args.self.now c.args.uri.now c.args.version _ (sym c.in-Waits.is ∙ answer)
