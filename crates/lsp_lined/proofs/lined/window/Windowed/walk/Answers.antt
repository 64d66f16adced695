use Rattle.std.proofs.Common.{List, ℕ, length, refl, subst, ap}
use Rattle.lsp_text.specs.Spans.{bytes_between}
use Rattle.lsp_lined.specs.declared.sums.Sums.{Sums}
use Rattle.lsp_lined.proofs.WindowPlaces.{spans}
use Rattle.lsp_lined.proofs.Walks.{three_seen, first_stopped, second_stopped, third_stopped}
use Rattle.lsp_lined.proofs.Walks.{on_err, then_ok, then_err}
use Rattle.lsp_lined.proofs.lined.window.Windowed.walk.Goals as goal

pub walk-requires-clause-span : goal.walk-requires-clause-span
walk-requires-clause-span g c =
    (spans c.args.self.now (length c.args.self.now.tree) c.requires.held refl).first

pub returns-in_err-walk-clause-err : goal.returns-in_err-walk-clause-err
returns-in_err-walk-clause-err g c =
    let w = c.args.self.now in
    let s = spans w (length w.tree) c.requires.held refl in
    on_err c.from_residual.result
    (first_stopped g.V.Visitor.sees g.V.Visitor.stops c.args.visitor.now c.walk.new.visitor
    (bytes_between w.tree 0 w.before.bytes) w.window
    (bytes_between w.tree w.skipped.bytes (length w.tree)) _ c.requires.order s.text s.apart
    c.in_err-walk.ensures.err)

pub returns-in_err-visit-clause-err : goal.returns-in_err-visit-clause-err
returns-in_err-visit-clause-err g c =
    let w = c.args.self.now in
    let s = spans w (length w.tree) c.requires.held refl in
    on_err c.from_residual-in_err-visit.result
    (second_stopped g.V.Visitor.sees g.V.Visitor.stops c.args.visitor.now c.walk.new.visitor
    c.visit.new.self (bytes_between w.tree 0 w.before.bytes) w.window
    (bytes_between w.tree w.skipped.bytes (length w.tree)) _ c.requires.order s.text s.apart
    s.window_apart c.in_ok-walk.ensures.ok
    (subst (λ (x : List ℕ). g.V.Visitor.stops c.walk.new.visitor x c.visit.new.self)
    c.as_str.ensures c.in_err-visit.ensures.err))

pub returns-clause-ok : goal.returns-clause-ok
returns-clause-ok g c =
    let w = c.args.self.now in
    let s = spans w c.sums.result.bytes c.requires.held
    (ap (λ (x : Sums). x.bytes) c.sums.ensures.sums) in
    then_ok c.walk-2.result
    (three_seen g.V.Visitor.sees g.V.Visitor.stops c.args.visitor.now c.walk.new.visitor
    c.visit.new.self c.walk-2.new.visitor (bytes_between w.tree 0 w.before.bytes) w.window
    (bytes_between w.tree w.skipped.bytes c.sums.result.bytes) _ c.requires.order s.text s.apart
    s.window_apart c.in_ok-walk.ensures.ok
    (subst (λ (x : List ℕ). g.V.Visitor.sees c.walk.new.visitor x c.visit.new.self)
    c.as_str.ensures c.in_ok-visit.ensures.ok))
    c.walk-2.ensures.ok

pub returns-clause-err : goal.returns-clause-err
returns-clause-err g c =
    let w = c.args.self.now in
    let s = spans w c.sums.result.bytes c.requires.held
    (ap (λ (x : Sums). x.bytes) c.sums.ensures.sums) in
    then_err c.walk-2.result
    (third_stopped g.V.Visitor.sees g.V.Visitor.stops c.args.visitor.now c.walk.new.visitor
    c.visit.new.self c.walk-2.new.visitor (bytes_between w.tree 0 w.before.bytes) w.window
    (bytes_between w.tree w.skipped.bytes c.sums.result.bytes) _ c.requires.order s.text s.apart
    s.window_apart c.in_ok-walk.ensures.ok
    (subst (λ (x : List ℕ). g.V.Visitor.sees c.walk.new.visitor x c.visit.new.self)
    c.as_str.ensures c.in_ok-visit.ensures.ok))
    c.walk-2.ensures.err
