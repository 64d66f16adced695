use Rattle.std.proofs.Common.{◌≡◌, ◌++◌, List, ℕ, refl, ap, ◌∙◌}
use Rattle.std.specs.String.{string_bytes}
use Rattle.lsp_text.specs.Spans.{bytes_between}
use Rattle.lsp_lined.proofs.WindowEdits.{CanOpen, AreOpened, opened_sums, opened}
use Rattle.lsp_lined.proofs.Walks.{written_in_order}
use Rattle.lsp_lined.proofs.lined.window.Windowed.open.Goals as goal
use Rattle.lsp_lined.proofs.lined.window.Windowed.open.Goals.{After-sums}

pub walk-requires-clause-order : goal.walk-requires-clause-order
walk-requires-clause-order c = written_in_order string_bytes

can_open : (c : After-sums)
    → CanOpen c.args.self.now c.args.from c.args.to c.in-Some-Some.start c.in-Some-Some.end
can_open c =
    record {
      held = c.requires.held;
      can = c.requires.can;
      closed = c.requires.closed;
      front = c.if-from-start.false;
      back = c.if-end-to.false;
      first = c.in-Some-Some.ensures;
      second = c.in-Some-Some.ensures';
    }

window_is : (c : After-sums) → c.in_ok-window.window
    ≡ bytes_between c.args.self.now.tree c.in-Some-Some.start c.in-Some-Some.end
window_is c =
    let between = bytes_between c.args.self.now.tree c.in-Some-Some.start c.in-Some-Some.end in
    c.in_ok-window.ensures ∙ c.as_str.ensures.value ∙ c.in_ok-walk.ensures.ok
    ∙ ap (λ (x : List ℕ). x ++ between) c.in_ok-text.ensures.bytes

sums_opened : (c : After-sums)
    → AreOpened c.args.self.now c.in-Some-Some.end c.sums_before-self.result c.sums.result
sums_opened c =
    opened_sums c.args.self.now c.args.from c.args.to c.in-Some-Some.start c.in-Some-Some.end
    c.sums_before-self.result c.sums.result c.in_ok-window.window (can_open c)
    c.sums_before-self.ensures (window_is c)
    c.sums.ensures.sums

pub with-self-requires-clause-these : goal.with-self-requires-clause-these
with-self-requires-clause-these c = (sums_opened c).these

pub with-self-requires-clause-those : goal.with-self-requires-clause-those
with-self-requires-clause-those c = (sums_opened c).those

pub returns : goal.returns
returns c =
    let at = (goal.at.returns c).After-sums in
    opened c.args.self.now _ c.args.from c.args.to c.in-Some-Some.start c.in-Some-Some.end
    c.sums.result (can_open at) refl refl (window_is at) c.sums_before-self.ensures
    c.sums.ensures.sums c.with-self.ensures refl refl
