use Rattle.std.proofs.Common.{◌≡◌, ◌+◌, ◌∙◌, true, false, arith, ap, drop, sym}
use Rattle.lsp_text.specs.Changes.{edits_of}
use Rattle.lsp_origins.specs.Fits.{made, made_by, suspect_view, suspects_view, text_if}
use Rattle.lsp_origins.proofs.Fitting.{made_none, made_some, suspects_from}
use Rattle.lsp_origins.proofs.fits.make_all.Goals as goal

-- the changes of a message can't all be made
pub returns-then-not-branch : goal.returns-then-not-branch
returns-then-not-branch c =
    let all = c.args.suspects.now in
    let i = c.loop-suspect.suspect-index in
    let s = c.suspect-item.result in
    let limit = c.args.limit in
    let enc = c.args.encoding in
    let here = c.loop-suspect.made.content in
    let new = c.make.new.made.content in
    let more = suspects_view (drop (i + 1) all) in
    let next = suspects_from all i s (omega arith) c.suspect-item.is in
    let none : text_if false new ≡ made limit enc here (edits_of s.changes.now) =
    ap (λ b. text_if b new) (sym c.if-not-branch.true) ∙ c.in_ok-make.ensures in
    made_none limit enc here new (suspect_view s) more none
    ∙ sym (c.loop-suspect.invariant ∙ ap (made_by limit enc here) next)

-- they can
pub loop-suspect-preserved : goal.loop-suspect-preserved
loop-suspect-preserved c =
    let all = c.args.suspects.now in
    let i = c.loop-suspect.suspect-index in
    let s = c.suspect-item.result in
    let limit = c.args.limit in
    let enc = c.args.encoding in
    let here = c.loop-suspect.made.content in
    let new = c.make.new.made.content in
    let more = suspects_view (drop (i + 1) all) in
    let next = suspects_from all i s (omega arith) c.suspect-item.is in
    let some : text_if true new ≡ made limit enc here (edits_of s.changes.now) =
    ap (λ b. text_if b new) (sym c.if-not-branch.false) ∙ c.in_ok-make.ensures in
    c.loop-suspect.invariant ∙ ap (made_by limit enc here) next
    ∙ made_some limit enc here new (suspect_view s) more some
