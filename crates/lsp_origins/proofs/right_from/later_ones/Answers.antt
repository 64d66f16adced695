use Rattle.std.proofs.Common.{◌+◌, ◌++◌, ◌∷◌, ◌∙◌, [], append-nil, append_assoc, arith, ap, drop, sym}
use Rattle.std.proofs.lemmas.List.{drop_all}
use Rattle.lsp_trail.specs.Bases.{later}
use Rattle.lsp_origins.specs.Fits.{suspect_view, suspects_view}
use Rattle.lsp_origins.proofs.Fitting.{suspects_from}
use Rattle.lsp_trail.proofs.LaterChanges.{later-append}
use Rattle.lsp_origins.proofs.right_from.later_ones.Goals as goal

pub loop-suspect-init : goal.loop-suspect-init
loop-suspect-init c =
    ap (λ l. suspects_view l ++ later c.args.shown.now.version (suspects_view c.args.suspects.now))
    c.new-after.ensures.items

pub loop-suspect-preserved : goal.loop-suspect-preserved
loop-suspect-preserved c =
    let all = c.args.suspects.now in
    let i = c.loop-suspect.suspect-index in
    let s = c.suspect-item.result in
    let n = c.args.shown.now.version in
    let done = suspects_view c.loop-suspect.after.items in
    let one = suspect_view s ∷ [] in
    let more = suspects_view (drop (i + 1) all) in
    ap (λ l. l ++ later n more) c.in_ok-push_if_later.ensures
    ∙ append_assoc done (later n one) (later n more)
    ∙ ap (λ l. done ++ l) (sym (later-append n one more))
    ∙ ap (λ l. done ++ later n l) (sym (suspects_from all i s (omega arith) c.suspect-item.is))
    ∙ c.loop-suspect.invariant

pub returns : goal.returns
returns c =
    let done = suspects_view c.loop-suspect.after.items in
    sym (append-nil done)
    ∙ ap (λ l. done ++ later c.args.shown.now.version (suspects_view l))
    (sym (drop_all c.loop-suspect.suspect-index c.args.suspects.now c.loop-suspect-test.false))
    ∙ c.loop-suspect.invariant
