use Rattle.std.proofs.Common.{◌+◌, ◌++◌, ◌∷◌, ◌∙◌, append-nil, arith, ap, drop, rules, sym, w32}
use Rattle.std.proofs.lemmas.Int.{to_z-of_z}
use Rattle.std.proofs.lemmas.List.{drop_all}
use mir.Val.{SFits}
use Rattle.lsp_trail.specs.Common.{edits_of, sent_edits, sents_view}
use Rattle.lsp_origins.specs.Fits.{suspects_view}
use Rattle.lsp_origins.specs.declared.fits.Suspect.{Suspect}
use Rattle.lsp_origins.proofs.Fitting.{one_listed, sents_from}
use Rattle.lsp_origins.proofs.fits.sent_ones.Goals as goal

pub loop-one-init : goal.loop-one-init
loop-one-init c =
    ap (λ l. suspects_view l ++ sents_view c.args.sent.now) c.new-suspects.ensures.items

pub loop-one-preserved : goal.loop-one-preserved
loop-one-preserved c =
    let sent = c.args.sent.now in
    let i = c.loop-one.one-index in
    let one = c.one-item.result in
    let fits : SFits w32 one.version = search rules in
    let pushed = simp to_z-of_z at c.in_ok-push.ensures.items in
    let more = sents_view (drop (i + 1) sent) in
    let own : Suspect = record { version = one.version; changes = c.as_slice-changes.result } in
    let next = sents_from sent i one (omega arith) c.one-item.is
    ∙ ap (λ cs. sent_edits one.version (edits_of cs) ∷ more) (sym c.as_slice-changes.ensures.value)
    in
    ap (λ l. suspects_view l ++ more) pushed
    ∙ one_listed c.loop-one.suspects.items own (sents_view sent) (sents_view (drop i sent)) more
    c.loop-one.invariant next

pub returns : goal.returns
returns c =
    let sent = c.args.sent.now in
    let done = suspects_view c.loop-one.suspects.items in
    sym (append-nil done)
    ∙ ap (λ l. done ++ sents_view l) (sym (drop_all c.loop-one.one-index sent c.loop-one-test.false))
    ∙ c.loop-one.invariant
