use Rattle.std.proofs.Common.{◌++◌, ◌∷◌, ◌∙◌, [], ap, arith, sym, w32}
use Rattle.std.proofs.lemmas.Int.{to_z-of_z}
use Rattle.std.proofs.lemmas.List.{length_push}
use Rattle.lsp_trail.specs.Common.{are_few, edits_of, sent_edits, sents_view}
use Rattle.lsp_trail.specs.Bases.{sent_in}
use Rattle.lsp_origins.proofs.Fitting.{are_named, large_named, many_named, not_empty, sents-length}
use Rattle.lsp_origins.proofs.fits.with_own.Goals as goal

-- there are as many others as are named
pub returns-then-sent-ge-MOST_NAMED : goal.returns-then-sent-ge-MOST_NAMED
returns-then-sent-ge-MOST_NAMED c =
    let sent = sents_view c.args.sent.now in
    let own = sent_edits c.args.version (edits_of c.args.changes.now) in
    many_named (are_few (sent_in c.args.base.now ++ own ∷ [])) (sent ++ own ∷ [])
    (omega (arith, length_push sent own, sents-length c.args.sent.now))

-- all together are too large
pub returns-then-not-has_room : goal.returns-then-not-has_room
returns-then-not-has_room c =
    let sent = sents_view c.args.sent.now in
    let own = sent_edits c.args.version (edits_of c.args.changes.now) in
    large_named (are_few (sent_in c.args.base.now ++ own ∷ []))
    (sent ++ own ∷ []) (sym (c.has_room.ensures c.args.version) ∙ c.if-not-has_room.true)

pub returns : goal.returns
returns c =
    let sent = sents_view c.args.sent.now in
    let own = sent_edits c.args.version (edits_of c.args.changes.now) in
    are_named (are_few (sent_in c.args.base.now ++ own ∷ []))
    (sent ++ own ∷ []) _ (sym (c.has_room.ensures c.args.version) ∙ c.if-not-has_room.false)
    (omega (arith, length_push sent own, sents-length c.args.sent.now))
    (not_empty sent own)
    (ap (λ v. sent ++ sent_edits v (edits_of c.args.changes.now) ∷ [])
    (to_z-of_z w32 c.args.version c.ranges.version))
