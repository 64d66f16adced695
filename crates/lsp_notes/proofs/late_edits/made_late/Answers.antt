use Rattle.std.specs.Prelude.{option_map}
use Rattle.std.proofs.Common.{◌∙◌, ap, rules, sym, w32}
use Rattle.std.proofs.lemmas.Int.{to_z-of_z}
use mir.Val.{SFits}
use Rattle.lsp_trail.specs.Common.{edits_of, held, kept, text_at}
use Rattle.lsp_notes.proofs.LateSteps.{made_newer, made_not, no_older}
use Rattle.lsp_notes.proofs.late_edits.made_late.Goals as goal

-- the older text is not known
pub returns-in_default : goal.returns-in_default
returns-in_default c = λ made stands.
    let fits : SFits w32 c.args.older = search rules in
    let at = simp to_z-of_z at (c.store_at.ensures made stands) in
    no_older c.args.encoding (edits_of c.args.edits.now) _ _ _
    (sym (ap (option_map (λ s. s.now.content)) c.in_default.is) ∙ at)

-- they don't make it of the newer one
pub returns-then-not-branch : goal.returns-then-not-branch
returns-then-not-branch c = λ made stands.
    let terms = c.args.docs.now.terms in
    let uri = c.args.uri.now in
    let enc = c.args.encoding in
    let edits = edits_of c.args.edits.now in
    let before = kept terms uri made in
    let v = held terms uri made in
    let a = c.in-Some.older.now.content in
    let b = c.in-Some-store_at.newer.now.content in
    let t = c.in-Some-store_of.now.now.content in
    let fits : SFits w32 c.args.older = search rules in
    let fits_newer : SFits w32 c.args.newer = search rules in
    let has = simp to_z-of_z at (c.in-Some.ensures made stands) in
    let also = simp to_z-of_z at (c.in-Some-store_at.ensures made stands) in
    made_not enc edits (text_at c.args.older before v) (text_at c.args.newer before v)
    (option_map (λ w. w.text) v) a b t has also (c.in-Some-store_of.ensures made stands)
    (sym c.in_ok-makes.ensures ∙ c.if-not-branch.true)

pub returns : goal.returns
returns c = λ made stands.
    let terms = c.args.docs.now.terms in
    let uri = c.args.uri.now in
    let enc = c.args.encoding in
    let edits = edits_of c.args.edits.now in
    let before = kept terms uri made in
    let v = held terms uri made in
    let a = c.in-Some.older.now.content in
    let b = c.in-Some-store_at.newer.now.content in
    let t = c.in-Some-store_of.now.now.content in
    let fits : SFits w32 c.args.older = search rules in
    let fits_newer : SFits w32 c.args.newer = search rules in
    let has = simp to_z-of_z at (c.in-Some.ensures made stands) in
    let also = simp to_z-of_z at (c.in-Some-store_at.ensures made stands) in
    made_newer enc edits (text_at c.args.older before v) (text_at c.args.newer before v)
    (option_map (λ w. w.text) v) a b t has also (c.in-Some-store_of.ensures made stands)
    c.in_ok-makes-2.field-0
    (sym c.in_ok-makes.ensures ∙ c.if-not-branch.false) c.in_ok-makes-2.ensures
