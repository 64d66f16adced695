use Rattle.std.specs.Prelude.{map}
use Rattle.std.specs.List.{fold}
use Rattle.std.proofs.Common.{◌+◌, ◌∙◌, ap, drop, rules, sym, w32}
use Rattle.std.proofs.lemmas.Int.{to_z-of_z}
use mir.Val.{SFits}
use Rattle.lsp_text.specs.Changes.{edits_of}
use Rattle.lsp_origins.specs.Fits.{suspects_view}
use Rattle.lsp_origins.specs.Rearranged.{alone, put_in}
use Rattle.lsp_origins.proofs.Rearranging.{backwards_next}
use Rattle.lsp_origins.proofs.rearranged.backwards.Goals as goal

pub loop-at-preserved : goal.loop-at-preserved
loop-at-preserved c =
    let number = c.args.suspect.version in
    let changes = c.args.suspect.changes.now in
    let at = c.loop-at.at in
    let fits : SFits w32 number = search rules in
    let put = simp to_z-of_z at c.in_ok-put_in.ensures in
    ap (λ l. fold put_in l (map (alone number) (edits_of (drop (at + 1) changes)))) put
    ∙ sym (backwards_next number changes (suspects_view c.loop-at.parts.items) at
    c.loop-at-test.true)
    ∙ c.loop-at.invariant
