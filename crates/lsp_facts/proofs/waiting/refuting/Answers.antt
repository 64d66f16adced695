use Rattle.std.proofs.Common.{List, ℕ, Some, None, ap, refl, ◌∙◌, w32, rules}
use Rattle.std.proofs.lemmas.Int.{to_z-of_z}
use mir.Val.{SFits}
use Rattle.lsp_replay.specs.Common.{call_view, uri_of, versioned}
use Rattle.lsp_facts.specs.Refuting.{waiting_texts}
use Rattle.lsp_facts.specs.TwoTexts.{lent_text}
use Rattle.lsp_facts.proofs.OtherTexts.{compared_brought, others_as, refuting_brought}
use Rattle.lsp_facts.proofs.TextsDiffer.{texts_differ}
use Rattle.lsp_facts.proofs.waiting.refuting.Goals as goal

pub returns-in_default : goal.returns-in_default
returns-in_default g c = λ calls h e tries.
    refuting_brought c.args.docs.now.terms calls (call_view c.args.call) None c.args.snapshots.now
    c.new.result.items (c.in_default.ensures calls 702 h e refl tries) c.new.ensures.items

pub returns : goal.returns
returns g c = λ calls h e tries.
    let version = c.in-Some.brought.version in
    let fits : SFits w32 version = search rules in
    let waits = simp to_z-of_z at c.waiting_texts-texts.ensures in
    let terms = c.args.docs.now.terms in
    let call = call_view c.args.call in
    let text = lent_text g.S.TextStore.content c.in-Some.brought.text in
    let brings = c.in-Some.ensures calls 702 h e refl tries in
    let differ = texts_differ terms calls call 702 refl e in
    let others = c.in_ok-others.others.items in
    refuting_brought terms calls call (Some (versioned version text)) c.args.snapshots.now others
    brings
    (others_as c.line_ends.result terms.line_ends _
    (waiting_texts terms calls (uri_of call) version) text c.args.snapshots.now others differ.0
    c.line_ends.ensures
    (waits calls h ∙ ap (λ (u : List ℕ). waiting_texts terms calls u version) c.uri.ensures)
    c.in_ok-others.ensures
    (compared_brought terms calls call (versioned version text) brings ∙ differ.1))
