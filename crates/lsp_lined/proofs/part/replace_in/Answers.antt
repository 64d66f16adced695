use Rattle.std.proofs.Common.{◌∙◌, ap, length, arith}
use Rattle.lsp_lined.proofs.StepCounts.{on_err}
use Rattle.lsp_lined.proofs.PartEdits.{edit_in, can_edit, edit_fits, none_edited, replaced_true, replaced_false, exchange_in, edited_text, replaced_in}
use Rattle.lsp_lined.proofs.part.replace_in.Goals as goal

pub replace-requires-clause-can : goal.replace-requires-clause-can
replace-requires-clause-can g c =
    let f = g.T.Part.text in
    let xs = c.args.parts.now.items in
    let s = c.in-Some.spot in
    let h = edit_in f xs c.deref.result.now c.args.from c.args.to s c.args.inserted.now c.deref.ensures.value c.requires.parts c.utf8.inserted c.in-Some.ensures c.requires.can in
    can_edit f xs c.args.from c.args.to s c.args.inserted.now c.index_mut.result.now h c.index_mut.ensures.value

pub replace-requires-clause-fits : goal.replace-requires-clause-fits
replace-requires-clause-fits g c =
    let f = g.T.Part.text in
    let xs = c.args.parts.now.items in
    let s = c.in-Some.spot in
    let h = edit_in f xs c.deref.result.now c.args.from c.args.to s c.args.inserted.now c.deref.ensures.value c.requires.parts c.utf8.inserted c.in-Some.ensures c.requires.can in
    edit_fits f xs c.args.from c.args.to s c.args.inserted.now c.index_mut.result.now h c.index_mut.ensures.value c.requires.new_fits

pub returns-in_err-replace-clause-err : goal.returns-in_err-replace-clause-err
returns-in_err-replace-clause-err g c =
    on_err c.from_residual.result
    (none_edited g.T.Part.text c.args.parts.now.items c.in-Some.spot.index c.index_mut.result.now c.replace.new.self c.index_mut.ensures.value c.in_err-replace.ensures.err)

pub returns-then-not-branch-clause-ok : goal.returns-then-not-branch-clause-ok
returns-then-not-branch-clause-ok g c =
    let f = g.T.Part.text in
    let s = c.in-Some.spot in
    none_edited f c.args.parts.now.items s.index c.index_mut.result.now c.replace.new.self c.index_mut.ensures.value
    (replaced_false (f c.index_mut.result.now) s.from s.to c.args.inserted.now (f c.replace.new.self) c.in_ok-replace.field-0 c.if-not-branch.true c.in_ok-replace.ensures.ok)

pub exchanged-requires : goal.exchanged-requires
exchanged-requires g c =
    let f = g.T.Part.text in
    let xs = c.args.parts.now.items in
    let s = c.in-Some.spot in
    let h = edit_in f xs c.deref.result.now c.args.from c.args.to s c.args.inserted.now c.deref.ensures.value c.requires.parts c.utf8.inserted c.in-Some.ensures c.requires.can in
    let made = replaced_true (f c.index_mut.result.now) s.from s.to c.args.inserted.now (f c.replace.new.self) c.in_ok-replace.field-0 c.if-not-branch.false c.in_ok-replace.ensures.ok in
    let x =
    exchange_in f xs c.args.from c.args.to s c.args.inserted.now c.index_mut.result.now c.replace.new.self c.index.result.now c.index-2.result.now c.args.sums c.sums-old.result c.sums-new.result h
    c.index_mut.ensures.value made c.index.ensures c.index-2.ensures c.requires.sums_are c.sums-old.ensures.sums c.sums-new.ensures.sums in
    let text = edited_text f xs c.args.from c.args.to s c.args.inserted.now c.index_mut.result.now c.replace.new.self h c.index_mut.ensures.value made in
    record { ends = x.ends; bytes = x.bytes; chars = x.chars; utf16 = x.utf16; most = x.most; fits = omega (arith, x.len, ap length text, c.requires.new_fits) }

pub returns-clause-ok : goal.returns-clause-ok
returns-clause-ok g c =
    let f = g.T.Part.text in
    let xs = c.args.parts.now.items in
    let s = c.in-Some.spot in
    let h = edit_in f xs c.deref.result.now c.args.from c.args.to s c.args.inserted.now c.deref.ensures.value c.requires.parts c.utf8.inserted c.in-Some.ensures c.requires.can in
    let made = replaced_true (f c.index_mut.result.now) s.from s.to c.args.inserted.now (f c.replace.new.self) c.in_ok-replace.field-0 c.if-not-branch.false c.in_ok-replace.ensures.ok in
    let x =
    exchange_in f xs c.args.from c.args.to s c.args.inserted.now c.index_mut.result.now c.replace.new.self c.index.result.now c.index-2.result.now c.args.sums c.sums-old.result c.sums-new.result h
    c.index_mut.ensures.value made c.index.ensures c.index-2.ensures c.requires.sums_are c.sums-old.ensures.sums c.sums-new.ensures.sums in
    replaced_in f xs c.args.from c.args.to s c.args.inserted.now c.index_mut.result.now c.replace.new.self c.exchanged.result h c.index_mut.ensures.value made (c.exchanged.ensures ∙ x.is)
