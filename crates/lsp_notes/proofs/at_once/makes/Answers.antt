use Rattle.std.specs.Prelude.{option_map, string_bytes}
use Rattle.std.specs.Str.{bytes_eq, chars}
use Rattle.std.proofs.Common.{◌∙◌, None, Some, ap, refl, sym}
use Rattle.lsp_docs.proofs.Others.{same_where}
use Rattle.lsp_text.specs.Changes.{edits_of}
use Rattle.lsp_types.specs.declared.line_ends.LineEnds.TheVariants.{Exact}
use Rattle.lsp_notes.specs.AtOnce.{is_text, made_from, splices_view}
use Rattle.lsp_notes.proofs.AtOnceSteps.{makes_none, makes_so}
use Rattle.lsp_notes.proofs.at_once.makes.Goals as goal

-- an edit has no places in the text
pub returns-in_default : goal.returns-in_default
returns-in_default c =
    makes_none c.args.encoding c.args.now.now.content c.args.text.now.content
    (edits_of c.args.edits.now)
    (sym (ap (option_map (λ ss. splices_view ss.items)) c.in_default.is) ∙ c.in_ok-splices.ensures)

-- a text of another length
pub returns-then-is_other : goal.returns-then-is_other
returns-then-is_other c =
    let now = c.args.now.now.content in
    let t = c.args.text.now.content in
    let ss = splices_view c.in-Some.splices.items in
    let are = sym (ap (option_map (λ ss. splices_view ss.items)) c.in-Some.is)
    ∙ c.in_ok-splices.ensures in
    sym (ap (λ l. is_text now (made_from 0 t (splices_view l))) (sym c.as_slice.ensures.value)
    ∙ c.in_ok-is_other.ensures c.if-is_other.true)
    ∙ makes_so c.args.encoding now t (edits_of c.args.edits.now) ss (made_from 0 t ss) are refl

-- they make a text
pub returns-in-Some-2 : goal.returns-in-Some-2
returns-in-Some-2 c =
    let now = c.args.now.now.content in
    let edits = edits_of c.args.edits.now in
    let are = sym (ap (option_map (λ ss. splices_view ss.items)) c.in-Some.is)
    ∙ c.in_ok-splices.ensures in
    let text = ap chars c.as_str.ensures.value ∙ c.in_ok-whole.ensures in
    let made = c.in_ok-made.ensures
    ∙ (λ i. made_from 0 (text i) (splices_view (c.as_slice-2.ensures.value i))) in
    let own = sym (ap (option_map (λ w. chars (string_bytes w))) c.in-Some-2.is) in
    same_where Exact now (chars c.as_str-in-Some-2.result.now) c.equals.result c.equals.ensures
    ∙ ap (λ w. bytes_eq now (chars w)) c.as_str-in-Some-2.ensures.value
    ∙ makes_so c.args.encoding now c.args.text.now.content edits
    (splices_view c.in-Some.splices.items) (Some (chars (string_bytes c.in-Some-2.made))) are
    (own ∙ made)

-- one reaches into the one before it, or ends before it begins
pub returns : goal.returns
returns c =
    let now = c.args.now.now.content in
    let edits = edits_of c.args.edits.now in
    let are = sym (ap (option_map (λ ss. splices_view ss.items)) c.in-Some.is)
    ∙ c.in_ok-splices.ensures in
    let text = ap chars c.as_str.ensures.value ∙ c.in_ok-whole.ensures in
    let made = c.in_ok-made.ensures
    ∙ (λ i. made_from 0 (text i) (splices_view (c.as_slice-2.ensures.value i))) in
    let none = sym (ap (option_map (λ w. chars (string_bytes w))) c.in-None.is) in
    makes_so c.args.encoding now c.args.text.now.content edits
    (splices_view c.in-Some.splices.items) None are (none ∙ made)
