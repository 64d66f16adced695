use Rattle.std.proofs.Common.{◌≡◌, ◌<◌, ℕ, true, List, [], ◌∷◌, length, drop, Some, None, sym, ap, ◌∙◌, arith, length-drop}
use Rattle.std.specs.List.{slice_get}
use Rattle.std.specs.Option.{option_map}
use Rattle.std.specs.Str.{chars}
use Rattle.lsp_text.specs.Lines.{Line, open_line, lines_of, has_no_line_end}
use Rattle.lsp_text.specs.Offsets.{IsAtLine}
use Rattle.lsp_text.proofs.Cuts.{lines_of-no_end}
use Rattle.lsp_text.proofs.Positions.{at_first_line, at_next_line, line_at_last, line_at_first, IsLineAt, slice_get-drop, slice_get-past}
use Rattle.lsp_text.proofs.reading.line_at.Goals as goal

-- behind the last line
no_more : (bs : List ℕ) (number i start : ℕ) (rest : List ℕ) → IsAtLine bs i start rest → has_no_line_end (chars rest) ≡ true → i < number → slice_get (lines_of (chars bs)) number ≡ None
no_more bs number i start rest h whole lt =
    let ls = lines_of (chars bs) in
    let is : drop i ls ≡ open_line (chars rest) ∷ [] = h.lines ∙ lines_of-no_end (chars rest) whole in
    slice_get-past ls number (omega (arith, length-drop i ls, ap length is))

-- the line at which a walk stands
stands_at : (bs : List ℕ) (number i start : ℕ) (line : List ℕ) → IsLineAt bs i start line → i ≡ number → option_map (λ (l : Line). l.text) (slice_get (lines_of (chars bs)) number) ≡ Some (chars line)
stands_at bs number i start line h e =
    ap (option_map (λ (l : Line). l.text)) (slice_get-drop (lines_of (chars bs)) number (record { text = chars line; end = h.end }) h.more (ap (λ x. drop x (lines_of (chars bs))) (sym e) ∙ h.is))

pub loop-i-init : goal.loop-i-init
loop-i-init c = (0, at_first_line c.args.text.now c.utf8.text)

pub returns-in_default : goal.returns-in_default
returns-in_default c =
    let at = c.loop-i.invariant in
    sym (ap (option_map (λ (l : Line). l.text)) (no_more c.args.text.now c.args.number c.loop-i.i at.0 c.loop-i.rest.now at.1 c.in_default.ensures c.loop-i-test.true))

pub loop-i-preserved : goal.loop-i-preserved
loop-i-preserved c =
    let at = c.loop-i.invariant in
    (_, at_next_line c.args.text.now c.loop-i.i at.0 c.loop-i.rest.now c.in-Some.line c.utf8.text at.1 c.in-Some.ensures)

pub returns-in-None : goal.returns-in-None
returns-in-None c =
    let at = c.loop-i.invariant in
    sym (stands_at c.args.text.now c.args.number c.loop-i.i at.0 c.loop-i.rest.now (line_at_last c.args.text.now c.loop-i.i at.0 c.loop-i.rest.now at.1 c.in-None.ensures) (omega arith))

pub returns-in-Some-of : goal.returns-in-Some-of
returns-in-Some-of c =
    let at = c.loop-i.invariant in
    sym (stands_at c.args.text.now c.args.number c.loop-i.i at.0 c.in-Some-of.line.text.now (line_at_first c.args.text.now c.loop-i.i at.0 c.loop-i.rest.now c.in-Some-of.line at.1 c.in-Some-of.ensures) (omega arith))
