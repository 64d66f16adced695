use Rattle.std.proofs.Common.{◌≡◌, length, take, ap, arith}
use Rattle.std.proofs.lemmas.Iterator.{YieldsList-from_chars}
use Rattle.std.proofs.lemmas.List.{length_push, take_all}
use Rattle.std.proofs.lemmas.Iterator.Consumers.{YieldsList-turn, YieldsList-end}
use Rattle.std.specs.Str.{chars}
use Rattle.lsp_text.specs.Places.{units}
use Rattle.lsp_text.proofs.Differing.InsideCharacter.{at_edge, past_line, one_more, falls_at}
use Rattle.lsp_text.proofs.reading.char_in_line.Goals as goal

pub returns-then-left-eq0 : goal.returns-then-left-eq0
returns-then-left-eq0 c =
    let t = YieldsList-turn (YieldsList-from_chars c.args.line.now c.utf8.line cc) c.loop-c.yielded _ c.loop-c.yielded_by _ _ c.in-Some.c c.in-Some.is c.next.ensures.steps in
    at_edge c.args.encoding (chars c.args.line.now) c.args.column (length c.loop-c.yielded) (omega (arith, t.0)) (omega (arith, c.loop-c.invariant, c.if-left-eq0.true))

pub returns-then-left-width : goal.returns-then-left-width
returns-then-left-width c =
    let t = YieldsList-turn (YieldsList-from_chars c.args.line.now c.utf8.line cc) c.loop-c.yielded _ c.loop-c.yielded_by _ _ c.in-Some.c c.in-Some.is c.next.ensures.steps in
    falls_at c.args.encoding (chars c.args.line.now) c.args.column (length c.loop-c.yielded) c.in-Some.c c.loop-c.left t c.loop-c.invariant (omega arith) (omega arith)

pub loop-c-preserved : goal.loop-c-preserved
loop-c-preserved c =
    let t = YieldsList-turn (YieldsList-from_chars c.args.line.now c.utf8.line cc) c.loop-c.yielded _ c.loop-c.yielded_by _ _ c.in-Some.c c.in-Some.is c.next.ensures.steps in
    rw (length_push c.loop-c.yielded c.in-Some.c) (omega (arith, c.loop-c.invariant, one_more c.args.encoding (chars c.args.line.now) (length c.loop-c.yielded) c.in-Some.c t))

pub returns : goal.returns
returns c =
    let t = YieldsList-end (YieldsList-from_chars c.args.line.now c.utf8.line cc) c.loop-c.yielded _ c.loop-c.yielded_by _ _ c.in-None.is c.next.ensures.steps in
    let cs = chars c.args.line.now in
    let all : take (length c.loop-c.yielded) cs ≡ cs = take_all (length c.loop-c.yielded) cs (omega (arith, t.1)) in
    past_line c.args.encoding cs c.args.column (omega (arith, c.loop-c.invariant, ap (units c.args.encoding) all))
