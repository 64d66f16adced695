use Rattle.std.proofs.Common.{ap, sym, ◌∙◌, drop, length}
use Rattle.std.specs.Prelude.{chars}
use Rattle.std.specs.Str.Iter.{chars_rest}
use Rattle.std.proofs.lemmas.Iterator.{YieldsList-from_chars}
use Rattle.std.proofs.lemmas.Iterator.Consumers.{YieldsList-end, YieldsList-turn}
use Rattle.std.proofs.lemmas.List.{length_push}
use Rattle.lsp_redact.specs.Characters.{first_other}
use Rattle.lsp_redact.proofs.ApartTexts.{all_same, differs_here, ends_here, none_came, rest_utf8}
use Rattle.lsp_redact.proofs.ApartTexts.{same_here, this_came}
use Rattle.lsp_redact.proofs.apart.first_other.Goals as goal

pub returns-in_default : goal.returns-in_default
returns-in_default c =
    let t = YieldsList-turn (YieldsList-from_chars c.args.other.now c.utf8.other cc)
    c.loop-character.yielded _ c.loop-character.yielded_by _ _ c.in-Some.character c.in-Some.is
    c.next.ensures.steps in
    let step = none_came c.loop-character.characters c.next-in-loop-character.new.self c.next-in-loop-character.result
    c.in_default.not-Some c.next-in-loop-character.ensures.steps in
    sym (c.loop-character.invariant.same
    ∙ ends_here (chars c.args.other.now) c.loop-character.characters c.next-in-loop-character.new.self
    (length c.loop-character.yielded) c.in-Some.character step t)

pub returns-then-own-character : goal.returns-then-own-character
returns-then-own-character c =
    let t = YieldsList-turn (YieldsList-from_chars c.args.other.now c.utf8.other cc)
    c.loop-character.yielded _ c.loop-character.yielded_by _ _ c.in-Some.character c.in-Some.is
    c.next.ensures.steps in
    let step = this_came c.loop-character.characters c.next-in-loop-character.new.self c.next-in-loop-character.result
    c.in-Some-next.own c.in-Some-next.is c.next-in-loop-character.ensures.steps in
    sym (c.loop-character.invariant.same
    ∙ differs_here (chars c.args.other.now) c.loop-character.characters c.next-in-loop-character.new.self
    (length c.loop-character.yielded) c.in-Some.character c.in-Some-next.own
    c.loop-character.invariant.utf8 step t c.if-own-character.true)

pub loop-character-preserved : goal.loop-character-preserved
loop-character-preserved c =
    let t = YieldsList-turn (YieldsList-from_chars c.args.other.now c.utf8.other cc)
    c.loop-character.yielded _ c.loop-character.yielded_by _ _ c.in-Some.character c.in-Some.is
    c.next.ensures.steps in
    let step = this_came c.loop-character.characters c.next-in-loop-character.new.self c.next-in-loop-character.result
    c.in-Some-next.own c.in-Some-next.is c.next-in-loop-character.ensures.steps in
    let more = length_push c.loop-character.yielded c.in-Some.character in
    record {
      same = c.loop-character.invariant.same
          ∙ same_here (chars c.args.other.now) c.loop-character.characters c.next-in-loop-character.new.self
          (length c.loop-character.yielded) c.in-Some.character c.in-Some-next.own
          c.loop-character.invariant.utf8 step t c.if-own-character.false
          ∙ ap (λ n. first_other (chars (chars_rest c.next-in-loop-character.new.self))
          (drop n (chars c.args.other.now))) (sym more);
      utf8 = rest_utf8 c.loop-character.characters c.next-in-loop-character.new.self c.in-Some-next.own
          c.loop-character.invariant.utf8 step;
    }

pub returns : goal.returns
returns c =
    let t = YieldsList-end (YieldsList-from_chars c.args.other.now c.utf8.other cc)
    c.loop-character.yielded _ c.loop-character.yielded_by _ _ c.in-None.is c.next.ensures.steps in
    sym (c.loop-character.invariant.same
    ∙ all_same (chars (chars_rest c.loop-character.characters)) (chars c.args.other.now)
    (length c.loop-character.yielded) t.1)
