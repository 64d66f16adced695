use Rattle.std.proofs.Common.{◌≡◌, ◌+◌, ◌-◌, ◌<◌, ◌++◌, length, take, drop, get_or, Some, sym, ℕ}
use Rattle.std.proofs.Common.{string_bytes, subst, lt_of_not-le, arith}
use Rattle.std.proofs.lemmas.List.{get_or_past}
use Rattle.std.proofs.lemmas.Str.{IsUtf8-drop}
use Rattle.std.specs.Char.{encode_utf8}
use Rattle.json.specs.Lex.{lex, in_string, in_escape}
use Rattle.json.specs.Run.{Escape}
use Rattle.json.specs.Text.{after_backslash}
use Rattle.lsp_walk.specs.Texts.{IsPart}
use Rattle.lsp_walk.specs.Walk.{IsText}
use Rattle.lsp_walk.proofs.Strings.{closed}
use Rattle.lsp_walk.proofs.Parts.{part_on, run_part, escape_part, whole_text}
use Rattle.lsp_walk.proofs.texts.unescaped.Goals as goal

pub runs-init : goal.runs-init
runs-init c =
    let d = c.args.text.now in
    let a = c.args in
    let bytes = c.as_bytes-bytes.ensures.value in
    let text = take (a.stop - a.from) (drop a.from d) in
    let first : c.extend_from_slice.new.self.items ≡ text = grind arith in
    subst (IsPart d a.from a.stop) (sym first)
    (run_part d a.from a.stop (omega arith) c.requires.front)

pub from_utf8_unchecked-requires : goal.from_utf8_unchecked-requires
from_utf8_unchecked-requires c =
    let d = c.args.text.now in
    let l = c.runs in
    let bytes = c.as_bytes-bytes.ensures.value in
    let mark : get_or d l.at 0 ≡ 34 = rw (← bytes) (grind arith) in
    whole_text d c.args.from l.at l.copy.items l.invariant
    (IsUtf8-drop d c.args.from c.utf8.text c.requires.boundary) mark

pub returns-then-mark-eq34 : goal.returns-then-mark-eq34
returns-then-mark-eq34 c =
    let d = c.args.text.now in
    let l = c.runs in
    let bytes = c.as_bytes-bytes.ensures.value in
    let mark : get_or d l.at 0 ≡ 34 = rw (← bytes) (grind arith) in
    let copied : string_bytes c.from_utf8_unchecked.result ≡ l.copy.items = grind arith in
    subst (IsText d c.args.from (l.at + 1)) (sym copied)
    (closed d c.args.from l.at l.copy.items l.invariant.run mark)

pub runs-preserved : goal.runs-preserved
runs-preserved c =
    let d = c.args.text.now in
    let l = c.runs in
    let bytes = c.as_bytes-bytes.ensures.value in
    let mark : get_or d l.at 0 ≡ 92 = rw (← bytes) (grind arith) in
    let read = c.in_ok-c in
    let wrote : Escape d after_backslash (l.at + 1) (Some (read.c, read.next)) =
    rw (← bytes) read.ensures.value in
    let passed : lex in_escape (drop (l.at + 1) d) ≡ lex in_string (drop read.next d) =
    rw (← bytes) read.ensures.passed in
    let within : l.at < length d =
    lt_of_not-le (λ past. omega (arith, mark, get_or_past d l.at 0 past)) in
    let pushed : c.push_char.new.copy.items ≡ l.copy.items ++ encode_utf8 read.c = grind arith in
    let before : IsPart d c.args.from read.next c.push_char.new.copy.items =
    subst (IsPart d c.args.from read.next) (sym pushed)
    (part_on d c.args.from l.at read.next l.copy.items (encode_utf8 read.c) l.invariant
    (escape_part d l.at read.c read.next within mark wrote passed c.push_char.ensures.utf8)) in
    let part : (start : ℕ) → IsPart d start read.next c.push_char.new.copy.items
    → IsPart d start c.in_ok-at.at c.copy_part.new.copy.items =
    rw (← bytes) c.in_ok-at.ensures.part in
    part c.args.from before

pub runs-smaller : goal.runs-smaller
runs-smaller c =
    let bytes = c.as_bytes-bytes.ensures.value in
    let long = c.as_bytes-bytes.ensures.len in
    let read = c.in_ok-c in
    omega (arith, read.ensures.value.1, c.in_ok-at.ensures.bounds, long)
