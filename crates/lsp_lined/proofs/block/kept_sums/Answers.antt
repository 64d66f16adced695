use Rattle.std.proofs.Common.{◌≡◌, false, take, drop, refl, sym, ap, ◌∙◌, arith}
use Rattle.std.specs.List.{replace_range}
use Rattle.lsp_lined.specs.Ends.{ends_in, ends_with_return}
use Rattle.lsp_lined.specs.Sums.{sums_of}
use Rattle.lsp_lined.proofs.BlockPlaces.{keeps_ends}
use Rattle.lsp_lined.proofs.Exchanges.{IsExchange, kept_sums, replaced_len}
use Rattle.lsp_lined.proofs.block.kept_sums.Goals as goal
use Rattle.lsp_lined.proofs.block.kept_sums.Goals.{After-sums-sums, After-of-2}

front : (c : After-sums-sums) → c.split_at-2.result.0.now ≡ take c.args.from (take c.args.to c.args.block.now)
front c = c.split_at-2.ensures.front ∙ ap (take c.args.from) (c.split_at.ensures.front ∙ ap (take c.args.to) c.as_str.ensures)

removed : (c : After-sums-sums) → c.split_at-2.result.1.now ≡ drop c.args.from (take c.args.to c.args.block.now)
removed c = c.split_at-2.ensures.back ∙ ap (drop c.args.from) (c.split_at.ensures.front ∙ ap (take c.args.to) c.as_str.ensures)

no_return : (c : After-sums-sums) → ends_with_return false (take c.args.from (take c.args.to c.args.block.now)) ≡ false
no_return c = ap (ends_with_return false) (sym (front c)) ∙ sym c.is_return_last.ensures ∙ c.if-is_return_last.false

none : (c : After-sums-sums) → ends_in (drop c.args.from (take c.args.to c.args.block.now)) ≡ 0
none c = ap ends_in (sym (removed c)) ∙ c.if-not-is_whole.ensures.0 refl

exchange : (c : After-of-2) → c.split_at-2.result.1.now ≡ drop c.args.from (take c.args.to c.args.block.now) → ends_with_return false (take c.args.from (take c.args.to c.args.block.now)) ≡ false →
    ends_in (drop c.args.from (take c.args.to c.args.block.now)) ≡ 0 → IsExchange c.sums-sums.result c.of.result c.of-2.result (replace_range c.args.block.now c.args.from c.args.to c.args.text.now)
exchange c cut no_return none =
    let can = c.requires.can in
    kept_sums c.args.block.now c.args.text.now c.args.from c.args.to c.sums-sums.ensures.utf8
    c.utf8.text can.order can.first can.second no_return none
    (c.if-not-is_whole-2.ensures.0 refl) c.sums-sums.result c.of.result c.of-2.result
    c.sums-sums.ensures.sums (c.of.ensures ∙ ap sums_of cut) c.of-2.ensures

pub of-requires : goal.of-requires
of-requires c = sym (c.if-not-is_whole.ensures.0 refl)

pub of-requires-2 : goal.of-requires-2
of-requires-2 c = sym (c.if-not-is_whole-2.ensures.0 refl)

pub exchanged-requires : goal.exchanged-requires
exchanged-requires c =
    let at = goal.at.exchanged-requires c in
    let cut = at.After-sums-sums in
    let x = exchange at.After-of-2 (removed cut) (no_return cut) (none cut) in
    record {
      ends = x.ends;
      bytes = x.bytes;
      chars = x.chars;
      utf16 = x.utf16;
      most = x.most;
      fits = omega (arith, x.len, replaced_len c.args.block.now c.args.text.now c.args.from c.args.to c.requires.can.order c.requires.can.second.0, c.requires.room);
    }

pub returns : goal.returns
returns c =
    let at = goal.at.returns c in
    let cut = at.After-sums-sums in
    let x = exchange at.After-of-2 (removed cut) (no_return cut) (none cut) in
    let can = c.requires.can in
    keeps_ends c.args.block.now c.args.text.now c.args.from c.args.to c.exchanged.result
    c.sums-sums.ensures.utf8 c.utf8.text can.order can.first can.second (no_return cut) (none cut)
    (c.if-not-is_whole-2.ensures.0 refl) c.requires.room (c.exchanged.ensures ∙ x.is)
