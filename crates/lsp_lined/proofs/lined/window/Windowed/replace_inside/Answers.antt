use Rattle.std.proofs.Common.{◌≡◌, ◌-◌, refl, ap, arith}
use Rattle.std.specs.List.{replace_range}
use Rattle.lsp_lined.specs.Windows.{text_with}
use Rattle.lsp_lined.specs.declared.sums.Sums.{Sums}
use Rattle.lsp_lined.proofs.Exchanges.{IsExchange}
use Rattle.lsp_lined.proofs.PartEdits.{replaced_true}
use Rattle.lsp_lined.proofs.WindowEdits.{IsInside, window_with, inside, inside_sums}
use Rattle.lsp_lined.proofs.lined.window.Windowed.replace_inside.Goals as goal
use Rattle.lsp_lined.proofs.lined.window.Windowed.replace_inside.Goals.{After-sums}

is_inside : (c : After-sums) → IsInside c.args.self.now c.args.from c.args.to c.args.text.now
is_inside c =
    record {
      can = c.requires;
      utf8 = c.utf8.text;
      first = c.if-from-start.false;
      last =
          omega (
            arith,
            c.if-to-start.false,
            ap (λ (s : Sums). s.bytes) c.sums-old.ensures.sums,
          );
    }

made : (c : After-sums)
    → c.replace.new.self ≡ window_with c.args.self.now c.args.from c.args.to c.args.text.now
made c =
    let w = c.args.self.now in
    replaced_true w.window (c.args.from - w.before.bytes) (c.args.to - w.before.bytes)
    c.args.text.now c.replace.new.self c.in_ok-replace.field-0 c.if-not-branch.false
    c.in_ok-replace.ensures.ok

exchange : (c : After-sums) → IsExchange c.args.self.now.sums c.sums-old.result c.sums.result
    (replace_range (text_with c.args.self.now) c.args.from c.args.to c.args.text.now)
exchange c =
    inside_sums c.args.self.now c.args.from c.args.to c.args.text.now c.replace.new.self
    c.sums-old.result c.sums.result (is_inside c) c.sums-old.ensures.sums (made c)
    c.sums.ensures.sums

pub exchanged-self-requires-clause-ends : goal.exchanged-self-requires-clause-ends
exchanged-self-requires-clause-ends c = (exchange c).ends

pub exchanged-self-requires-clause-chars : goal.exchanged-self-requires-clause-chars
exchanged-self-requires-clause-chars c = (exchange c).chars

pub exchanged-self-requires-clause-utf16 : goal.exchanged-self-requires-clause-utf16
exchanged-self-requires-clause-utf16 c = (exchange c).utf16

pub exchanged-self-requires-clause-most : goal.exchanged-self-requires-clause-most
exchanged-self-requires-clause-most c = (exchange c).most

pub returns-clause-ok : goal.returns-clause-ok
returns-clause-ok c =
    let at = (goal.at.returns-clause-ok c).After-sums in
    inside c.args.self.now _ c.args.from c.args.to c.args.text.now c.sums-old.result
    c.sums.result (is_inside at) refl refl refl (made at) c.sums-old.ensures.sums
    c.sums.ensures.sums c.exchanged-self.ensures c.min-self.ensures c.min-self-2.ensures
