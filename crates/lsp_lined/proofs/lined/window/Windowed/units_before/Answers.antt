use Rattle.std.proofs.Common.{◌≡◌, ◌+◌, ◌-◌, take, refl, sym, ap, arith}
use Rattle.std.specs.Str.{chars}
use Rattle.lsp_text.specs.Places.{units}
use Rattle.lsp_lined.specs.Windows.{text_with}
use Rattle.lsp_lined.specs.declared.sums.Sums.{Sums}
use Rattle.lsp_lined.proofs.WindowPlaces.{measured, units_most, units_in_window, place_after}
use Rattle.lsp_lined.proofs.lined.window.Windowed.units_before.Goals as goal

pub returns-then-place-len : goal.returns-then-place-len
returns-then-place-len c =
    let w = c.args.self.now in
    let bytes = ap (λ (s : Sums). s.bytes) c.sums-sums.ensures.sums in
    let found : units c.args.encoding (chars (take c.args.place (text_with w)))
    ≡ c.by.result + c.units_before-then-place-len.result =
    omega (
      arith,
      c.by.ensures,
      c.units_before-then-place-len.ensures,
      units_in_window w c.args.encoding c.args.place
          (record { held = c.requires.held; boundary = c.requires.boundary })
          c.if-place-start.false (omega (arith, c.if-place-len.true, bytes)),
    ) in
    sym found

pub overflow_add-result : goal.overflow_add-result
overflow_add-result c =
    let w = c.args.self.now in
    let bytes = ap (λ (s : Sums). s.bytes) c.sums-sums.ensures.sums in
    let at = units_most w c.args.encoding c.args.place
    (record { held = c.requires.held; boundary = c.requires.boundary }) in
    record {
      fits = omega (
        arith,
        c.by.ensures,
        c.units_before-then-place-len.ensures,
        units_in_window w c.args.encoding c.args.place
            (record { held = c.requires.held; boundary = c.requires.boundary })
            c.if-place-start.false (omega (arith, c.if-place-len.true, bytes)),
        at,
      );
    }

pub units_before-whole-requires : goal.units_before-whole-requires
units_before-whole-requires c =
    (place_after c.args.self.now c.sums-sums.result c.args.place _
    (record { held = c.requires.held; boundary = c.requires.boundary }) c.sums-sums.ensures.sums
    c.if-place-start.false c.if-place-len.false refl).boundary

pub overflow_sub-result : goal.overflow_sub-result
overflow_sub-result c =
    let k = place_after c.args.self.now c.sums-sums.result c.args.place
    (c.args.place - c.args.self.now.before.bytes - c.sums-sums.result.bytes
    + c.args.self.now.skipped.bytes)
    (record { held = c.requires.held; boundary = c.requires.boundary }) c.sums-sums.ensures.sums
    c.if-place-start.false c.if-place-len.false refl in
    omega (arith, k.skipped c.args.encoding, c.units_before-whole.ensures, c.by-2.ensures)

pub overflow_add-result-2 : goal.overflow_add-result-2
overflow_add-result-2 c =
    let k = measured c.args.self.now c.args.encoding c.sums-sums.result c.requires.held
    c.sums-sums.ensures.sums in
    record {
      fits = omega (arith, k.before, k.window, k.text, k.fits, c.by-3.ensures, c.by-4.ensures);
    }

pub overflow_add-result-3 : goal.overflow_add-result-3
overflow_add-result-3 c =
    let k = place_after c.args.self.now c.sums-sums.result c.args.place
    (c.args.place - c.args.self.now.before.bytes - c.sums-sums.result.bytes
    + c.args.self.now.skipped.bytes)
    (record { held = c.requires.held; boundary = c.requires.boundary }) c.sums-sums.ensures.sums
    c.if-place-start.false c.if-place-len.false refl in
    let most = units_most c.args.self.now c.args.encoding c.args.place
    (record { held = c.requires.held; boundary = c.requires.boundary }) in
    record {
      fits = omega (
        arith,
        k.skipped c.args.encoding,
        k.counted c.args.encoding,
        c.units_before-whole.ensures,
        c.by-2.ensures,
        c.by-3.ensures,
        c.by-4.ensures,
        most,
      );
    }

pub returns : goal.returns
returns c =
    let k = place_after c.args.self.now c.sums-sums.result c.args.place
    (c.args.place - c.args.self.now.before.bytes - c.sums-sums.result.bytes
    + c.args.self.now.skipped.bytes)
    (record { held = c.requires.held; boundary = c.requires.boundary }) c.sums-sums.ensures.sums
    c.if-place-start.false c.if-place-len.false refl in
    let found : units c.args.encoding (chars (take c.args.place (text_with c.args.self.now)))
    ≡ c.units_before-whole.result - c.by-2.result + (c.by-3.result + c.by-4.result) =
    omega (
      arith,
      k.skipped c.args.encoding,
      k.counted c.args.encoding,
      c.units_before-whole.ensures,
      c.by-2.ensures,
      c.by-3.ensures,
      c.by-4.ensures,
    ) in
    sym found
