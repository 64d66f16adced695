use Rattle.std.proofs.Common.{◌≡◌, ◌++◌, ◌∙◌, take, drop, true, refl, sym, ap, arith}
use Rattle.std.specs.Prelude.{codes}
use Rattle.std.proofs.lemmas.List.{take-append-drop}
use Rattle.std.proofs.lemmas.Slice.Eq.{slice_eq-Decides, starts_is}
use Rattle.std.proofs.lemmas.Bool.Decides.{Decides-eqb}
use Rattle.lsp_frame.specs.Header.{blank_line}
use Rattle.lsp_frame.proofs.PlainHeaders.{digits_pass, plain_starts}
use Rattle.lsp_frame.proofs.start.plain_size.Goals as goal

pub returns : goal.returns
returns c =
    let bytes = c.args.bytes.now in
    let digits = c.split_at.result.0.now in
    let rest = c.split_at.result.1.now in
    let stripped = c.in_ok-rest.ensures.cases in
    let same = slice_eq-Decides Decides-eqb (take 16 bytes) (codes "Content-Length: ") true (sym stripped.0) in
    let whole : bytes ≡ codes "Content-Length: " ++ (digits ++ rest) =
    sym (take-append-drop 16 bytes)
    ∙ ap (λ w. w ++ drop 16 bytes) (same.0 refl)
    ∙ ap (λ w. codes "Content-Length: " ++ w) (sym stripped.1 ∙ c.split_at.ensures.by_index.0)
    in
    let behind = (starts_is Decides-eqb rest blank_line c.starts_with.result c.starts_with.ensures.value).0 c.if-not-starts_with.false in
    plain_starts c.args.limits.now bytes digits rest (drop 4 rest) c.in_ok-content.content c.requires.header_low whole behind (record {
      all = digits_pass _ digits _ c.digits_in_front.ensures.value c.split_at.ensures.front;
      some = grind arith;
      short = omega arith;
      value = sym c.in_ok-content.ensures.0;
      within = omega (arith, c.content.ensures.value, c.in_ok-content.ensures.1);
    })

pub number_up_to-requires-clause-digits : goal.number_up_to-requires-clause-digits
number_up_to-requires-clause-digits c = digits_pass _ c.split_at.result.0.now _ c.digits_in_front.ensures.value c.split_at.ensures.front
