use Rattle.std.proofs.Common.{◌≡◌, ◌==◌, get_or, false, sym, ap, ◌∙◌}
use Rattle.std.proofs.lemmas.Option.{IfSome_then}
use Rattle.fast_float.specs.Text.{scan}
use Rattle.serde_json.specs.Read.{number_of, number_from}
use Rattle.lsp_walk.proofs.numbers.natural_of.Goals as goal

pub returns : goal.returns
unfolding number_of
returns c =
    let s = c.args.digits.now in
    let unsigned : (get_or s 0 0 == 45) ≡ false = sym c.if-has_minus.ensures.value in
    let read : number_from false (scan s) ≡ number_of s = rw unsigned in
    let text = sym read ∙ ap (number_from false) (sym c.scan.ensures.parts) in
    IfSome_then c.natural.result c.natural.ensures (λ n h. text ∙ h)
