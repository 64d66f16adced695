use Rattle.std.proofs.Common.{◌≡◌, ◌==◌, drop, get_or, true, sym, ap, ◌∙◌, arith, take_all}
use Rattle.std.proofs.Common.{length-drop}
use Rattle.std.proofs.lemmas.Option.{IfSome_then}
use Rattle.fast_float.specs.Text.{scan}
use Rattle.serde_json.specs.Read.{number_of, number_from}
use Rattle.lsp_outline.proofs.Negatives.{after_sign}
use Rattle.lsp_outline.proofs.negative_numbers.negative_of.Goals as goal

pub returns : goal.returns
returns c =
    let s = c.args.digits.now in
    let signed : (get_or s 0 0 == 45) ≡ true = sym c.if-not-has_minus.ensures.value in
    let parts : c.scan.result ≡ scan (drop 1 s) =
    c.scan.ensures.parts ∙ ap scan (take_all _ (drop 1 s) (omega (arith, length-drop 1 s))) in
    let text : number_from true c.scan.result ≡ number_of s =
    ap (number_from true) parts ∙ after_sign s signed in
    IfSome_then c.below_zero.result c.below_zero.ensures
    (λ z h. (h.0, sym text ∙ h.1, h.2))
