use Rattle.std.proofs.Common.{◌≡◌, ◌∷◌, [], ◌++◌, ◌∙◌, ap, codes, decimal, arith, string_bytes}
use Rattle.std.proofs.lemmas.Grind.{common_steps}
use Rattle.lsp_verdict.specs.Report.{line, who_name}
use Rattle.lsp_verdict.specs.Texts.{text_of}
use Rattle.lsp_verdict.proofs.offence.offence_report.Goals as goal

pub returns : goal.returns
returns c =
    let o = c.args.offence.now in
    let event = decimal o.event ++ c.follow_end-end.result.now in
    let written : string_bytes c.in_ok-report.report
    ≡ line (codes "no" ∷ decimal o.rule ∷ who_name o.who ∷ decimal o.number ∷ codes "event" ∷ event ∷ [])
    ++ line (text_of o.rule ∷ []) = grind (arith, common_steps) in
    written ∙ ap (λ l. codes "no" ++ 32 ∷ (decimal o.rule ++ 32 ∷ (who_name o.who ++ 32 ∷ (decimal o.number
    ++ 32 ∷ (codes "event" ++ 32 ∷ l)))) ++ line (text_of o.rule ∷ []))
    (c.follow_end-end.ensures (decimal o.event))
