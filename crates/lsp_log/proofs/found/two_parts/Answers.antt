use Rattle.std.proofs.Common.{◌∷◌, []}
use Rattle.std.proofs.lemmas.Result.{err_from_is_err_and}
use Rattle.lsp_log.specs.Log.{shown_head}
use Rattle.lsp_log.specs.Stops.{PartsBreak}
use Rattle.lsp_log.proofs.Parts.{part_stops, second_stops, two_taken}
use Rattle.lsp_log.proofs.found.two_parts.Goals as goal

pub returns-in_err-front-clause-answer : goal.returns-in_err-front-clause-answer
returns-in_err-front-clause-answer g c =
    let p = err_from_is_err_and c.from_residual.result c.from_residual.ensures.1 in
    rw (p.1, p.2) (λ v. part_stops _ _ _ _ (PartsBreak (shown_head v c.args.first c.args.second)) c.args.first (c.args.second ∷ []) (λ _ h. h) (λ _ h. h) _ c.in_err-front.ensures.answer)

pub returns-in_err-back-clause-answer : goal.returns-in_err-back-clause-answer
returns-in_err-back-clause-answer g c =
    let p = err_from_is_err_and c.from_residual-in_err-back.result c.from_residual-in_err-back.ensures.1 in
    let front = c.in_ok-front.ensures.answer in
    rw (p.1, p.2) (λ v. second_stops _ _ _ _ _ _ _ _ _ v _ front.0 front.1 c.in_err-back.ensures.answer)

pub returns-clause-answer : goal.returns-clause-answer
returns-clause-answer g c =
    let front = c.in_ok-front.ensures.answer in
    let back = c.in_ok-back.ensures.answer in
    two_taken _ _ _ _ _ _ _ _ _ _ front.0 front.1 back.0 back.1
