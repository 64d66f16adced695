use Rattle.std.specs.Prelude.{◌&&◌, ◌||◌, ◌==◌}
use Rattle.std.proofs.Common.{◌∙◌, ap}
use Rattle.lsp_replay.specs.Common.{events_of, follows_passed, message_view}
use Rattle.lsp_survey.proofs.PassedSteps.{passed_late}
use Rattle.lsp_survey.proofs.SidesSteps.{message_late}
use Rattle.lsp_types.specs.declared.rules.TheConstants as rules
use Rattle.lsp_survey.proofs.losses.Losses.message_follows.Goals as goal

pub returns : goal.returns
returns c = λ terms before event losses is.
    let old = c.args.self.now in
    let rule = c.args.rule in
    let side = c.args.side in
    let message = message_view c.args.message.now in
    ap (λ answers. answers || rule == rules.INITIALIZED_NOT_FIRST && old.unheard
    || c.message_follows.result) c.answers_passed-answers.ensures
    ∙ ap (λ passed. passed || c.message_follows.result) (passed_late terms before old.passed
    losses.passed old.unheard losses.unheard rule side c.args.message.now event is)
    ∙ ap (λ late. follows_passed terms rule before event || late) (c.message_follows.ensures
    ∙ message_late rule side old.sides (events_of before) losses.sided message event is)
