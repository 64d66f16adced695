use Rattle.std.specs.Prelude.{◌||◌}
use Rattle.std.proofs.Common.{◌∙◌, ◌++◌, ◌∷◌, [], None, Some, ap, refl, string_bytes, subst}
use Rattle.lsp_replay.specs.Common.{HasFate, notes_of, Offence, offence_at}
use Rattle.lsp_replay.proofs.AllHeard.{kept_seen}
use Rattle.lsp_replay.proofs.Wanting.{on_err}
use Rattle.lsp_survey.specs.Reported.{lines_of}
use Rattle.lsp_survey.specs.SurveyRun.{event_said, has_lines}
use Rattle.lsp_survey.proofs.SurveySteps.{kept_tally, offence_is, offence_tally, offence_wants}
use Rattle.lsp_survey.proofs.SurveySteps.{said_on, wants_on}
use Rattle.lsp_survey.proofs.survey.SurveyAccount.event.Goals as goal

-- it is kept
pub returns-in_default : goal.returns-in_default
returns-in_default c = record {
  asked = refl;
  memory = tt;
  says = λ terms before h stands seen.
      let old = c.args.self.now in
      let told = c.in_ok-follows.ensures.told terms before h stands.losses seen in
      let rule = kept_seen terms before h c.args.seen.now.fate c.in_default.not-Offends seen.fate in
      record {
        said = event_said old.options terms before h;
        added = c.in_ok-push_kept_line.ensures.shown terms before h seen rule
            ∙ ap (λ w. string_bytes c.args.text.now ++ w) (said_on terms before h old.options None rule);
        is = λ rests fits. refl;
        goes = (
          refl,
          record {
            losses = told.losses;
            tally = kept_tally terms before h _ _ stands.tally rule refl;
          },
        );
      };
}

-- memory is refused
pub returns-in_err-follows-clause-memory : goal.returns-in_err-follows-clause-memory
returns-in_err-follows-clause-memory c =
    on_err c.from_residual.result (λ terms before h stands seen.
    ap (λ b. b || has_lines c.args.self.now.options (offence_at terms (notes_of before) h.note))
    (c.in_err-follows.ensures.memory terms before h seen))

pub returns-in_err-push_kept_line-clause-memory : goal.returns-in_err-push_kept_line-clause-memory
returns-in_err-push_kept_line-clause-memory c =
    on_err c.from_residual-in_err-push_kept_line.result (λ terms before h stands seen.
    wants_on terms before h c.args.self.now.options None
    (kept_seen terms before h c.args.seen.now.fate c.in_default.not-Offends seen.fate)
    c.in_err-push_kept_line.ensures.memory)

pub returns-in_err-list-clause-memory : goal.returns-in_err-list-clause-memory
returns-in_err-list-clause-memory c =
    on_err c.from_residual-in_err-list.result (λ terms before h stands seen.
    let told = c.in_ok-follows.ensures.told terms before h stands.losses seen in
    let breaks = (subst (HasFate terms before h) c.in-Offends.is seen.fate).0 in
    let is = offence_is terms before h c.in-Offends.rule _ _ breaks told.late_is
    (c.last_offence-offence.ensures before h seen.stood.counted seen.few seen.is seen.noted) in
    offence_wants terms before h c.args.self.now.options c.in-Offends.rule _ breaks is
    c.in_err-list.ensures.memory)

-- it offends
pub returns-clause-says : goal.returns-clause-says
returns-clause-says c = λ terms before h stands seen.
    let old = c.args.self.now in
    let told = c.in_ok-follows.ensures.told terms before h stands.losses seen in
    let breaks = (subst (HasFate terms before h) c.in-Offends.is seen.fate).0 in
    let is = offence_is terms before h c.in-Offends.rule _ _ breaks told.late_is
    (c.last_offence-offence.ensures before h seen.stood.counted seen.few seen.is seen.noted) in
    record {
      said = event_said old.options terms before h;
      added = c.in_ok-list.ensures.said
          ∙ ap (λ (o : Offence). string_bytes c.args.text.now
          ++ lines_of old.options.listing (o ∷ [])) is
          ∙ ap (λ w. string_bytes c.args.text.now ++ w)
          (said_on terms before h old.options (Some c.in-Offends.rule) breaks);
      is = λ rests fits. refl;
      goes = (
        refl,
        record {
          losses = told.losses;
          tally = offence_tally terms before h _ _ stands.tally c.in-Offends.rule _ breaks is
              c.in_ok-list.ensures.tally;
        },
      );
    }
