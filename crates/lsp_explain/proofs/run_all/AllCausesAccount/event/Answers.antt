use Rattle.std.proofs.Common.{◌∙◌, ap, refl, string_bytes, subst}
use Rattle.lsp_trail.specs.Common.{Fate, HasFate, heard_events, Offence, rule_of, ShowsFault}
use Rattle.lsp_survey.proofs.SurveySteps.{offence_is}
use Rattle.lsp_replay.proofs.AllHeard.{kept_seen}
use Rattle.lsp_replay.proofs.Wanting.{on_err}
use Rattle.lsp_explain.proofs.AccountSteps.{all_kept, all_late, all_told, cause_wants, kept_wants}
use Rattle.lsp_explain.proofs.AccountSteps.{lost_wants}
use Rattle.lsp_origins.proofs.Telling.{told_of}
use Rattle.lsp_trail.proofs.Trails.{trail_past}
use Rattle.lsp_explain.proofs.run_all.AllCausesAccount.event.Goals as goal

-- it is kept
pub returns-in_default : goal.returns-in_default
returns-in_default c = record {
  asked = refl;
  memory = tt;
  says = λ terms before h stands seen.
      let told = c.in_ok-follows.ensures.told terms before h stands.lost seen in
      let rule = kept_seen terms before h c.args.seen.now.fate c.in_default.not-Offends seen.fate in
      all_kept terms before h c.args.self.now _ stands (ShowsFault c.args.seen.now.raw (heard_events before))
      (string_bytes c.args.text.now) _ told rule refl
      (c.in_ok-keep.ensures terms before h stands.trail seen);
}

-- memory is refused
pub returns-in_err-follows-clause-memory : goal.returns-in_err-follows-clause-memory
returns-in_err-follows-clause-memory c =
    on_err c.from_residual.result (λ terms before h stands seen.
    lost_wants terms before h c.args.self.now.completeness (rule_of terms before h)
    (c.in_err-follows.ensures.memory terms before h seen))

pub returns-in_err-keep-clause-memory : goal.returns-in_err-keep-clause-memory
returns-in_err-keep-clause-memory c =
    on_err c.from_residual-in_err-keep.result (λ terms before h stands seen.
    kept_wants terms before h c.args.self.now.completeness
    (kept_seen terms before h c.args.seen.now.fate c.in_default.not-Offends seen.fate) seen.noted)

pub returns-in_err-push_offence-clause-memory : goal.returns-in_err-push_offence-clause-memory
returns-in_err-push_offence-clause-memory c =
    on_err c.from_residual-in_err-push_offence.result (λ terms before h stands seen.
    let told = c.in_ok-follows.ensures.told terms before h stands.lost seen in
    let has = subst (λ (f : Fate). HasFate terms before h f) c.in-Offends.is seen.fate in
    let last = c.last_offence-offence.ensures before h seen.stood.counted seen.few seen.is
    seen.noted in
    let is = offence_is terms before h c.in-Offends.rule _ _ has.0 told.late_is last in
    cause_wants terms before h c.args.self.now.completeness c.in-Offends.rule _ has.0 is
    (ap (λ (o : Offence). o.follows) last ∙ c.if-follows.false))

-- it offends, and follows from an earlier one
pub returns-then-follows : goal.returns-then-follows
returns-then-follows c = record {
  asked = refl;
  memory = tt;
  says = λ terms before h stands seen.
      let told = c.in_ok-follows.ensures.told terms before h stands.lost seen in
      let has = subst (λ (f : Fate). HasFate terms before h f) c.in-Offends.is seen.fate in
      let is = offence_is terms before h c.in-Offends.rule _ _ has.0 told.late_is
      (c.last_offence-offence.ensures before h seen.stood.counted seen.few seen.is seen.noted) in
      all_late terms before h c.args.self.now _ stands (ShowsFault c.args.seen.now.raw (heard_events before))
      (string_bytes c.args.text.now) _ told c.in-Offends.rule _ c.if-follows.true has.0 is
      c.add.ensures (trail_past terms before h _ stands.trail c.in-Offends.rule has.0);
}

-- it offends, and is explained
pub returns : goal.returns
returns c = record {
  asked = refl;
  memory = tt;
  says = λ terms before h stands seen.
      let rule = c.in-Offends.rule in
      let offence = c.last_offence-offence.result in
      let told = c.in_ok-follows.ensures.told terms before h stands.lost seen in
      let has = subst (λ (f : Fate). HasFate terms before h f) c.in-Offends.is seen.fate in
      let last = c.last_offence-offence.ensures before h seen.stood.counted seen.few seen.is
      seen.noted in
      let is = offence_is terms before h rule _ _ has.0 told.late_is last in
      all_told terms before h c.args.self.now _ stands (ShowsFault c.args.seen.now.raw (heard_events before))
      (string_bytes c.args.text.now) _ told rule _ _ c.if-follows.false has.0 is c.add.ensures
      (trail_past terms before h _ stands.trail rule has.0)
      (told_of terms before h c.args.seen.now rule c.in-Offends.tried offence _ _ _ _ _ _
      c.in-Offends.is last seen
      (c.in_ok-push_offence.ensures terms before h stands.trail));
}
