use Rattle.std.specs.Prelude.{is_some}
use Rattle.std.proofs.Common.{◌∙◌, None, Some, ap, refl, subst, sym}
use Rattle.std.proofs.lemmas.Result.{IfOk-weaker}
use Rattle.lsp_trail.specs.Common.{Fate, HasFate}
use Rattle.lsp_replay.proofs.AllHeard.{first_after, kept_seen, none_is}
use Rattle.lsp_replay.proofs.TextRuns.{says_answer, says_none}
use Rattle.lsp_replay.proofs.Wanting.{on_err}
use Rattle.lsp_explain.specs.Compared.{answer_after, answer_behind, answer_of}
use Rattle.lsp_explain.proofs.Comparing.{answer_is, compared_here}
use Rattle.lsp_explain.proofs.compared.OneTextAccount.event.Goals as goal

-- it is kept
pub returns-in_default : goal.returns-in_default
returns-in_default c = record {
  asked = refl;
  memory = tt;
  says = λ terms before h clean seen.
      let which = c.args.self.now.which in
      let rule = kept_seen terms before h c.args.seen.now.fate c.in_default.not-Offends seen.fate in
      says_none (answer_after which) answer_behind (answer_is which terms before h None rule)
      (first_after terms before h clean ∙ none_is terms before h rule);
}

-- memory is refused
pub returns-in_err-one_of-clause-memory : goal.returns-in_err-one_of-clause-memory
returns-in_err-one_of-clause-memory c = on_err c.from_residual.result (λ terms before h clean seen.
    let has = subst (λ (f : Fate). HasFate terms before h f) c.in-Offends.is seen.fate in
    ap is_some (answer_is c.args.self.now.which terms before h (Some c.in-Offends.rule) has.0))

-- it offends
pub returns : goal.returns
returns c = record {
  asked = refl;
  memory = on_err c.stop.result (λ terms before h clean seen.
      let has = subst (λ (f : Fate). HasFate terms before h f) c.in-Offends.is seen.fate in
      ap is_some (answer_is c.args.self.now.which terms before h (Some c.in-Offends.rule) has.0));
  says = IfOk-weaker c.stop.result _ _ (λ flow stops terms before h clean seen.
      let which = c.args.self.now.which in
      let rule = c.in-Offends.rule in
      let has = subst (λ (f : Fate). HasFate terms before h f) c.in-Offends.is seen.fate in
      says_answer (answer_after which) answer_behind flow stops
      (answer_is which terms before h (Some rule) has.0
      ∙ ap Some (sym (c.in_ok-one_of.ensures ∙ ap (answer_of which)
      (compared_here terms before h rule c.args.seen.now c.in-Offends.tried _ _ _ _ c.in-Offends.is
      seen c.texts_at-texts.ensures))))) c.stop.ensures;
}
