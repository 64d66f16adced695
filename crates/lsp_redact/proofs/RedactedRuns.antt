-- What `redact` writes: at its end, of a shape, and one log.
use Rattle.std.proofs.Common.{◌≡◌, ◌⊎◌, ℕ, Bool, true, false, List, [], ◌++◌, Option, Some, None, inl, inr}
use Rattle.std.proofs.Common.{◌∷◌, refl, sym, ap, subst, ◌∙◌, append_assoc, append-nil}
use Rattle.std.specs.Prelude.{is_some, if◌then◌else◌, option_map}
use Rattle.lsp_replay.specs.Common.{bad_log, Bounds, EndsAfter, first_no, Heard, heard_events}
use Rattle.lsp_replay.specs.Common.{IsInRange, IsPassed, IsTold, IsVerdict, log_terms, no, no_by}
use Rattle.lsp_replay.specs.Common.{Rests, rule_of, StopsIn, Terms, Unlike, yes}
use Rattle.lsp_judge.specs.JudgingRun.{verdict_of}
use Rattle.lsp_judge.proofs.Told.{ends_verdict, told_end, told_no}
use Rattle.lsp_replay.specs.Run.{SaysAll}
use Rattle.lsp_replay.specs.RunLaws.{IsSameEnd}
use Rattle.lsp_replay.proofs.AllHeard.{first_after, none_is}
use Rattle.lsp_replay.proofs.Outputs.{end_same, has_one, judged_same}
use Rattle.lsp_replay.proofs.PassEnds.{IsQuiet}
use Rattle.lsp_replay.proofs.RunLaws.{writes_at_its_end}
use Rattle.lsp_replay.proofs.TextRuns.{no_none}
use Rattle.lsp_verdict.specs.Verdict.{Verdict}
use Rattle.lsp_verdict.specs.declared.completeness.Completeness.TheVariants.{Ignored}
use Rattle.lsp_verdict.specs.declared.outcome.Outcome.{Outcome}
use Rattle.lsp_verdict.specs.declared.outcome.Outcome.TheVariants.{Done, Judged}
use Rattle.lsp_verdict.specs.declared.verdict.Verdict.TheVariants as given
use Rattle.lsp_verdict.proofs.Logs.{one_verdict, some_verdict}
use Rattle.lsp_redact.specs.Check.{Checks, EndsBy, EndsIf, is_fault, shows}
use Rattle.lsp_redact.specs.Laws.{OneRedacted, RedactedAtItsEnd, RedactedHasNoWord}
use Rattle.lsp_redact.specs.Laws.{RedactedShowsVerdict}
use Rattle.lsp_redact.specs.Records.{most_of, written}
use Rattle.lsp_redact.specs.Redacting.{Ends, SaysOf, redact_run}
use Rattle.lsp_redact.specs.Shape.{Shape}

-- ---- it writes nothing before it ends

-- nothing is said before the verdict is known
quiet : (limits : Bounds) → IsQuiet (redact_run limits)
quiet limits terms rests before h said (outcome, says) goes =
    by_rule (rule_of terms before h) goes says
  where
    by_rule : (o : Option ℕ) → is_some o ≡ false → SaysOf limits terms before h o said outcome
        → said ≡ []
    by_rule None none is = is.0
    by_rule (Some rule) none is = absurd (cc none)

pub at_its_end : RedactedAtItsEnd
at_its_end limits = writes_at_its_end (redact_run limits) (quiet limits)

-- ---- a check

same_ends : (v : Verdict) (b : Bool) (x y : Outcome) → EndsIf b v x → EndsIf b v y → IsSameEnd x y
same_ends v false x y p q = end_same Unlike x y refl p q
same_ends v true x y p q = by_fault (is_fault v) p q
  where
    by_fault : (b : Bool) → EndsBy b v x → EndsBy b v y → IsSameEnd x y
    by_fault true p q = judged_same v x y p q
    by_fault false p q = end_same Done x y refl p q

-- it has one answer
same_checks : (limits : Bounds) → IsInRange limits → (log : List ℕ) (v : Verdict) (s t : List ℕ)
    (x y : Outcome) → Checks limits log v s x → Checks limits log v t y
    → (s ≡ t) × IsSameEnd x y
same_checks limits sizes log v s t x y p q =
    let own : p.own ≡ q.own = one_verdict limits sizes log p.own q.own p.judged q.judged in (
      p.says ∙ ap (λ (w : Verdict). if shows v w then log else []) own ∙ sym q.says,
      same_ends v (shows v q.own) x y
          (subst (λ (w : Verdict). EndsIf (shows v w) v x) own p.ends) q.ends,
    )

-- and has one
some_end : (v : Verdict) (b : Bool) → (x : Outcome) × EndsIf b v x
some_end v false = (Unlike, refl)
some_end (yes s) true = (Done, refl)
some_end (no rule who number event) true = by_fault (is_fault (no rule who number event))
  where
    by_fault : (b : Bool) → (x : Outcome) × EndsBy b (no rule who number event) x
    by_fault true = (Judged (given.No rule who number event), (given.No rule who number event, refl, refl))
    by_fault false = (Done, refl)
some_end (bad_log number code) true =
    (Judged (given.BadLog number code), (given.BadLog number code, refl, refl))

some_check : (limits : Bounds) (log : List ℕ) (v : Verdict)
    → (said : List ℕ) × (x : Outcome) × Checks limits log v said x
some_check limits log v =
    let own = some_verdict limits log in
    let end = some_end v (shows v own.0) in (
      if shows v own.0 then log else [],
      end.0,
      record { own = own.0; judged = own.1; says = refl; ends = end.1 },
    )

-- ---- each log has one

module _ (limits : Bounds) (sizes : IsInRange limits) (terms : Terms) (before : List Heard)
    (h : Heard) where
  same_said : (o : Option ℕ) (s t : List ℕ) (x y : Outcome)
      → SaysOf limits terms before h o s x → SaysOf limits terms before h o t y
      → (s ≡ t) × IsSameEnd x y
  same_said None s t x y p q = (p.0 ∙ sym q.0, end_same Done x y refl p.1 q.1)
  same_said (Some rule) s t x y p q = same_checks limits sizes _ _ s t x y p q

  some_said : (o : Option ℕ) → (out : List ℕ) × (x : Outcome) × SaysOf limits terms before h o out x
  some_said None = ([], Done, (refl, refl))
  some_said (Some rule) = some_check limits _ _

pub one_redacted : OneRedacted
one_redacted limits sizes = has_one (redact_run limits) (record {
  says = λ terms rests before h a b p q.
      (same_said limits sizes terms before h (rule_of terms before h) a b p.0 q.0 p.1 q.1).0;
  closes = λ terms heard tail a b p q. (same_checks limits sizes _ _ a b p.0 q.0 p.1 q.1).0;
  ends = λ terms before h a b p q.
      (same_said limits sizes terms before h (rule_of terms before h) p.0 q.0 a b p.1 q.1).1;
  finishes = λ terms heard tail a b p q. (same_checks limits sizes _ _ p.0 q.0 a b p.1 q.1).1;
}) (record {
  says = λ terms rests before h.
      let said = some_said limits sizes terms before h (rule_of terms before h) in
      (said.0, (said.1, said.2));
  closes = λ terms heard tail. let said = some_check limits _ _ in (said.0, (said.1, said.2));
  ends = λ terms before h stops.
      let said = some_said limits sizes terms before h (rule_of terms before h) in
      (said.1, (said.0, said.2));
  finishes = λ terms heard tail fits.
      let said = some_check limits _ _ in (said.1, (said.0, said.2));
})

-- ---- what it writes

-- what two checks of one text find: what is written shows the verdict, unless it can't be redacted
shown : (limits : Bounds) → IsInRange limits → (log : List ℕ) (v : Verdict) (s t : List ℕ)
    (x y : Outcome) → Checks limits log v s x → Checks limits log v t y → (y ≡ Unlike → ⊥)
    → (own : Verdict) × IsVerdict limits s own × (shows v own ≡ true)
shown limits sizes log v s t x y p q other = by_test (shows v q.own) refl
  where
    own_is : p.own ≡ q.own
    own_is = one_verdict limits sizes log p.own q.own p.judged q.judged

    by_test : (b : Bool) → shows v q.own ≡ b
        → (own : Verdict) × IsVerdict limits s own × (shows v own ≡ true)
    by_test true is = (
      q.own,
      subst (λ (w : List ℕ). IsVerdict limits w q.own)
          (sym (p.says ∙ ap (λ (w : Verdict). if shows v w then log else []) own_is
          ∙ ap (λ (b : Bool). if b then log else []) is)) q.judged,
      is,
    )
    by_test false is = absurd (other (subst (λ (b : Bool). EndsIf b v y) is q.ends))

-- and it is written of a shape
of_shape : (limits : Bounds) (left : Shape) (v : Verdict) (s : List ℕ) (x : Outcome)
    → Checks limits (written (most_of limits) left) v s x
    → (s ≡ []) ⊎ ((own : Shape) × (s ≡ written (most_of limits) own))
of_shape limits left v s x p = by_test (shows v p.own) refl
  where
    by_test : (b : Bool) → shows v p.own ≡ b
        → (s ≡ []) ⊎ ((own : Shape) × (s ≡ written (most_of limits) own))
    by_test true is =
        inr (left, p.says ∙ ap (λ (b : Bool). if b then written (most_of limits) left else []) is)
    by_test false is =
        inl (p.says ∙ ap (λ (b : Bool). if b then written (most_of limits) left else []) is)

some_by : (o : Option ℕ) → is_some o ≡ true → (rule : ℕ) × (o ≡ Some rule)
some_by None some = absurd (cc some)
some_by (Some rule) some = (rule, refl)

module _ (limits : Bounds) (terms : Terms) (rests : Rests) where
  -- nothing is said of events at which the run does not stop, and none of them offends
  said_none : (before hs : List Heard) (out : List ℕ)
      → first_no terms (heard_events before) ≡ None
      → SaysAll (redact_run limits) terms rests before hs out
      → (out ≡ []) × (first_no terms (heard_events (before ++ hs)) ≡ None)
  said_none before [] out clean is = (
    is,
    subst (λ (w : List Heard). first_no terms (heard_events w) ≡ None) (sym (append-nil before))
        clean,
  )
  said_none before (h ∷ hs) out clean (said, left, is, own, goes, later) =
      let none : rule_of terms before h ≡ None = no_none (rule_of terms before h) goes in
      let rest = said_none (before ++ h ∷ []) hs left
      (first_after terms before h clean ∙ none_is terms before h none) later in
      let own_is : said ≡ [] = quiet limits terms rests before h said own goes in (
        is ∙ (λ i. own_is i ++ rest.0 i),
        subst (λ (w : List Heard). first_no terms (heard_events w) ≡ None)
            (append_assoc before (h ∷ []) hs) rest.1,
      )

module _ (limits : Bounds) (log out : List ℕ) (outcome : Outcome) (p : IsPassed (redact_run limits) limits log out outcome)
  where
    abbrev terms : Terms
    terms = log_terms limits p.format

    abbrev Stops : Type 0
    Stops = StopsIn (redact_run limits) terms p.tail.rests p.heard out outcome

    abbrev Closed : Type 0
    Closed = EndsAfter (redact_run limits) terms p.tail p.heard out outcome

    -- it stops at an event that offends by this rule
    module _ (s : Stops) where
      front : (s.front ≡ []) × (first_no terms (heard_events s.first) ≡ None)
      front = said_none limits terms p.tail.rests [] s.first s.front refl s.said

      out_is : out ≡ s.last
      out_is = s.is ∙ ap (λ (w : List ℕ). w ++ s.last) front.0

      rule : (r : ℕ) × (rule_of terms s.first s.here ≡ Some r)
      rule = some_by (rule_of terms s.first s.here) s.stop.stops

      abbrev no_here : Verdict
      no_here = no_by (heard_events s.first) s.here.note.event rule.0

      own_says : SaysOf limits terms s.first s.here (Some rule.0) out s.stop.says.0
      own_says = subst (λ (w : List ℕ). SaysOf limits terms s.first s.here (Some rule.0) w
          s.stop.says.0) (sym out_is)
          (subst (λ (o : Option ℕ). SaysOf limits terms s.first s.here o s.last s.stop.says.0) rule.1
          s.stop.says.1)

      own_ends : SaysOf limits terms s.first s.here (Some rule.0) s.stop.ends.0 outcome
      own_ends = subst (λ (o : Option ℕ). SaysOf limits terms s.first s.here o s.stop.ends.0 outcome)
          rule.1 s.stop.ends.1

      stopped : IsVerdict limits log no_here
      stopped = ends_verdict Ignored limits log (heard_events s.first) no_here
          (told_no limits log p.format p.records p.tail s.first s.later s.here
          (subst (λ (w : List Heard). IsTold limits log p.format p.records w p.tail) s.are p.told)
          front.1 no_here (ap (option_map (no_by (heard_events s.first) s.here.note.event)) rule.1)
          Ignored)

    -- or the log ends
    module _ (e : Closed) where
      whole : (e.front ≡ []) × (first_no terms (heard_events p.heard) ≡ None)
      whole = said_none limits terms p.tail.rests [] p.heard e.front refl e.said

      all_is : out ≡ e.last
      all_is = e.is ∙ ap (λ (w : List ℕ). w ++ e.last) whole.0

      own_closes : Ends limits terms p.heard p.tail out e.closes.0.0
      own_closes = subst (λ (w : List ℕ). Ends limits terms p.heard p.tail w e.closes.0.0)
          (sym all_is) e.closes.0.1

      ended : IsVerdict limits log (verdict_of Ignored terms p.heard p.tail)
      ended = ends_verdict Ignored limits log (heard_events p.heard) _
          (told_end limits log p.format p.records p.tail p.heard p.told whole.1 Ignored)

    pub has_no_word : (out ≡ []) ⊎ ((left : Shape) × (out ≡ written (most_of limits) left))
    has_no_word = by_end p.is
      where
        by_end : Stops ⊎ Closed
            → (out ≡ []) ⊎ ((left : Shape) × (out ≡ written (most_of limits) left))
        by_end (inl s) = of_shape limits _ _ out _ (own_says s)
        by_end (inr e) = of_shape limits _ _ out _ (own_closes e)

    pub shows_verdict : IsInRange limits → (v : Verdict) → IsVerdict limits log v
        → (outcome ≡ Unlike → ⊥) → (own : Verdict) × IsVerdict limits out own × (shows v own ≡ true)
    shows_verdict sizes v judged other = by_end p.is
      where
        by_end : Stops ⊎ Closed → (own : Verdict) × IsVerdict limits out own × (shows v own ≡ true)
        by_end (inl s) =
            subst (λ (w : Verdict). (own : Verdict) × IsVerdict limits out own × (shows w own ≡ true))
            (one_verdict limits sizes log _ v (stopped s) judged)
            (shown limits sizes _ _ out _ _ outcome (own_says s) (own_ends s) other)
        by_end (inr e) =
            subst (λ (w : Verdict). (own : Verdict) × IsVerdict limits out own × (shows w own ≡ true))
            (one_verdict limits sizes log _ v (ended e) judged)
            (shown limits sizes _ _ out _ _ outcome (own_closes e) e.closes.1.1 other)

pub redacted_has_no_word : RedactedHasNoWord
redacted_has_no_word limits log out outcome p = has_no_word limits log out outcome p

pub redacted_shows_verdict : RedactedShowsVerdict
redacted_shows_verdict limits sizes log out outcome v judged p other =
    shows_verdict limits log out outcome p sizes v judged other
