-- A run that answers with a text, as a pass, and the steps of its account.
use Rattle.std.proofs.Common.{◌≡◌, ◌<◌, ◌≤◌, ◌+◌, ◌^◌, ◌==◌, ◌&&◌, ℕ, Bool, true, false, List, []}
use Rattle.std.proofs.Common.{◌∷◌, ◌++◌, length, length-append, refl, ap, ◌∙◌, arith, Option, Some}
use Rattle.std.proofs.Common.{None, sym, ◌⊎◌, Result, Ok, Err, inl, inr, subst, append-nil}
use Rattle.std.specs.Prelude.{filter, if◌then◌else◌, option_map, is_some, unwrap_or}
use Rattle.std.proofs.lemmas.Bool.{eq-eqb}
use Rattle.std.proofs.lemmas.Bool.Decides.{nat_tests}
use Rattle.std.proofs.lemmas.List.{length-map}
use Rattle.std.proofs.lemmas.List.Elements.{filter-append}
use Rattle.std.proofs.lemmas.Option.{same_Some}
use Rattle.std.specs.Option.{option_or}
use Rattle.lsp_types.specs.declared.side.Side.TheVariants.{Editor}
use Rattle.lsp_verdict.specs.Given.{AreCounts, verdict_view}
use Rattle.lsp_verdict.specs.Event.{Event, calls}
use Rattle.lsp_verdict.specs.Heard.{Heard, heard_events, notes_of, Rests}
use Rattle.lsp_verdict.specs.Offences.{Noted}
use Rattle.lsp_verdict.specs.Verdict.{Verdict, bad_log, bad_log_of, count_of, is_of}
use Rattle.lsp_verdict.specs.declared.counts.Counts.{Counts}
use Rattle.lsp_verdict.specs.Shown.{TextAnswer, held_answer, missing_answer, BeginsText, EndsAs}
use Rattle.lsp_verdict.specs.Shown.{IsText, no_difference, no_document, refused, text_is, too_few}
use Rattle.lsp_verdict.specs.Shown.{written_of}
use Rattle.lsp_verdict.specs.declared.verdict.Verdict as code
use Rattle.lsp_verdict.specs.LookBack.{first_from, first_of}
use Rattle.lsp_verdict.specs.Outcome.{log_terms}
use Rattle.lsp_verdict.specs.Runs.{OutputFor, Ports}
use Rattle.lsp_verdict.specs.declared.outcome.Outcome.{Outcome}
use Rattle.lsp_verdict.specs.declared.outcome.Outcome.TheVariants.{Done, NoDifference, NoDocument}
use Rattle.lsp_verdict.specs.declared.outcome.Outcome.TheVariants.{TooFew}
use Rattle.lsp_verdict.specs.declared.outcome.RunFault.{RunFault}
use Rattle.lsp_verdict.specs.declared.outcome.RunFault.TheVariants as faults
use Rattle.lsp_verdict.proofs.LookBackLemmas.{first_of-append}
use Rattle.lsp_verdict.proofs.RunsJudged.{read_map, read_within}
use Rattle.lsp_docs.specs.Calls.{Call}
use Rattle.lsp_docs.specs.Documents.{Terms, Version, held}
use Rattle.lsp_docs.specs.State as docs
use Rattle.lsp_session.specs.State as session
use Rattle.lsp_frame.specs.Bounds.{Bounds}
use Rattle.lsp_frame.specs.declared.format.Format.{Format}
use Rattle.lsp_log.specs.Log.{Record}
use Rattle.lsp_log.specs.declared.fault.LogCode.{LogCode}
use Rattle.lsp_replay.specs.TextAnswers.{is_reached, TextAsked, answer_by, refusal_by, text_at}
use Rattle.lsp_replay.specs.TextAnswers.{StopsWith, WritesText, answer_run, end_answer, said_of}
use Rattle.lsp_replay.specs.TextAnswers.{text_behind}
use Rattle.lsp_replay.proofs.Seeing.{events-push}
use Rattle.lsp_replay.specs.Telling.{Stood, kept_before, no_of, Closes, Says}
use Rattle.lsp_replay.specs.Run.{DueAt, PartPassed, Passes, EndsAfter, IsPassed, IsTold, Run}
use Rattle.lsp_replay.specs.Run.{SaysAll, StopsIn, Tail}
use Rattle.lsp_replay.specs.RunLaws.{HasOneOutput, IsSameEnd}
use Rattle.lsp_replay.specs.declared.seen.Flow.{Flow}
use Rattle.lsp_replay.specs.declared.seen.Flow.TheVariants.{GoOn, Stop}
use Rattle.lsp_replay.proofs.GivenVerdicts.{bad_given, some_judged}
use Rattle.lsp_replay.proofs.Outputs.{end_same, has_one, judged_same}
use Rattle.lsp_replay.proofs.PassEnds.{IsQuiet, cut_whole, part_within, quiet_all, silent}

-- ---- whether the editor's n-th message was heard last, or has still to come

pub count-append : (test : Event → Bool) (xs ys : List Event)
    → count_of test (xs ++ ys) ≡ count_of test xs + count_of test ys
count-append test xs ys = ap length (filter-append test xs ys) ∙ length-append _ _

-- not more events are the editor's than there are
count_within : (xs : List Event) → count_of (is_of Editor) xs ≤ length xs
count_within [] = omega arith
count_within (x ∷ xs) = by_own (is_of Editor x) (count_within xs)
  where
    by_own : (b : Bool) → count_of (is_of Editor) xs ≤ length xs
        → length (if b then x ∷ filter (is_of Editor) xs else filter (is_of Editor) xs)
        ≤ length (x ∷ xs)
    by_own true p = omega (arith, p)
    by_own false p = omega (arith, p)

-- of so few events, the editor's are counted exactly; fewer than n of them came before the last
module _ (n : ℕ) (c : Counts) (before : List Heard) (h : Heard)
    (counted : AreCounts c (heard_events (before ++ h ∷ []))) (few : length before + 1 < 2 ^ 64)
    (earlier : count_of (is_of Editor) (heard_events before) < n) where
  abbrev all : ℕ
  all = count_of (is_of Editor) (heard_events (before ++ h ∷ []))

  abbrev own : ℕ
  own = count_of (is_of Editor) (h.note.event ∷ [])

  count_is : c.editor ≡ all
  count_is = omega (
    arith,
    counted.editor,
    few,
    count_within (heard_events (before ++ h ∷ [])),
    length-map (before ++ h ∷ []) (λ (x : Heard). x.note),
    length-map (notes_of (before ++ h ∷ [])) (λ (x : Noted). x.event),
    length-append before (h ∷ []),
  )

  one_more : all ≡ count_of (is_of Editor) (heard_events before) + own
  one_more = ap (count_of (is_of Editor)) (events-push before h)
      ∙ count-append (is_of Editor) (heard_events before) (h.note.event ∷ [])

  own_one : is_of Editor h.note.event ≡ true → own ≡ 1
  own_one is = ap (λ b. length (if b then h.note.event ∷ [] else [])) is

  own_none : is_of Editor h.note.event ≡ false → own ≡ 0
  own_none is = ap (λ b. length (if b then h.note.event ∷ [] else [])) is

  pub now_reached : c.editor ≡ n → is_reached n before h ≡ true
  now_reached reached = by_own (is_of Editor h.note.event) refl
    where
      by_own : (b : Bool) → is_of Editor h.note.event ≡ b
          → (b && count_of (is_of Editor) (heard_events before) + 1 == n) ≡ true
      by_own true is = eq-eqb _ _ (omega (arith, reached, count_is, one_more, own_one is))
      by_own false is = absurd (omega (arith, earlier, reached, count_is, one_more, own_none is))

  pub not_reached : (c.editor ≡ n → ⊥) → (is_reached n before h ≡ false) × (all < n)
  not_reached other = by_own (is_of Editor h.note.event) refl
    where
      unequal : (k : ℕ) → (k ≡ n → ⊥) → (k == n) ≡ false
      unequal k differs = grind (arith, nat_tests, differs)

      by_own : (b : Bool) → is_of Editor h.note.event ≡ b
          → ((b && count_of (is_of Editor) (heard_events before) + 1 == n) ≡ false) × (all < n)
      by_own true is = (
        unequal _ (λ same. other (omega (arith, same, count_is, one_more, own_one is))),
        omega (arith, earlier, other, count_is, one_more, own_one is),
      )
      by_own false is = (refl, omega (arith, earlier, one_more, own_none is))

-- ---- the answer at an event of the account that says the text just after a message

module _ (asked : TextAsked) (terms : Terms) (before : List Heard) (h : Heard) where
  abbrev on : List Heard
  on = before ++ h ∷ []

  abbrev text_here : TextAnswer
  text_here = held_answer (held terms asked.uri (calls (kept_before terms on)))

  abbrev refusal : Option Verdict
  refusal = refusal_by asked.skips (no_of terms before h)

  -- the event ends the run
  pub missing_at : (v : Verdict) (answer : TextAnswer) → refusal ≡ Some v
      → answer ≡ missing_answer v → text_at asked terms before h ≡ Some answer
  missing_at v answer is missing =
      ap (λ o. answer_by o (is_reached asked.number before h) text_here) is
      ∙ ap Some (sym missing)

  pub no_refusal : (o : Option code.Verdict) → ((v : code.Verdict) → o ≡ Some v → ⊥)
      → option_map verdict_view o ≡ refusal → refusal ≡ None
  no_refusal None not is = sym is
  no_refusal (Some v) not is = absurd (not v refl)

  -- it doesn't
  module _ {m : session.State} {d : docs.State} {c : Counts} (stood : Stood terms m d c on)
      (few : length before + 1 < 2 ^ 64)
      (earlier : count_of (is_of Editor) (heard_events before) < asked.number)
      (none : refusal ≡ None) where
    by_reached : (b : Bool) → is_reached asked.number before h ≡ b
        → text_at asked terms before h ≡ answer_by None b text_here
    by_reached b is = ap (λ o. answer_by o (is_reached asked.number before h) text_here) none
        ∙ ap (λ x. answer_by None x text_here) is

    -- and is the message
    pub held_at : (answer : TextAnswer) → c.editor ≡ asked.number
        → ((made : List Call) → docs.Stands d made
        → answer ≡ held_answer (held d.terms asked.uri made))
        → text_at asked terms before h ≡ Some answer
    held_at answer reached told =
        by_reached true (now_reached asked.number c before h stood.counted few earlier reached)
        ∙ ap Some (sym (told _ stood.holds.called
        ∙ ap (λ (t : Terms). held_answer (held t asked.uri (calls (kept_before terms on))))
        stood.by))

    pub some_at : c.editor ≡ asked.number → is_some (text_at asked terms before h) ≡ true
    some_at reached = ap is_some
        (by_reached true (now_reached asked.number c before h stood.counted few earlier reached))

    -- or another
    module _ (other : c.editor ≡ asked.number → ⊥) where
      pub none_at : text_at asked terms before h ≡ None
      none_at = by_reached false
          (not_reached asked.number c before h stood.counted few earlier other).0

      pub still_to_come : count_of (is_of Editor) (heard_events on) < asked.number
      still_to_come = (not_reached asked.number c before h stood.counted few earlier other).1

-- ---- the account as a run, and its steps

pub no_none : {A : Type 0} (o : Option A) → is_some o ≡ false → o ≡ None
no_none None goes = refl
no_none (Some v) goes = absurd (cc goes)

-- a run ends with this answer
abbrev pub CanEnd : TextAnswer → Type 0
CanEnd answer = (outcome : Outcome) × EndsAs answer outcome

pub text_ends : (text : List ℕ) → CanEnd (text_is text)
text_ends text = (Done, refl)

pub none_ends : CanEnd no_document
none_ends = (NoDocument, refl)

pub few_ends : CanEnd too_few
few_ends = (TooFew, refl)

pub same_ends : CanEnd no_difference
same_ends = (NoDifference, refl)

pub bad_ends : (number : ℕ) (fault : LogCode) → CanEnd (refused (bad_log number fault))
bad_ends number fault = some_judged (bad_log number fault) (bad_given number fault)

ends_same : (answer : TextAnswer) (a b : Outcome) → EndsAs answer a → EndsAs answer b
    → IsSameEnd a b
ends_same (text_is text) a b p q = end_same Done a b refl p q
ends_same no_document a b p q = end_same NoDocument a b refl p q
ends_same too_few a b p q = end_same TooFew a b refl p q
ends_same no_difference a b p q = end_same NoDifference a b refl p q
ends_same (refused v) a b p q = judged_same v a b p q

module _ (answer_at : Terms → List Heard → Heard → Option TextAnswer)
    (answer_behind : Terms → List Heard → Tail → TextAnswer) where
  abbrev run : Run
  run = answer_run answer_at answer_behind

  -- ---- its account

  module _ {terms : Terms} {before : List Heard} {h : Heard} {Fits : Rests → Type 0}
      {Stands : Type 0} {old : List ℕ} where
    -- the event has this answer
    pub says_answer : {new : List ℕ} {answer : TextAnswer} (flow : Flow)
        → StopsWith answer old new flow → answer_at terms before h ≡ Some answer
        → Says run terms before h Fits old new Stands flow
    says_answer GoOn told at = absurd told
    says_answer {new} {answer} (Stop boxed) told at = record {
      said = written_of answer;
      added = told.0;
      is = λ rests fits. ap said_of (sym at);
      goes = (ap is_some at, (answer, at, told.1));
    }

    -- it has none
    pub says_none : answer_at terms before h ≡ None → Stands
        → Says run terms before h Fits old old Stands GoOn
    says_none at stands = record {
      said = [];
      added = sym (append-nil old);
      is = λ rests fits. ap said_of (sym at);
      goes = (ap is_some at, stands);
    }

  -- the log ended, which has this answer
  pub closes_answer : {terms : Terms} {heard : List Heard} {Fits : Tail → Type 0}
      {old new : List ℕ} {answer : TextAnswer} {outcome : Outcome}
      → (new ≡ old ++ written_of answer) × EndsAs answer outcome
      → ((tail : Tail) → Fits tail → answer ≡ answer_behind terms heard tail)
      → Closes run terms heard Fits old new outcome
  closes_answer {terms} {heard} {Fits} {old} {new} {answer} {outcome} told same = record {
    said = written_of answer;
    added = told.0;
    is = λ tail fits. (
      ap written_of (same tail fits),
      subst (λ (a : TextAnswer). EndsAs a outcome) (same tail fits) told.1,
    );
  }

  -- ---- a pass of it

  pub quiet : IsQuiet run
  quiet terms rests before h said is goes =
      is ∙ ap said_of (no_none (answer_at terms before h) goes)

  one_end : (terms : Terms) (before : List Heard) (h : Heard) (a b : Outcome)
      → run.ends terms before h a → run.ends terms before h b → IsSameEnd a b
  one_end terms before h a b (answer, is, ends) (other, at, also) =
      let same : answer ≡ other = cc (sym is ∙ at) in
      ends_same other a b (subst (λ (x : TextAnswer). EndsAs x a) same ends) also

  some_answer : ((terms : Terms) (before : List Heard) (h : Heard) (answer : TextAnswer)
      → answer_at terms before h ≡ Some answer → CanEnd answer)
      → (terms : Terms) (before : List Heard) (h : Heard)
      → is_some (answer_at terms before h) ≡ true
      → (outcome : Outcome) × run.ends terms before h outcome
  some_answer can_end terms before h stops = by_answer (answer_at terms before h) refl stops
    where
      by_answer : (o : Option TextAnswer) → answer_at terms before h ≡ o → is_some o ≡ true
          → (outcome : Outcome) × run.ends terms before h outcome
      by_answer None is there = absurd (cc there)
      by_answer (Some answer) is there =
          let end = can_end terms before h answer is in (end.0, (answer, is, end.1))

  -- **a log has one answer**, where a run can end with each
  pub has_one_answer : ((terms : Terms) (before : List Heard) (h : Heard) (answer : TextAnswer)
      → answer_at terms before h ≡ Some answer → CanEnd answer)
      → ((terms : Terms) (heard : List Heard) (tail : Tail)
      → CanEnd (answer_behind terms heard tail)) → HasOneOutput run
  has_one_answer can_end can_finish = has_one run (record {
    says = λ terms rests before h a b p q. p ∙ sym q;
    closes = λ terms heard tail a b p q. p ∙ sym q;
    ends = one_end;
    finishes = λ terms heard tail a b. ends_same (answer_behind terms heard tail) a b;
  }) (record {
    says = λ terms rests before h. (said_of (answer_at terms before h), refl);
    closes = λ terms heard tail. (written_of (answer_behind terms heard tail), refl);
    ends = some_answer can_end;
    finishes = λ terms heard tail fits. can_finish terms heard tail;
  })

  -- no event has an answer at which it does not stop
  none_from : (terms : Terms) (rests : Rests) (before hs : List Heard) (out : List ℕ)
      → SaysAll run terms rests before hs out → first_from (answer_at terms) before hs ≡ None
  none_from terms rests before [] out is = refl
  none_from terms rests before (h ∷ hs) out (said, left, is, same, goes, later) =
      ap (λ o. option_or o (first_from (answer_at terms) (before ++ h ∷ []) hs))
      (no_none (answer_at terms before h) goes)
      ∙ none_from terms rests (before ++ h ∷ []) hs left later

  -- of each log that was told, the answer is that of its first event that has one, else of its end
  module _ (limits : Bounds) (Answers : List ℕ → TextAnswer → Type 0)
      (answers : (log : List ℕ) (format : Option Format) (records : List Record)
      (heard : List Heard) (tail : Tail) → IsTold limits log format records heard tail
      → Answers log (unwrap_or (first_of (answer_at (log_terms limits format)) heard)
      (answer_behind (log_terms limits format) heard tail))) where
    module _ (log out : List ℕ) (outcome : Outcome) (p : IsPassed run limits log out outcome)
      where
        abbrev terms : Terms
        terms = log_terms limits p.format

        abbrev behind : TextAnswer
        behind = answer_behind terms p.heard p.tail

        answered : (o : Option TextAnswer) → first_of (answer_at terms) p.heard ≡ o
            → Answers log (unwrap_or o behind)
        answered o is = subst (λ (x : Option TextAnswer). Answers log (unwrap_or x behind)) is
            (answers log p.format p.records p.heard p.tail p.told)

        stopped : StopsIn run terms p.tail.rests p.heard out outcome → IsText Answers log out outcome
        stopped s =
            let (answer, is, ends) = s.stop.ends in
            let f = answer_at terms in
            record {
              answer = answer;
              answers = answered (Some answer) (ap (first_of f) s.are
                  ∙ first_of-append f s.first (s.here ∷ s.later)
                  ∙ ap (λ o. option_or o (first_from f s.first (s.here ∷ s.later)))
                  (none_from terms p.tail.rests [] s.first s.front s.said)
                  ∙ ap (λ o. option_or o (first_from f (s.first ++ s.here ∷ []) s.later)) is);
              written = s.is ∙ ap (λ w. w ++ s.last)
                  (quiet_all run quiet terms p.tail.rests [] s.first s.front s.said)
                  ∙ s.stop.says ∙ ap said_of is;
              ends = ends;
            }

        ended : EndsAfter run terms p.tail p.heard out outcome → IsText Answers log out outcome
        ended e = record {
          answer = behind;
          answers = answered None (none_from terms p.tail.rests [] p.heard e.front e.said);
          written = e.is ∙ ap (λ w. w ++ e.last)
              (quiet_all run quiet terms p.tail.rests [] p.heard e.front e.said) ∙ e.closes.0;
          ends = e.closes.1;
        }

        -- **it is written, and so the run ends**
        pub is_text : IsText Answers log out outcome
        is_text = by_end p.is
          where
            by_end : StopsIn run terms p.tail.rests p.heard out outcome
                ⊎ EndsAfter run terms p.tail p.heard out outcome → IsText Answers log out outcome
            by_end (inl s) = stopped s
            by_end (inr e) = ended e

    module _ (io : Ports) where
      module _ (fault : RunFault) (p : PartPassed run limits io.source_before io.source_after
          io.sink_before io.sink_after fault) where
        unwritten : (fault ≡ faults.Write → ⊥) → io.sink_after ≡ io.sink_before
        unwritten never = silent run quiet limits io.source_before io.source_after io.sink_before
            io.sink_after fault never p

        cut : DueAt faults.Write run limits io.source_before io.source_after p.out
            → OutputFor limits io (BeginsText Answers)
        cut due =
            let (outcome, left, whole) = cut_whole run quiet limits io.source_before
            io.source_after p.out due in (
              p.out,
              p.took,
              read_map limits io.source_before io.source_after
                  (λ log. IsPassed run limits log (p.out ++ left) outcome)
                  (λ log. BeginsText Answers log p.out)
                  (λ log passed. (outcome, left, is_text log (p.out ++ left) outcome passed)) whole,
            )

        text_part : WritesText limits io Answers (Err fault)
        text_part = record {
          written = tt;
          read_fault = λ e. let same : fault ≡ faults.Read = cc e in
              unwritten (λ write. absurd (cc (sym write ∙ same)));
          memory = λ e. let same : fault ≡ faults.Memory = cc e in
              unwritten (λ write. absurd (cc (sym write ∙ same)));
          write_fault = λ e. let same : fault ≡ faults.Write = cc e in
              cut (subst (λ (f : RunFault).
              DueAt f run limits io.source_before io.source_after p.out) same p.due);
          counts = record {
            source_failures = p.source;
            sink_failures = p.sink;
            limit = part_within run limits io.source_before io.source_after io.sink_before
                io.sink_after fault p;
          };
        }

      -- **what a pass of it answers and writes**
      pub text_written : (result : Result Outcome RunFault) → Passes run limits io.source_before
          io.source_after io.sink_before io.sink_after result → WritesText limits io Answers result
      text_written (Ok outcome) a = record {
        written = (
          a.out,
          a.wrote.took,
          read_map limits io.source_before io.source_after
              (λ log. IsPassed run limits log a.out outcome)
              (λ log. IsText Answers log a.out outcome)
              (λ log p. is_text log a.out outcome p) a.due,
        );
        read_fault = λ e. absurd (cc e);
        memory = λ e. absurd (cc e);
        write_fault = λ e. absurd (cc e);
        counts = record {
          source_failures = a.failures;
          sink_failures = a.wrote.failures;
          limit = read_within _ _ _ _ a.due;
        };
      }
      text_written (Err fault) p = text_part fault p

-- ---- `text --all`

held_ends : (reached : Bool) (o : Option Version) (answer : TextAnswer)
    → answer_by None reached (held_answer o) ≡ Some answer → CanEnd answer
held_ends false o answer is = absurd (cc is)
held_ends true None answer is = subst CanEnd (same_Some no_document answer is) none_ends
held_ends true (Some v) answer is = subst CanEnd (same_Some (text_is v.text) answer is)
    (text_ends v.text)

-- each of its answers is one that a run can end with
pub kept_ends : (n : ℕ) (uri : List ℕ) (terms : Terms) (before : List Heard) (h : Heard)
    (answer : TextAnswer)
    → text_at (record { number = n; uri = uri; skips = true }) terms before h ≡ Some answer
    → CanEnd answer
kept_ends n uri terms before h =
    held_ends (is_reached n before h) (held terms uri (calls (kept_before terms (before ++ h ∷ []))))

pub behind_ends : (terms : Terms) (heard : List Heard) (tail : Tail)
    → CanEnd (text_behind terms heard tail)
behind_ends _ heard tail = by_fault tail.fault
  where
    by_fault : (fault : Option (ℕ × LogCode)) → CanEnd (end_answer (bad_log_of fault))
    by_fault None = few_ends
    by_fault (Some flaw) = bad_ends flaw.0 flaw.1
