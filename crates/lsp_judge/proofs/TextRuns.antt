-- What `text` answers and writes follows from what a pass does.
use Rattle.std.specs.Global.{Global}
use Rattle.std.specs.Io.KnownBytes.{Appends}
use Rattle.std.proofs.Common.{◌≡◌, ◌+◌, ◌==◌, ◌&&◌, ℕ, Bool, true, false, List, [], ◌∷◌, ◌++◌, Option}
use Rattle.std.proofs.Common.{Some, None, Ok, Err, refl, sym, ap, subst, ◌∙◌, append-nil, append_assoc}
use Rattle.std.proofs.Common.{String}
use Rattle.std.specs.Prelude.{is_some, if◌then◌else◌, string_bytes, unwrap_or}
use Rattle.std.specs.Option.{option_or}
use Rattle.std.proofs.lemmas.Str.{chars_from_encodes, IsUtf8-string_bytes}
use Rattle.lsp_replay.specs.Common.{bad_log_of, Bounds, calls, end_answer, ending, Event}
use Rattle.lsp_replay.specs.Common.{failures_after, first_from, first_no, first_of, Format, Heard}
use Rattle.lsp_replay.specs.Common.{heard_events, held, held_answer, IsTold, kept_before, log_terms}
use Rattle.lsp_replay.specs.Common.{LogCode, no_at, no_of, OfRead, ports, rest_of, RunFault}
use Rattle.lsp_replay.specs.Common.{summary, Tail, Terms, text_at, text_behind, TextAnswer, Told}
use Rattle.lsp_replay.specs.Common.{up_to_editor, yes}
use Rattle.lsp_log.specs.Log.{Record}
use Rattle.lsp_types.specs.declared.side.Side.TheVariants.{Editor}
use Rattle.lsp_judge.specs.TextRun.{given_as}
use Rattle.lsp_judge.proofs.Told.{told_verdict}
use Rattle.lsp_replay.specs.TextAnswers.{FindsText, TextAsked, WritesText, answer_by, answer_view}
use Rattle.lsp_replay.specs.TextAnswers.{is_reached}
use Rattle.lsp_replay.specs.declared.text_answer.TextAnswer as code
use Rattle.lsp_replay.proofs.AllHeard.{first_after}
use Rattle.lsp_replay.proofs.Seeing.{events-join, events-push}
use Rattle.lsp_verdict.specs.Runs.{GaveAtMost}
use Rattle.lsp_verdict.specs.Shown.{text_is, no_document, no_difference, too_few}
use Rattle.lsp_verdict.specs.Shown.{missing_answer, refused, text_answer}
use Rattle.lsp_verdict.specs.Shown.{AnswersText, EndsAs, IsText, written_of}
use Rattle.lsp_verdict.specs.Verdict.{Verdict, count_of, is_of}
use Rattle.lsp_verdict.specs.Verdict.{verdict}
use Rattle.lsp_verdict.specs.declared.outcome.Outcome.{Outcome}
use Rattle.lsp_verdict.specs.declared.outcome.RunFault.TheVariants as faults
use Rattle.lsp_verdict.proofs.LookBackLemmas.{first_of-more}
use Rattle.lsp_verdict.proofs.Offences.Offending.{all_are_kept}
use Rattle.lsp_verdict.proofs.RunsJudged.{read_map}

-- ---- the answer on a log that was told

-- once an event offended, it is what the verdict says
past : (terms : Terms) (n : ℕ) (uri : List ℕ) (v w : Verdict) (before xs : List Event)
    → first_no terms before ≡ Some w
    → text_answer terms uri v (up_to_editor n before xs) ≡ missing_answer v
past terms n uri v w before [] bad = refl
past terms n uri v w before (e ∷ xs) bad =
    by_own (past terms n uri v w (before ++ e ∷ []) xs still)
    (is_of Editor e && count_of (is_of Editor) before + 1 == n)
  where
    still : first_no terms (before ++ e ∷ []) ≡ Some w
    still = first_of-more (no_at terms) before (e ∷ []) w bad

    by_own : text_answer terms uri v (up_to_editor n (before ++ e ∷ []) xs) ≡ missing_answer v
        → (b : Bool) → text_answer terms uri v (if b then Some (before ++ e ∷ [])
        else up_to_editor n (before ++ e ∷ []) xs) ≡ missing_answer v
    by_own later true = ap (λ o. if is_some o then missing_answer v else held_answer
        (held terms uri (calls (before ++ e ∷ [])))) still
    by_own later false = later

-- where none did, the end of the log says the same as the verdict
behind : (terms : Terms) (events : List Event) (flaw : Option (ℕ × LogCode))
    (editor server : Bool) → missing_answer (unwrap_or
    (option_or (bad_log_of flaw) (rest_of events editor server)) (yes (summary terms events)))
    ≡ end_answer (bad_log_of flaw)
behind terms events None false true = refl
behind terms events _ _ _ = refl

abbrev pub asked : ℕ → List ℕ → TextAsked
asked n uri = record { number = n; uri = uri; skips = false }

module _ (n : ℕ) (uri : List ℕ) (terms : Terms) (v : Verdict) (last : TextAnswer) where
  module _ (before hs : List Heard) (h : Heard)
      (clean : first_no terms (heard_events before) ≡ None) where
    abbrev on : List Heard
    on = before ++ h ∷ []

    abbrev up_to : Bool → Option (List Event)
    up_to b = if b then Some (heard_events on)
        else up_to_editor n (heard_events on) (heard_events hs)

    -- the event offends
    offended : (w : Verdict) → first_no terms (heard_events on) ≡ Some w → (b : Bool)
        → text_answer terms uri v (up_to b) ≡ missing_answer v
    offended w bad true = ap (λ o. if is_some o then missing_answer v
        else held_answer (held terms uri (calls (heard_events on)))) bad
    offended w bad false = past terms n uri v w (heard_events on) (heard_events hs) bad

    -- it has an answer, or those behind it have theirs
    one_answer : ((w : Verdict) → first_no terms (heard_events (before ++ h ∷ hs)) ≡ Some w → v ≡ w)
        → (no_of terms before h ≡ None → text_answer terms uri v (up_to false)
        ≡ unwrap_or (first_from (text_at (asked n uri) terms) on hs) last)
        → (o : Option Verdict) (b : Bool) → no_of terms before h ≡ o
        → text_answer terms uri v (up_to b) ≡ unwrap_or (option_or (answer_by o b
        (held_answer (held terms uri (calls (kept_before terms on)))))
        (first_from (text_at (asked n uri) terms) on hs)) last
    one_answer named later (Some w) b is =
        let bad = first_after terms before h clean ∙ is in
        offended w bad b ∙ ap missing_answer (named w
        (ap (λ x. first_no terms (heard_events x)) (sym (append_assoc before (h ∷ []) hs))
        ∙ ap (first_no terms) (events-join on hs)
        ∙ first_of-more (no_at terms) (heard_events on) (heard_events hs) w bad))
    one_answer named later None true is =
        let none = first_after terms before h clean ∙ is in
        ap (λ o. if is_some o then missing_answer v
        else held_answer (held terms uri (calls (heard_events on)))) none
        ∙ ap (λ es. held_answer (held terms uri (calls es)))
        (sym (all_are_kept terms (heard_events on) none))
    one_answer named later None false is = later is

  -- the first event that has an answer, or the end, gives it
  answer_from : (before hs : List Heard) → first_no terms (heard_events before) ≡ None
      → ((w : Verdict) → first_no terms (heard_events (before ++ hs)) ≡ Some w → v ≡ w)
      → (first_no terms (heard_events (before ++ hs)) ≡ None → missing_answer v ≡ last)
      → text_answer terms uri v (up_to_editor n (heard_events before) (heard_events hs))
      ≡ unwrap_or (first_from (text_at (asked n uri) terms) before hs) last
  answer_from before [] clean named ended =
      ended (ap (λ x. first_no terms (heard_events x)) (append-nil before) ∙ clean)
  answer_from before (h ∷ hs) clean named ended =
      let all = append_assoc before (h ∷ []) hs in
      ap (λ es. text_answer terms uri v (if is_reached n before h then Some es
      else up_to_editor n es (heard_events hs))) (sym (events-push before h))
      ∙ one_answer before hs h clean named (λ none. answer_from (before ++ h ∷ []) hs
      (first_after terms before h clean ∙ none)
      (λ w first. named w (ap (λ x. first_no terms (heard_events x)) (sym all) ∙ first))
      (λ first. ended (ap (λ x. first_no terms (heard_events x)) (sym all) ∙ first)))
      (no_of terms before h) (is_reached n before h) refl

-- **the answer on it**
pub text_told : (n : ℕ) (uri : List ℕ) (limits : Bounds) (log : List ℕ) (format : Option Format)
    (records : List Record) (heard : List Heard) (tail : Tail)
    → IsTold limits log format records heard tail → AnswersText limits log n uri
    (unwrap_or (first_of (text_at (asked n uri) (log_terms limits format)) heard)
    (text_behind (log_terms limits format) heard tail))
unfolding told_verdict
text_told n uri limits log format records heard tail told =
    let terms = log_terms limits format in
    let events = heard_events heard in
    let end = ending tail.fault tail.rests.editor tail.rests.server in
    let by_first : Option Verdict → Verdict = λ o. unwrap_or (option_or o
    (option_or (bad_log_of end.log_fault) (rest_of events end.editor_rest end.server_rest)))
    (yes (summary terms events)) in (
      verdict terms events end,
      told_verdict limits log format records heard tail told,
      sym (answer_from n uri terms (verdict terms events end) (end_answer (bad_log_of tail.fault))
          [] heard refl (λ w first. ap by_first first)
          (λ none. ap missing_answer (ap by_first none)
          ∙ behind terms events end.log_fault end.editor_rest end.server_rest)),
    )

-- ---- the text that was written is the answer

pub answer_is : (answer : TextAnswer) (outcome : Outcome) (text : String Global) → EndsAs answer outcome
    → string_bytes text ≡ written_of answer → given_as outcome (string_bytes text) ≡ answer
answer_is (text_is t) outcome text ends is =
    ap (λ (o : Outcome). given_as o (string_bytes text)) ends
    ∙ ap text_is (sym (chars_from_encodes t (string_bytes text) (IsUtf8-string_bytes text) (sym is)))
answer_is (refused v) outcome text (given, ends, named) is =
    ap (λ (o : Outcome). given_as o (string_bytes text)) ends ∙ ap refused named
answer_is _ outcome text ends is = ap (λ (o : Outcome). given_as o (string_bytes text)) ends

module _ (limits : Bounds) (start now old new : Told) (Answers : List ℕ → TextAnswer → Type 0) where
  pub text_found : (outcome : Outcome) (bytes : List ℕ) (given : code.TextAnswer)
      → WritesText limits (ports start now old new) Answers (Ok outcome) → old.bytes ≡ Some []
      → new.bytes ≡ Some bytes
      → ((answer : TextAnswer) → EndsAs answer outcome → bytes ≡ written_of answer
      → answer_view given ≡ answer)
      → FindsText limits start now Answers (Ok given)
  text_found outcome bytes given w none all is =
      let (out, took, due) = w.written in
      let written : bytes ≡ out =
      subst (λ (o : Option (List ℕ)). Appends o (Some bytes) out) none
      (subst (λ (o : Option (List ℕ)). Appends old.bytes o out) all took.bytes) in (
        read_map limits start now (λ log. IsText Answers log out outcome)
            (λ log. Answers log (answer_view given))
            (λ log t. subst (Answers log) (sym (is t.answer t.ends (written ∙ t.written)))
            t.answers) due,
        w.counts.source_failures,
      )

  -- memory was refused for it
  pub text_refused : (outcome : Outcome)
      → WritesText limits (ports start now old new) Answers (Ok outcome)
      → FindsText limits start now Answers (Err faults.Memory)
  text_refused outcome w = record {
    of_read = read_map limits start now (λ log. IsText Answers log w.written.0 outcome)
        (λ log. Unit {0}) (λ log t. tt) w.written.2;
    failures = w.counts.source_failures;
    unwritten = λ same. absurd (cc same);
  }

  pub text_broke : (fault given : RunFault)
      → WritesText limits (ports start now old new) Answers (Err fault)
      → ((n : ℕ) → failures_after fault n ≡ failures_after given n)
      → (given ≡ faults.Write → ⊥) → FindsText limits start now Answers (Err given)
  text_broke fault given w same other = record {
    of_read = within w.counts.limit;
    failures = w.counts.source_failures ∙ same start.failures;
    unwritten = other;
  } where
    within : GaveAtMost (limits.log + 1) start now → OfRead limits start now (λ log. Unit {0})
    within (bytes, gave, most) = record {
      bytes = bytes;
      ended = false;
      read = record { gave = gave; no_further = most; end = λ met. absurd (cc met) };
      holds = λ stream goes. tt;
    }
