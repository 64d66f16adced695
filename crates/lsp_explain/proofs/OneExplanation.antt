-- A log has one explanation, and one of all that is wrong with it, with the notes or without.
use Rattle.std.specs.Prelude.{filter, if◌then◌else◌, is_some, option_map}
use Rattle.std.specs.List.{AllZip, cons_option, flat_map}
use Rattle.std.proofs.Common.{◌≡◌, ℕ, Bool, true, false, List, [], ◌∷◌, ◌++◌, Option, Some, None, refl}
use Rattle.std.proofs.Common.{sym, ap, subst, ◌∙◌}
use Rattle.lsp_trail.specs.Common.{Breach, breach, Completeness, events_of, Heard, heard_events}
use Rattle.lsp_trail.specs.Common.{IsJudged, kept_of, no_by, notes_of, Outcome, Rests, rule_at}
use Rattle.lsp_trail.specs.Common.{rule_of, summary, Tail, Terms, Verdict}
use Rattle.lsp_facts.specs.Fact.{fact_lines, usual_of}
use Rattle.lsp_facts.proofs.OneFacts.{one_facts}
use Rattle.lsp_facts.proofs.SomeFacts.{some_facts}
use Rattle.lsp_replay.specs.RunLaws.{IsSameEnd}
use Rattle.lsp_replay.proofs.GivenVerdicts.{end_given, some_judged, some_no}
use Rattle.lsp_replay.proofs.Outputs.{IsExact, IsTotal, has_one, judged_same}
use Rattle.lsp_survey.specs.SessionEnds.{all_verdict, ends_of}
use Rattle.lsp_survey.proofs.SurveyRuns.{listed_given, some_listed}
use Rattle.lsp_notes.specs.AllNotes.{end_notes, notes_at, noticed_along}
use Rattle.lsp_explain.specs.ExplainLaws.{OneExplanation, OneExplanationOfAll, OneNotedExplanation}
use Rattle.lsp_explain.specs.ExplainRuns.{SaysCauses, SaysFirst, all_end, all_run, cause_at}
use Rattle.lsp_explain.specs.ExplainRuns.{end_explanation, end_verdict, explain_run, first_lines}
use Rattle.lsp_explain.specs.NotedRun.{SaysMore, noted_run, noted_verdict}
use Rattle.lsp_origins.specs.Explained.{Explained, Explains, cause_lines}
use Rattle.lsp_origins.specs.Explained.{event_of, is_cause, flaw_at}
use Rattle.lsp_origins.specs.Traced.{earlier_at, traced}
use Rattle.lsp_trail.specs.Breaches.{breach_at}

-- ---- an event that offends

module _ (rests : Rests) (terms : Terms) where
  some_told : (b : Breach)
      → rule_at terms (events_of (notes_of b.before)) b.here.note.event ≡ Some b.rule
      → (e : Explained) × Explains rests terms b e
  some_told b offends =
      let before = events_of (notes_of b.before) in
      let earlier = earlier_at terms before b.here.note.event in
      let plain = some_facts terms (kept_of terms before) b.rule earlier rests before b.here.raw
      b.here.note.event offends in
      let own : Explained = record {
        no = no_by before b.here.note.event b.rule;
        event = event_of (no_by before b.here.note.event b.rule) b.here.raw;
        facts = plain.0 ++ traced terms before b.here.note.event b.rule;
        usually = usual_of (no_by before b.here.note.event b.rule);
      } in (
        own,
        record {
          no_is = refl;
          event_is = refl;
          facts_are = (plain.0, plain.1, refl);
          usually_is = refl;
        },
      )

  one_told : (b : Breach) (d e : Explained) → Explains rests terms b d → Explains rests terms b e
      → d ≡ e
  one_told b d e p q =
      let before = events_of (notes_of b.before) in
      let facts : d.facts ≡ e.facts =
      p.facts_are.2
      ∙ ap (λ l. l ++ traced terms before b.here.note.event b.rule)
      (one_facts terms (kept_of terms before) b.rule (earlier_at terms before b.here.note.event)
      p.facts_are.0 q.facts_are.0 rests before b.here.raw b.here.note.event p.facts_are.1
      q.facts_are.1)
      ∙ sym q.facts_are.2 in
      let no : d.no ≡ e.no = p.no_is ∙ sym q.no_is in
      let event : d.event ≡ e.event =
      p.event_is ∙ ap (λ v. event_of v b.here.raw) no ∙ sym q.event_is in
      let usually : d.usually ≡ e.usually =
      p.usually_is ∙ ap usual_of no ∙ sym q.usually_is in
      λ i. record { no = no i; event = event i; facts = facts i; usually = usually i }

  one_each : (bs : List Breach) (ds es : List Explained) → AllZip (Explains rests terms) bs ds
      → AllZip (Explains rests terms) bs es → ds ≡ es
  one_each [] [] [] p q = refl
  one_each [] (d ∷ ds) es p q = absurd p
  one_each (b ∷ bs) [] es p q = absurd p
  one_each (b ∷ bs) (d ∷ ds) (e ∷ es) p q =
      ap (λ x. x ∷ ds) (one_told b d e p.0 q.0) ∙ ap (λ l. e ∷ l) (one_each bs ds es p.1 q.1)
  one_each _ _ _ p q = absurd q

  -- ---- what is said of it

  one_first : (o : Option Breach) (a b : List ℕ) → SaysFirst rests terms o a
      → SaysFirst rests terms o b → a ≡ b
  one_first None a b p q = p ∙ sym q
  one_first (Some x) a b (d, told, is) (e, also, at) =
      is ∙ ap (first_lines terms x) (one_told x d e told also) ∙ sym at

  some_first : (before : List Heard) (h : Heard) (o : Option ℕ) → rule_of terms before h ≡ o
      → (out : List ℕ) × SaysFirst rests terms (option_map (breach before h) o) out
  some_first before h None none = ([], refl)
  some_first before h (Some rule) offends =
      let e = some_told (breach before h rule) offends in
      (first_lines terms (breach before h rule) e.0, (e.0, e.1, refl))

  one_causes : (bs : List Breach) (a b : List ℕ) → SaysCauses rests terms bs a
      → SaysCauses rests terms bs b → a ≡ b
  one_causes bs a b (ds, told, is) (es, also, at) =
      is ∙ ap (flat_map cause_lines) (one_each bs ds es told also) ∙ sym at

  some_causes : (before : List Heard) (h : Heard) (o : Option ℕ) → rule_of terms before h ≡ o
      → (out : List ℕ) × SaysCauses rests terms
      (filter (is_cause terms) (cons_option (option_map (breach before h) o) [])) out
  some_causes before h None none = ([], ([], tt, refl))
  some_causes before h (Some rule) offends =
      by_cause (is_cause terms (breach before h rule)) (some_told (breach before h rule) offends)
    where
      by_cause : (cause : Bool)
          → (e : Explained) × Explains rests terms (breach before h rule) e
          → (out : List ℕ) × SaysCauses rests terms
          (if cause then breach before h rule ∷ [] else []) out
      by_cause true e = (flat_map cause_lines (e.0 ∷ []), (e.0 ∷ [], (e.1, tt), refl))
      by_cause false e = ([], ([], tt, refl))

-- ---- the runs

module _ (completeness : Completeness) where
  one_end : (terms : Terms) (before : List Heard) (h : Heard) (a b : Outcome)
      → (explain_run completeness).ends terms before h a
      → (explain_run completeness).ends terms before h b → IsSameEnd a b
  one_end terms before h a b (v, is, judged) (w, at, also) =
      let same : v ≡ w = cc (sym is ∙ at) in
      judged_same w a b (subst (λ (x : Verdict). IsJudged x a) same judged) also

pub one_explanation : OneExplanation
one_explanation completeness = has_one (explain_run completeness) (record {
  says = λ terms rests before h a b p q.
      one_first rests terms (breach_at terms before h) a b p q;
  closes = λ terms heard tail a b p q. p ∙ sym q;
  ends = λ terms before h a b p q. one_end completeness terms before h a b p q;
  finishes = λ terms heard tail a b p q. judged_same
      (end_verdict terms heard tail.fault (ends_of completeness terms heard tail)) a b p q;
}) (record {
  says = λ terms rests before h. some_first rests terms before h (rule_of terms before h) refl;
  closes = λ terms heard tail. (
    end_explanation terms heard tail.rests tail.fault
        (flaw_at tail.place tail.line tail.fault) (ends_of completeness terms heard tail),
    refl,
  );
  ends = λ terms before h stops.
      some_no (heard_events before) h.note.event (rule_of terms before h)
      (λ none. absurd (cc (sym stops ∙ ap is_some none)));
  finishes = λ terms heard tail fits.
      let ends = ends_of completeness terms heard tail in
      some_judged (end_verdict terms heard tail.fault ends)
      (end_given ends tail.fault (summary terms (heard_events heard))
      (listed_given completeness terms heard tail) fits);
})

module _ (completeness : Completeness) where
  all_exact : IsExact (all_run completeness)
  all_exact = record {
    says = λ terms rests before h a b p q.
        one_causes rests terms (cause_at terms before h) a b p q;
    closes = λ terms heard tail a b p q. p ∙ sym q;
    ends = λ terms before h a b p q. absurd p;
    finishes = λ terms heard tail a b p q. judged_same
        (all_verdict terms heard tail.fault (ends_of completeness terms heard tail)) a b p q;
  }

  all_total : IsTotal (all_run completeness)
  all_total = record {
    says = λ terms rests before h. some_causes rests terms before h (rule_of terms before h) refl;
    closes = λ terms heard tail. (
      all_end terms heard tail.rests tail.fault (flaw_at tail.place tail.line tail.fault)
          (ends_of completeness terms heard tail),
      refl,
    );
    ends = λ terms before h stops. absurd (cc stops);
    finishes = some_listed completeness;
  }

pub one_explanation_of_all : OneExplanationOfAll
one_explanation_of_all completeness =
    has_one (all_run completeness) (all_exact completeness) (all_total completeness)

-- ---- with the notes

abbrev end_lines : Completeness → Terms → List Heard → Tail → List ℕ
end_lines completeness terms heard tail =
    end_notes (noted_verdict completeness terms heard tail) (noticed_along terms heard)

one_more : (Says : List ℕ → Type 0) (more a b : List ℕ)
    → ((x y : List ℕ) → Says x → Says y → x ≡ y) → SaysMore Says more a → SaysMore Says more b
    → a ≡ b
one_more Says more a b one (x, says, is) (y, also, at) =
    is ∙ ap (λ w. w ++ more) (one x y says also) ∙ sym at

some_more : (Says : List ℕ → Type 0) (more : List ℕ) → (x : List ℕ) × Says x
    → (out : List ℕ) × SaysMore Says more out
some_more Says more (x, says) = (x ++ more, (x, says, refl))

pub one_noted_explanation : OneNotedExplanation
one_noted_explanation completeness = has_one (noted_run completeness) (record {
  says = λ terms rests before h a b p q. one_more ((all_run completeness).says terms rests before h)
      (fact_lines (notes_at terms before h)) a b
      ((all_exact completeness).says terms rests before h) p q;
  closes = λ terms heard tail a b p q. one_more ((all_run completeness).closes terms heard tail)
      (end_lines completeness terms heard tail) a b
      ((all_exact completeness).closes terms heard tail) p q;
  ends = λ terms before h a b p q. absurd p;
  finishes = (all_exact completeness).finishes;
}) (record {
  says = λ terms rests before h. some_more ((all_run completeness).says terms rests before h)
      (fact_lines (notes_at terms before h)) ((all_total completeness).says terms rests before h);
  closes = λ terms heard tail. some_more ((all_run completeness).closes terms heard tail)
      (end_lines completeness terms heard tail) ((all_total completeness).closes terms heard tail);
  ends = λ terms before h stops. absurd (cc stops);
  finishes = (all_total completeness).finishes;
})
