-- What `explain --all` writes beside what is listed of a log, and what it answers.
use Rattle.std.specs.Prelude.{map, filter, not, if◌then◌else◌, option_map}
use Rattle.std.specs.List.{AllZip, cons_option, flat_map}
use Rattle.std.proofs.Common.{◌≡◌, ℕ, Bool, true, false, List, [], ◌∷◌, ◌++◌, Option, Some, None, inl}
use Rattle.std.proofs.Common.{inr, refl, sym, ap, ◌∙◌, append_assoc, append-nil}
use Rattle.std.proofs.lemmas.List.{map-append}
use Rattle.std.proofs.lemmas.List.Elements.{filter-append}
use Rattle.std.proofs.lemmas.List.Concat.{flat_map-append}
use Rattle.lsp_trail.specs.Common.{bad_log_of, breach, by_itself, Completeness, each_from, ending}
use Rattle.lsp_trail.specs.Common.{events_of, first_no, first_verdict, Heard, heard_events}
use Rattle.lsp_trail.specs.Common.{log_terms, notes_of, Numbered, numbered, Offence, offence_at}
use Rattle.lsp_trail.specs.Common.{offence_by, offences, Outcome, Rests, rule_at, summary, Tail}
use Rattle.lsp_trail.specs.Common.{Terms, Verdict}
use Rattle.lsp_replay.specs.RunLaws.{SaysOn}
use Rattle.lsp_survey.specs.SessionEnds.{all_found, ends_of}
use Rattle.lsp_survey.proofs.SurveyRuns.{all_answers}
use Rattle.lsp_survey.proofs.SurveySteps.{survey_told}
use Rattle.lsp_verdict.specs.Offences.{Noted}
use Rattle.lsp_verdict.specs.Survey.{ends_listed, found_in, shown_of}
use Rattle.lsp_verdict.specs.Verdict.{Ending}
use Rattle.lsp_verdict.proofs.LookBackLemmas.{cons_append}
use Rattle.lsp_verdict.proofs.Offences.Offending.{first_listed, nothing_listed}
use Rattle.lsp_verdict.proofs.Offences.Surveying.{survey_agrees}
use Rattle.lsp_explain.specs.ExplainLaws.{AllAnswersVerdict, CausesAreExplained, FirstIsVerdict}
use Rattle.lsp_explain.specs.ExplainLaws.{NotedAnswersVerdict}
use Rattle.lsp_explain.specs.ExplainRuns.{all_end, all_run, ends_said}
use Rattle.lsp_explain.specs.NotedRun.{noted_run}
use Rattle.lsp_origins.specs.Explained.{Explained, Explains, all_closing}
use Rattle.lsp_origins.specs.Explained.{cause_lines, end_explained, is_cause, flaw_at}

pub all_answer : AllAnswersVerdict
all_answer completeness = all_answers completeness (all_run completeness) (λ terms before h. refl)
    (λ terms heard tail outcome ends. ends)

pub noted_answer : NotedAnswersVerdict
noted_answer completeness = all_answers completeness (noted_run completeness)
    (λ terms before h. refl) (λ terms heard tail outcome ends. ends)

-- ---- what is explained of an event, and of the end

abbrev nos : List Offence → List Verdict
nos found = map (λ (o : Offence). o.no) (shown_of false found)

abbrev said_nos : List Explained → List Verdict
said_nos explained = map (λ (e : Explained). e.no) explained

nos_append : (xs ys : List Offence) → nos (xs ++ ys) ≡ nos xs ++ nos ys
nos_append xs ys =
    ap (map (λ (o : Offence). o.no)) (filter-append (λ (o : Offence). not o.follows) xs ys)
    ∙ map-append (λ (o : Offence). o.no) (shown_of false xs) (shown_of false ys)

ends_nos : (rests : Rests) (sent : List Numbered) (vs : List Verdict)
    → said_nos (map (end_explained rests sent) vs) ≡ nos (map by_itself vs)
ends_nos rests sent [] = refl
ends_nos rests sent (v ∷ vs) = ap (λ (w : List Verdict). v ∷ w) (ends_nos rests sent vs)

module _ (rests : Rests) (terms : Terms) (before : List Heard) (h : Heard) where
  -- the offence, where it follows from none
  cause_no : (rule : ℕ) (cause : Bool) (said : List Explained)
      → AllZip (Explains rests terms) (if cause then breach before h rule ∷ [] else []) said
      → said_nos said ≡ map (λ (o : Offence). o.no)
      (if cause then offence_by terms (notes_of before) h.note rule ∷ [] else [])
  cause_no rule true (e ∷ []) all = ap (λ (v : Verdict). v ∷ []) all.0.no_is
  cause_no rule true (e ∷ d ∷ said) all = absurd all.1
  cause_no rule false [] all = refl
  cause_no rule _ _ all = absurd all

  causes_nos : (o : Option ℕ) (said : List Explained) → AllZip (Explains rests terms)
      (filter (is_cause terms) (cons_option (option_map (breach before h) o) [])) said
      → said_nos said
      ≡ nos (cons_option (option_map (offence_by terms (notes_of before) h.note) o) [])
  causes_nos None [] all = refl
  causes_nos None (e ∷ said) all = absurd all
  causes_nos (Some rule) said all =
      cause_no rule (is_cause terms (breach before h rule)) said all

-- ---- what is said of a log

abbrev end_of : Completeness → Terms → Tail → List Heard → List ℕ
end_of completeness terms tail heard = all_end terms heard tail.rests tail.fault
    (flaw_at tail.place tail.line tail.fault) (ends_of completeness terms heard tail)

-- the offences of these events that follow from none are explained, and then comes what is said of
-- the end
record AreSaid (completeness : Completeness) (terms : Terms) (tail : Tail) (before hs : List Heard)
    (out : List ℕ) : Type 0 where
  pub said : List Explained
  pub are : said_nos said
      ≡ nos (each_from (offence_at terms) (notes_of before) (notes_of hs))
  pub is : out ≡ flat_map cause_lines said ++ end_of completeness terms tail (before ++ hs)

said_causes : (completeness : Completeness) (terms : Terms) (tail : Tail) (before hs : List Heard)
    (out : List ℕ) (ended : Option Outcome)
    → SaysOn (all_run completeness) terms tail before hs out ended
    → AreSaid completeness terms tail before hs out
said_causes completeness terms tail before [] out ended says = record {
  said = [];
  are = refl;
  is = says.0 ∙ ap (end_of completeness terms tail) (sym (append-nil before));
}
said_causes completeness terms tail before (h ∷ hs) out ended (inl p) = absurd (cc p.0)
said_causes completeness terms tail before (h ∷ hs) out ended
    (inr (goes, (first, left, is, own, more))) =
    let on = before ++ h ∷ [] in
    let rest = said_causes completeness terms tail on hs left ended more in
    let last = end_of completeness terms tail (on ++ hs) in
    let here = offence_at terms (notes_of before) h.note in
    let later = each_from (offence_at terms) (notes_of on) (notes_of hs) in
    record {
      said = own.0 ++ rest.said;
      are = map-append (λ (e : Explained). e.no) own.0 rest.said
          ∙ ap (λ w. w ++ said_nos rest.said) (causes_nos tail.rests terms before h
          (rule_at terms (events_of (notes_of before)) h.note.event) own.0 own.1)
          ∙ ap (λ w. nos (cons_option here []) ++ w) rest.are
          ∙ sym (nos_append (cons_option here []) later)
          ∙ ap nos (sym (cons_append here [] later))
          ∙ ap (λ ns. nos (cons_option here (each_from (offence_at terms) ns (notes_of hs))))
          (map-append (λ (x : Heard). x.note) before (h ∷ []));
      is = is ∙ ap (λ w. w ++ left) own.2
          ∙ ap (λ w. flat_map cause_lines own.0 ++ w) rest.is
          ∙ sym (append_assoc (flat_map cause_lines own.0) (flat_map cause_lines rest.said) last)
          ∙ ap (λ w. w ++ last) (sym (flat_map-append cause_lines own.0 rest.said))
          ∙ ap (λ xs. flat_map cause_lines (own.0 ++ rest.said) ++ end_of completeness terms tail xs)
          (append_assoc before (h ∷ []) hs);
    }

pub causes_are_explained : CausesAreExplained
causes_are_explained completeness limits log out ended p =
    let terms = log_terms limits p.format in
    let r = said_causes completeness terms p.tail [] p.heard out ended p.says in
    let ends = ends_of completeness terms p.heard p.tail in
    let others = ends_said terms p.heard p.tail.rests ends in
    let found = all_found terms p.heard ends in
    let bad = bad_log_of p.tail.fault in
    let flaw = flaw_at p.tail.place p.tail.line p.tail.fault in
    let s = summary terms (heard_events p.heard) in
    let closing = all_closing found bad flaw s in
    let of_events = offences terms (notes_of p.heard) in
    record {
      found = found;
      bad = bad;
      s = s;
      survey = survey_told completeness limits log p.format p.records p.heard p.tail p.told;
      explained = r.said ++ others;
      flaw = flaw;
      written = r.is
          ∙ sym (append_assoc (flat_map cause_lines r.said) (flat_map cause_lines others) closing)
          ∙ ap (λ w. w ++ closing) (sym (flat_map-append cause_lines r.said others));
      are = map-append (λ (e : Explained). e.no) r.said others
          ∙ ap (λ (w : List Verdict). w ++ said_nos others) r.are
          ∙ ap (λ (w : List Verdict). nos of_events ++ w)
          (ends_nos p.tail.rests (numbered terms (heard_events p.heard)) ends)
          ∙ sym (nos_append of_events (map by_itself ends));
    }

-- ---- the first

same_first : {A : Type 0} (x y : A) (xs ys : List A) → x ∷ xs ≡ y ∷ ys → x ≡ y
same_first x y xs ys e = cc e

-- what is listed first follows from none
first_follows_none : (completeness : Completeness) (terms : Terms) (notes : List Noted)
    (end : Ending) (o : Offence) (rest : List Offence)
    → found_in completeness terms notes end ≡ o ∷ rest → o.follows ≡ false
first_follows_none completeness terms notes end o rest is =
    by_offences (offences terms notes) refl is
  where
    ends : List Verdict
    ends = ends_listed completeness terms (events_of notes) end

    by_ends : (vs : List Verdict) → map by_itself vs ≡ o ∷ rest → o.follows ≡ false
    by_ends [] e = absurd cc
    by_ends (v ∷ vs) e = sym (ap (λ (x : Offence). x.follows)
        (same_first (by_itself v) o (map by_itself vs) rest e))

    by_first : (p : Offence) (ps : List Offence) → offences terms notes ≡ p ∷ ps
        → (v : Option Verdict) → first_no terms (events_of notes) ≡ v → p.follows ≡ false
    by_first p ps listed None none =
        let nothing : p ∷ ps ≡ [] = sym listed ∙ (nothing_listed terms notes).1 none in absurd cc
    by_first p ps listed (Some v) some =
        let first = first_listed terms notes v some in
        ap (λ (x : Offence). x.follows) (same_first p (record {
          no = v;
          follows = false;
        }) ps first.0 (sym listed ∙ first.1))

    by_offences : (os : List Offence) → offences terms notes ≡ os
        → os ++ map by_itself ends ≡ o ∷ rest → o.follows ≡ false
    by_offences [] listed e = by_ends ends e
    by_offences (p ∷ ps) listed e =
        sym (ap (λ (x : Offence). x.follows) (same_first p o (ps ++ map by_itself ends) rest e))
        ∙ by_first p ps listed (first_no terms (events_of notes)) refl

shown_first : (o : Offence) (rest : List Offence) (b : Bool) → o.follows ≡ b → b ≡ false
    → shown_of false (o ∷ rest) ≡ o ∷ shown_of false rest
shown_first o rest true is none = absurd cc
shown_first o rest false is none =
    ap (λ (t : Bool). if not t then o ∷ shown_of false rest else shown_of false rest) is

pub first_is_verdict : FirstIsVerdict
first_is_verdict completeness limits sizes log out a e others v first is = by_found a.found refl
  where
    by_found : (found : List Offence) → a.found ≡ found → v ≡ e.no
    by_found [] at =
        let none : e.no ∷ said_nos others ≡ [] =
        ap said_nos (sym first) ∙ a.are ∙ ap nos at in absurd cc
    by_found (o ∷ rest) at =
        let free : o.follows ≡ false =
        first_follows_none completeness (log_terms limits a.survey.format) a.survey.notes
        (ending a.survey.log_fault a.survey.editor a.survey.server) o rest
        (sym a.survey.lists ∙ at) in
        let listed : e.no ∷ said_nos others ≡ o.no ∷ nos rest =
        ap said_nos (sym first) ∙ a.are ∙ ap nos at
        ∙ ap (map (λ (x : Offence). x.no)) (shown_first o rest o.follows refl free) in
        survey_agrees completeness limits sizes log a.found a.bad a.s v a.survey is
        ∙ ap (λ w. first_verdict w a.bad a.s) at
        ∙ sym (same_first e.no o.no (said_nos others) (nos rest) listed)
