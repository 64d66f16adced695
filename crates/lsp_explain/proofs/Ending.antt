-- How a log ends whose reader tells it, and what is said of that.
use Rattle.std.specs.Prelude.{map, take, slice_get, not, option_map, option_to_list}
use Rattle.std.specs.List.{flat_map}
use Rattle.std.proofs.Common.{◌≡◌, ◌⊎◌, ℕ, ◌+◌, Bool, true, false, ◌&&◌, IsSome, List, [], ◌∷◌}
use Rattle.std.proofs.Common.{◌++◌, Option, Some, None, inl, inr, refl, sym, ap, ◌∙◌, append_assoc}
use Rattle.std.proofs.Common.{append-nil, subst, arith, length, length-append, ◌<◌, ◌^◌}
use Rattle.std.proofs.lemmas.List.{length-map, map-append}
use Rattle.std.proofs.lemmas.List.Concat.{flat_map-append}
use Rattle.lsp_trail.specs.Common.{bad_log_of, by_itself, Closes, Completeness, decoder_of, Editor}
use Rattle.lsp_trail.specs.Common.{End, ending, Event, first_verdict, flaw_of, Heard, heard_events}
use Rattle.lsp_trail.specs.Common.{Ignored, Judged, kept_of, LogEvents, notes_of, Numbered}
use Rattle.lsp_trail.specs.Common.{numbered, Offence, offence_at, offence_view, offences, report}
use Rattle.lsp_trail.specs.Common.{Rests, sent_in, Server, Summary, summary, Tail, Terms, Verdict}
use Rattle.lsp_trail.specs.Common.{verdict_view}
use Rattle.lsp_log.specs.Reader.{shown_by}
use Rattle.lsp_log.specs.declared.fault.LogCode.{LogCode}
use Rattle.lsp_replay.specs.Streams as streams
use Rattle.lsp_replay.specs.Telling.{IsEnd}
use Rattle.lsp_session.specs.Handshake.{was_sent}
use Rattle.lsp_session.specs.Incomplete.{incomplete, is_any_open}
use Rattle.lsp_session.specs.Negotiation.{first_row}
use Rattle.lsp_session.specs.Requests.{open_requests}
use Rattle.lsp_session.specs.Sent.{is_exit}
use Rattle.lsp_survey.specs.Reported.{count_line, verdict_lines}
use Rattle.lsp_survey.proofs.SessionEnds.{ends_few, given_few, ends_fit}
use Rattle.lsp_survey.specs.SessionEnds.{all_found, ends_held, ends_of}
use Rattle.lsp_verdict.specs.Offences.{has_broken}
use Rattle.lsp_verdict.specs.Outcome.{is_rest}
use Rattle.lsp_verdict.specs.Survey.{ends_inside, ends_listed, first_ends}
use Rattle.lsp_verdict.specs.Survey.{lacks_listed, rests_listed}
use Rattle.lsp_verdict.specs.Verdict.{no_next}
use Rattle.lsp_verdict.specs.declared.completeness.Completeness.TheVariants.{Required}
use Rattle.lsp_verdict.specs.declared.offence.Offence as code_offence
use Rattle.lsp_verdict.specs.declared.verdict.Verdict as code
use Rattle.lsp_verdict.specs.declared.verdict.Who.TheVariants as who
use Rattle.lsp_verdict.proofs.Finding.{map_one}
use Rattle.lsp_facts.specs.Fact.{Fact}
use Rattle.lsp_facts.specs.EventFacts.{flaw_facts}
use Rattle.lsp_explain.specs.ExplainRuns.{all_run, end_verdict, ends_said, explain_run}
use Rattle.lsp_origins.specs.Explained.{all_closing, cause_lines, Explained, end_explained}
use Rattle.lsp_origins.specs.Explained.{explanation, flaw_lines, said_of}
use Rattle.lsp_origins.specs.Explained.{flaw_held, rests_held, flaw_at}
use Rattle.lsp_notes.specs.Notes.{note_lines, notes_by, noticed_by}

-- ---- what is listed of the end says nothing of a side whose frames have a fault

and_not : (a b : Bool) → (a && not b) ≡ true → b ≡ false
and_not a false e = refl
and_not false true e = absurd cc
and_not true true e = absurd cc

lack_by : (a b : Bool) (o : Option ℕ) → o ≡ first_row ((a, Some 303) ∷ (b, Some 407) ∷ [])
    → (o ≡ None) ⊎ ((o ≡ Some 303) ⊎ (o ≡ Some 407))
lack_by true b o is = inr (inl is)
lack_by false true o is = inr (inr is)
lack_by false false o is = inl is

module _ (rests held : Rests) (sent : List Numbered) (events : List Event) where
  abbrev Alike : List Verdict → Type 0
  Alike vs = map (end_explained held sent) vs ≡ map (end_explained rests sent) vs

  abbrev Lacks : Option ℕ → Type 0
  Lacks o = Alike (option_to_list (option_map (λ rule. no_next rule who.Editor events) o))

  lacks_by : (o : Option ℕ) → (o ≡ None) ⊎ ((o ≡ Some 303) ⊎ (o ≡ Some 407)) → Lacks o
  lacks_by o (inl is) = subst Lacks (sym is) refl
  lacks_by o (inr (inl is)) = subst Lacks (sym is) refl
  lacks_by o (inr (inr is)) = subst Lacks (sym is) refl

  lacks_alike : (completeness : Completeness) (kept_events : List Event)
      → Alike (lacks_listed completeness events kept_events)
  lacks_alike Ignored kept_events = refl
  lacks_alike Required kept_events =
      let sents = sent_in kept_events in
      lacks_by (incomplete sents)
      (lack_by (is_any_open (open_requests Editor sents)) (not (was_sent is_exit sents))
      (incomplete sents) refl)

  one_editor : rests.editor ≡ held.editor
      → end_explained held sent (no_next 107 who.Editor events)
      ≡ end_explained rests sent (no_next 107 who.Editor events)
  one_editor same = ap (λ (w : List ℕ). end_explained (record held { editor = w }) sent
      (no_next 107 who.Editor events)) (sym same)

  one_server : rests.server ≡ held.server
      → end_explained held sent (no_next 107 who.Server events)
      ≡ end_explained rests sent (no_next 107 who.Server events)
  one_server same = ap (λ (w : List ℕ). end_explained (record held { server = w }) sent
      (no_next 107 who.Server events)) (sym same)

  rests_alike : (a b : Bool) (lacks : List Verdict) → (a ≡ true → rests.editor ≡ held.editor)
      → (b ≡ true → rests.server ≡ held.server) → Alike lacks
      → Alike (first_ends None (rests_listed events a b) lacks)
  rests_alike false false lacks of_editor of_server alike = alike
  rests_alike true false lacks of_editor of_server alike =
      ap (λ x. x ∷ []) (one_editor (of_editor refl))
  rests_alike false true lacks of_editor of_server alike =
      ap (λ x. x ∷ []) (one_server (of_server refl))
  rests_alike true true lacks of_editor of_server alike =
      ap (λ x. x ∷ end_explained held sent (no_next 107 who.Server events) ∷ [])
      (one_editor (of_editor refl))
      ∙ ap (λ x. end_explained rests sent (no_next 107 who.Editor events) ∷ x ∷ [])
      (one_server (of_server refl))

  pub ends_alike : (completeness : Completeness) (terms : Terms) (flaw : Option (ℕ × LogCode))
      → (has_broken Editor events ≡ false → rests.editor ≡ held.editor)
      → (has_broken Server events ≡ false → rests.server ≡ held.server)
      → Alike (ends_listed completeness terms events (ending flaw rests.editor rests.server))
  ends_alike completeness terms (Some flaw) of_editor of_server = refl
  ends_alike completeness terms None of_editor of_server =
      rests_alike (ends_inside Editor events (is_rest rests.editor))
      (ends_inside Server events (is_rest rests.server))
      (lacks_listed completeness events (kept_of terms events))
      (λ inside. of_editor (and_not (is_rest rests.editor) (has_broken Editor events) inside))
      (λ inside. of_server (and_not (is_rest rests.server) (has_broken Server events) inside))
      (lacks_alike completeness (kept_of terms events))

-- ---- the end that fits

module _ (completeness : Completeness) (terms : Terms) (heard : List Heard) (e : LogEvents)
    (end : End) where
  abbrev all : List Event
  all = heard_events heard

  abbrev told : List Verdict
  told = ends_held completeness terms heard e end

  module _ (tail : Tail) (fits : IsEnd e end heard tail) where
    abbrev due : List Verdict
    due = ends_of completeness terms heard tail

    abbrev due_flaw : List Fact
    due_flaw = flaw_at tail.place tail.line tail.fault

    said_fit : ends_said terms heard (rests_held e) told ≡ ends_said terms heard tail.rests due
    said_fit =
        ap (ends_said terms heard (rests_held e)) (ends_fit completeness terms heard e end tail fits)
        ∙ ends_alike tail.rests (rests_held e) (numbered terms all) all completeness terms tail.fault
        (λ whole. sym (fits.rests Editor whole)) (λ whole. sym (fits.rests Server whole))

    flaw_fit : flaw_held e end ≡ due_flaw
    flaw_fit =
        ap (flaw_at e.log.place (shown_by e.log)) (sym fits.fault) ∙ by_fault tail.fault fits.lies
      where
        by_fault : (f : Option (ℕ × LogCode))
            → (IsSome f → (e.log.place ≡ tail.place) × (shown_by e.log ≡ tail.line))
            → flaw_at e.log.place (shown_by e.log) f ≡ flaw_at tail.place tail.line f
        by_fault None lies = refl
        by_fault (Some (number, code)) lies =
            let at = lies refl in
            ap (λ n. flaw_facts number n (shown_by e.log)) at.0 ∙ ap (flaw_facts number tail.place) at.1

  -- ---- `explain`

  -- what is said of the end, where these are its ends and this is said of them
  abbrev first_end : Option (ℕ × LogCode) → List Fact → List Verdict → List Explained → List ℕ
  first_end fault flaw ends said =
      explanation (map by_itself ends) (take 1 said) (bad_log_of fault) flaw (summary terms all)
      ++ note_lines (notes_by (end_verdict terms heard fault ends) (noticed_by terms all []))

  pub first_closes : (given : code.Verdict) (old mid new : List ℕ)
      → (mid ≡ old ++ explanation (map by_itself told)
      (take 1 (ends_said terms heard (rests_held e) told)) (bad_log_of (flaw_of end))
      (flaw_held e end) (summary terms all))
      × (verdict_view given ≡ end_verdict terms heard (flaw_of end) told)
      → new ≡ mid ++ note_lines (notes_by (verdict_view given) (noticed_by terms all []))
      → Closes (explain_run completeness) terms heard (IsEnd e end heard) old new (Judged given)
  first_closes given old mid new (first, verdict) last =
      let plain = explanation (map by_itself told)
      (take 1 (ends_said terms heard (rests_held e) told)) (bad_log_of (flaw_of end))
      (flaw_held e end) (summary terms all) in
      let notes : Verdict → List ℕ = λ v. note_lines (notes_by v (noticed_by terms all [])) in
      let v = end_verdict terms heard (flaw_of end) told in
      record {
        said = plain ++ notes v;
        added = last ∙ ap (λ w. w ++ notes (verdict_view given)) first
            ∙ append_assoc old plain (notes (verdict_view given))
            ∙ ap (λ (x : Verdict). old ++ (plain ++ notes x)) verdict;
        is = λ tail fits. (
          λ i. first_end ((sym fits.fault) i) (flaw_fit tail fits i)
              (ends_fit completeness terms heard e end tail fits i) (said_fit tail fits i),
          (
            given,
            refl,
            verdict ∙ (λ i. end_verdict terms heard ((sym fits.fault) i)
                (ends_fit completeness terms heard e end tail fits i)),
          ),
        );
      }

  -- ---- `explain --all`

  closing_said : (found : List Offence) (bad : Option Verdict) (flaw : List Fact) (s : Summary)
      → verdict_lines found bad s ++ (flaw_lines bad flaw ++ count_line found)
      ≡ all_closing found bad flaw s
  closing_said [] bad flaw s =
      ap (λ w. report (first_verdict [] bad s) ++ w) (append-nil (flaw_lines bad flaw))
  closing_said (o ∷ found) bad flaw s =
      sym (append_assoc (verdict_lines (o ∷ found) bad s) (flaw_lines bad flaw)
      (count_line (o ∷ found)))

  pub all_closes : (given : code.Verdict) (found : List Offence) (bad : Option Verdict)
      (old mid first next new : List ℕ) → found ≡ all_found terms heard told
      → bad ≡ bad_log_of (flaw_of end)
      → mid ≡ old ++ flat_map cause_lines (ends_said terms heard (rests_held e) told)
      → (first ≡ mid ++ verdict_lines found bad (summary terms all))
      × (verdict_view given ≡ first_verdict found bad (summary terms all))
      → next ≡ first ++ flaw_lines (bad_log_of (flaw_of end)) (flaw_held e end)
      → new ≡ next ++ count_line found
      → Closes (all_run completeness) terms heard (IsEnd e end heard) old new (Judged given)
  all_closes given found bad old mid first next new are bad_is ends_are (head, verdict) faulty last =
      let s = summary terms all in
      let said = flat_map cause_lines (ends_said terms heard (rests_held e) told) in
      let own = verdict_lines found bad s in
      let fault = flaw_lines (bad_log_of (flaw_of end)) (flaw_held e end) in
      let count = count_line found in
      record {
        said = said ++ (own ++ (fault ++ count));
        added = last ∙ ap (λ w. w ++ count) (faulty ∙ ap (λ w. w ++ fault)
            (head ∙ ap (λ w. w ++ own) ends_are))
            ∙ append_assoc ((old ++ said) ++ own) fault count
            ∙ append_assoc (old ++ said) own (fault ++ count)
            ∙ append_assoc old said (own ++ (fault ++ count));
        is = λ tail fits.
            let founds : found ≡ all_found terms heard (due tail fits) =
            are ∙ ap (all_found terms heard) (ends_fit completeness terms heard e end tail fits) in
            let bads : bad ≡ bad_log_of tail.fault = bad_is ∙ ap bad_log_of (sym fits.fault) in (
              ap (λ (b : Option Verdict). said ++ (own ++ (flaw_lines b (flaw_held e end)
                  ++ count))) (sym bad_is)
                  ∙ ap (λ w. said ++ w) (closing_said found bad (flaw_held e end) s)
                  ∙ (λ i. flat_map cause_lines (said_fit tail fits i)
                  ++ all_closing (founds i) (bads i) (flaw_fit tail fits i) s),
              (given, refl, verdict ∙ (λ i. first_verdict (founds i) (bads i) s)),
            );
      }

-- ---- what is listed

-- it is the ends
pub nos_are : (os : List code_offence.Offence) (vs : List Verdict)
    → map offence_view os ≡ map by_itself vs → map (λ o. (offence_view o).no) os ≡ vs
nos_are [] [] is = refl
nos_are (o ∷ os) (v ∷ vs) is =
    let first : offence_view o ≡ by_itself v = cc is in
    let later : map offence_view os ≡ map by_itself vs = cc is in
    λ i. ap (λ (x : Offence). x.no) first i ∷ nos_are os vs later i
nos_are _ _ is = absurd (cc is)

pub first_some : {A : Type 0} (xs : List A) (o : A) → Some o ≡ slice_get xs 0
    → (os : List A) × (xs ≡ o ∷ os)
first_some [] o is = absurd (cc is)
first_some (x ∷ xs) o is = (xs, ap (λ w. w ∷ xs) (cc is))

pub first_none : {A : Type 0} (xs : List A) → None ≡ slice_get xs 0 → xs ≡ []
first_none [] is = refl
first_none {A} (x ∷ xs) is = let same : None ≡ Some x = is in absurd (cc same)

-- all that is listed can be counted
pub few_found : (completeness : Completeness) (terms : Terms) (heard : List Heard) (e : LogEvents)
    (end : End) (listed : List Offence)
    → listed ≡ map by_itself (ends_held completeness terms heard e end) → length heard < 2 ^ 63
    → length (offences terms (notes_of heard) ++ listed) < 2 ^ 64
few_found completeness terms heard e end listed are few =
    let events = heard_events heard in
    omega (
      arith,
      few,
      length-append (offences terms (notes_of heard)) listed,
      ap length are,
      given_few (offence_at terms) [] (notes_of heard),
      length-map heard (λ (x : Heard). x.note),
      length-map (ends_held completeness terms heard e end) by_itself,
      ends_few (flaw_of end) events (kept_of terms events)
          (streams.ends_inside (decoder_of Editor e.streams))
          (streams.ends_inside (decoder_of Server e.streams)) completeness,
    )

-- ---- where no event offends

module _ (completeness : Completeness) (terms : Terms) (heard : List Heard) (e : LogEvents)
    (end : End) where
  abbrev ends : List Verdict
  ends = ends_held completeness terms heard e end

  abbrev s : Summary
  s = summary terms (heard_events heard)

  abbrev explains : List ℕ
  explains = explanation (map by_itself ends) (take 1 (ends_said terms heard (rests_held e) ends))
      (bad_log_of (flaw_of end)) (flaw_held e end) s

  -- nothing is listed of its end
  pub ending_none : (v : Verdict) (bad : Option Verdict) (old mid new : List ℕ)
      → [] ≡ map by_itself ends → bad ≡ bad_log_of (flaw_of end)
      → (mid ≡ old ++ verdict_lines [] bad s) × (v ≡ first_verdict [] bad s)
      → new ≡ mid ++ flaw_lines (bad_log_of (flaw_of end)) (flaw_held e end)
      → (new ≡ old ++ explains) × (v ≡ end_verdict terms heard (flaw_of end) ends)
  ending_none v bad old mid new none bad_is (said, verdict) faulty =
      let flaw = flaw_lines (bad_log_of (flaw_of end)) (flaw_held e end) in
      let empty = nos_are [] ends none in (
        faulty ∙ ap (λ w. w ++ flaw) said
            ∙ append_assoc old (report (first_verdict [] bad s)) flaw
            ∙ ap (λ (b : Option Verdict). old ++ (report (first_verdict [] b s) ++ flaw)) bad_is
            ∙ ap (λ (vs : List Verdict). old ++ explanation (map by_itself vs)
            (take 1 (ends_said terms heard (rests_held e) vs)) (bad_log_of (flaw_of end))
            (flaw_held e end) s) empty,
        verdict ∙ ap (λ (b : Option Verdict). first_verdict [] b s) bad_is
            ∙ ap (λ (vs : List Verdict). end_verdict terms heard (flaw_of end) vs) empty,
      )

  -- something is
  pub ending_some : (o : code_offence.Offence) (os : List code_offence.Offence) (own : Terms)
      (v : Verdict) (old new : List ℕ) → map offence_view (o ∷ os) ≡ map by_itself ends
      → own ≡ terms
      → new ≡ old ++ cause_lines (end_explained (rests_held e)
      (numbered own (heard_events heard)) (offence_view o).no)
      → v ≡ (offence_view o).no
      → (new ≡ old ++ explains) × (v ≡ end_verdict terms heard (flaw_of end) ends)
  ending_some o os own v old new listed same said verdict =
      let first = nos_are (o ∷ os) ends listed in
      let no = (offence_view o).no in
      let e_said : Explained = end_explained (rests_held e) (numbered terms (heard_events heard)) no
      in (
        said ∙ ap (λ (t : Terms). old ++ cause_lines (end_explained (rests_held e)
            (numbered t (heard_events heard)) no)) same
            ∙ ap (λ w. old ++ (report no ++ w)) (sym (append-nil (said_of e_said)))
            ∙ ap (λ (vs : List Verdict). old ++ explanation (map by_itself vs)
            (take 1 (ends_said terms heard (rests_held e) vs)) (bad_log_of (flaw_of end))
            (flaw_held e end) s) first,
        verdict ∙ ap (λ (vs : List Verdict). end_verdict terms heard (flaw_of end) vs) first,
      )

-- one more of what is listed is said
pub ends_more : (explained : Verdict → Explained) (xs : List code_offence.Offence) (i : ℕ)
    (x : code_offence.Offence) (old mid new : List ℕ) → slice_get xs i ≡ Some x
    → mid ≡ old ++ flat_map cause_lines
    (map explained (map (λ o. (offence_view o).no) (take i xs)))
    → new ≡ mid ++ cause_lines (explained (offence_view x).no)
    → new ≡ old ++ flat_map cause_lines
    (map explained (map (λ o. (offence_view o).no) (take (i + 1) xs)))
ends_more explained xs i x old mid new at said more =
    let no : code_offence.Offence → Verdict = λ o. (offence_view o).no in
    let here = map explained (map no (take i xs)) in
    let one = cause_lines (explained (no x)) in
    more ∙ ap (λ w. w ++ one) said
    ∙ append_assoc old (flat_map cause_lines here) one
    ∙ ap (λ w. old ++ (flat_map cause_lines here ++ w)) (sym (append-nil one))
    ∙ ap (λ w. old ++ w) (sym (flat_map-append cause_lines here (explained (no x) ∷ [])))
    ∙ ap (λ w. old ++ flat_map cause_lines w)
    (sym (map-append explained (map no (take i xs)) (no x ∷ [])))
    ∙ ap (λ vs. old ++ flat_map cause_lines (map explained vs)) (sym (map_one no xs i x at))

-- what is said of all that is listed
pub nos_listed : (own terms : Terms) (heard : List Heard) (rests : Rests)
    (xs : List code_offence.Offence) (ends : List Verdict) (old new : List ℕ) → own ≡ terms
    → map offence_view xs ≡ map by_itself ends
    → new ≡ old ++ flat_map cause_lines
    (ends_said own heard rests (map (λ o. (offence_view o).no) xs))
    → new ≡ old ++ flat_map cause_lines (ends_said terms heard rests ends)
nos_listed own terms heard rests xs ends old new same are said =
    said
    ∙ (λ i. old ++ flat_map cause_lines (ends_said (same i) heard rests (nos_are xs ends are i)))
