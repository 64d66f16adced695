-- All that is wrong with a log, against its verdict.
use Rattle.std.specs.Prelude.{map, ◌&&◌, not, option_map, option_to_list, unwrap_or}
use Rattle.std.specs.List.{AllZip}
use Rattle.std.specs.Option.{option_or}
use Rattle.std.proofs.Common.{◌≡◌, ◌⊎◌, ℕ, Bool, true, false, List, [], ◌∷◌, ◌++◌, Option, Some, None, inl, inr, refl, sym, ap, subst, ◌∙◌}
use Rattle.std.proofs.Math.Bool.{and-true}
use Rattle.lsp_frame.specs.Bounds.{Bounds, IsInRange}
use Rattle.lsp_rpc.specs.Message.{Message}
use Rattle.lsp_rpc.specs.Reading as reading
use Rattle.lsp_rpc.specs.Reading.{BreaksRule}
use Rattle.lsp_types.specs.declared.side.Side.{Side}
use Rattle.lsp_types.specs.declared.side.Side.TheVariants.{Editor, Server}
use Rattle.lsp_session.specs.Incomplete.{incomplete}
use Rattle.lsp_docs.specs.Documents.{Terms}
use Rattle.lsp_log.specs.Log.{Record}
use Rattle.lsp_log.specs.declared.fault.LogCode.{LogCode}
use Rattle.lsp_verdict.specs.Complete.{completed, IsVerdictBy}
use Rattle.lsp_verdict.specs.Event.{Event, message, fault, snapshot, sent_in}
use Rattle.lsp_verdict.specs.Laws.{SurveyAgrees, SomeSurvey, OneSurvey}
use Rattle.lsp_verdict.specs.Offences.{Noted, Offence, events_of, IsReading, IsMalformed}
use Rattle.lsp_verdict.specs.Offences.{IsNoted, IsNotedSession}
use Rattle.lsp_verdict.specs.Outcome.{ending, IsVerdict, log_terms}
use Rattle.lsp_verdict.specs.Placed.{Raw, content, broken, show, Placed, Reads, joined}
use Rattle.lsp_verdict.specs.Survey.{ends_inside, rests_listed, lacks_listed, first_ends, ends_listed, by_itself, found_in, first_verdict, IsSurvey}
use Rattle.lsp_verdict.specs.Verdict.{Verdict, yes, Summary, summary, Ending, bad_log_of, rest_of, first_no, no_by, no_next, verdict}
use Rattle.lsp_verdict.specs.declared.completeness.Completeness.{Completeness}
use Rattle.lsp_verdict.specs.declared.completeness.Completeness.TheVariants.{Ignored, Required}
use Rattle.lsp_verdict.specs.declared.verdict.Who.TheVariants as who
use Rattle.lsp_verdict.proofs.Below.{one_log, some_log, some_stream, one_message, not_both, message_or_rule}
use Rattle.lsp_verdict.proofs.Completing.{one_complete_verdict}
use Rattle.lsp_verdict.proofs.Logs.{one_verdict}
use Rattle.lsp_verdict.proofs.Offences.Offending.{all_are_kept, first_listed, no_frame_fault}
use Rattle.lsp_verdict.proofs.Offences.Offending.{nothing_listed}
use Rattle.lsp_verdict.proofs.OneEvent.{one_read, some_read}
use Rattle.lsp_verdict.proofs.Outcomes.{one_rest}
use Rattle.lsp_verdict.proofs.PlacedLemmas.{one_placed}
use Rattle.lsp_verdict.proofs.Sessions.{some_placed}
use Rattle.lsp_verdict.proofs.Verdicts.{names_first}

-- ---- the first that is listed

-- the verdict, where the session has to be complete or not
abbrev verdict_by : Completeness → List Event → Verdict → Verdict
verdict_by Ignored events v = v
verdict_by Required events v = completed events v

-- a No stays
no_stays : (c : Completeness) (events before : List Event) (e : Event) (rule : ℕ) → verdict_by c events (no_by before e rule) ≡ no_by before e rule
no_stays Ignored events before e rule = refl
no_stays Required events before e rule = refl

-- so a side's rest stands as it is
rest_stands : (terms : Terms) (side : Side) (events : List Event) (rest : Bool) → first_no terms events ≡ None → ends_inside side events rest ≡ rest
rest_stands terms side events rest none = ap (λ (b : Bool). rest && not b) (no_frame_fault terms side [] events none) ∙ and-true rest

lack_first : (o : Option Verdict) (s : Summary) → first_verdict (map by_itself (option_to_list o)) None s ≡ unwrap_or o (yes s)
lack_first None s = refl
lack_first (Some v) s = refl

-- the first of the ends
end_first : (c : Completeness) (events : List Event) (flaw : Option (ℕ × LogCode)) (editor server : Bool) (s : Summary)
    → first_verdict (map by_itself (first_ends flaw (rests_listed events editor server) (lacks_listed c events events))) (bad_log_of flaw) s
    ≡ verdict_by c events (unwrap_or (option_or (bad_log_of flaw) (rest_of events editor server)) (yes s))
end_first Ignored events None false true s = refl
end_first Required events None false false s = lack_first (option_map (λ rule. no_next rule who.Editor events) (incomplete (sent_in events))) s
end_first _ events _ _ _ s = refl

module _ (c : Completeness) (terms : Terms) (notes : List Noted) (end : Ending) where
  abbrev events : List Event
  events = events_of notes

  abbrev first : Verdict
  first = first_verdict (found_in c terms notes end) (bad_log_of end.log_fault) (summary terms events)

  by_offence : (v : Verdict) → first_no terms events ≡ Some v → first ≡ verdict_by c events (verdict terms events end)
  by_offence v some =
      let listed = first_listed terms notes v some in
      let named = names_first terms events v some in
      ap (λ (os : List Offence). first_verdict (os ++ map by_itself (ends_listed c terms events end)) (bad_log_of end.log_fault) (summary terms events)) listed.1
      ∙ named.is
      ∙ sym (no_stays c events named.before named.event named.rule)
      ∙ ap (verdict_by c events) (sym named.is)
      ∙ ap (verdict_by c events) (sym (ap (λ (o : Option Verdict). unwrap_or (option_or o (option_or (bad_log_of end.log_fault) (rest_of events end.editor_rest end.server_rest))) (yes (summary terms events))) some))

  by_end : first_no terms events ≡ None → first ≡ verdict_by c events (verdict terms events end)
  by_end none =
      ap (λ (os : List Offence). first_verdict (os ++ map by_itself (ends_listed c terms events end)) (bad_log_of end.log_fault) (summary terms events)) ((nothing_listed terms notes).1 none)
      ∙ (λ i. first_verdict (map by_itself (first_ends end.log_fault (rests_listed events (rest_stands terms Editor events end.editor_rest none i) (rest_stands terms Server events end.server_rest none i)) (lacks_listed c events (all_are_kept terms events none i)))) (bad_log_of end.log_fault) (summary terms events))
      ∙ end_first c events end.log_fault end.editor_rest end.server_rest (summary terms events)
      ∙ ap (verdict_by c events) (sym (ap (λ (o : Option Verdict). unwrap_or (option_or o (option_or (bad_log_of end.log_fault) (rest_of events end.editor_rest end.server_rest))) (yes (summary terms events))) none))

  by_first : (o : Option Verdict) → first_no terms events ≡ o → first ≡ verdict_by c events (verdict terms events end)
  by_first None none = by_end none
  by_first (Some v) some = by_offence v some

  -- the first that is listed is the verdict
  pub first_is : first ≡ verdict_by c events (verdict terms events end)
  first_is = by_first (first_no terms events) refl

-- ---- logs

read_notes : (raws : List Raw) (notes : List Noted) → AllZip IsNoted raws notes → AllZip Reads raws (events_of notes)
read_notes [] [] all = tt
read_notes (raw ∷ raws) (n ∷ notes) all = (all.0.0, read_notes raws notes all.1)
read_notes _ _ all = absurd all

module _ (limits : Bounds) (log : List ℕ) (c : Completeness) (found : List Offence) (bad : Option Verdict) (s : Summary) (p : IsSurvey c limits log found bad s) where
  abbrev plain : Verdict
  plain = verdict (log_terms limits p.format) (events_of p.notes) (ending p.log_fault p.editor p.server)

  plain_is : IsVerdict limits log plain
  plain_is = record {
    format = p.format;
    records = p.records;
    fault = p.log_fault;
    is_log = p.is_log;
    final = record {
      events = events_of p.notes;
      editor = p.editor;
      server = p.server;
      session = (p.session.0, p.session.1, read_notes p.session.0 p.notes p.session.2);
      editor_rest = p.editor_rest;
      server_rest = p.server_rest;
      says = refl;
    };
  }

  pub agrees : IsInRange limits → (v : Verdict) → IsVerdictBy c limits log v → v ≡ first_verdict found bad s
  unfolding plain_is
  agrees sizes v is =
      by_completeness c v is
      ∙ sym (first_is c (log_terms limits p.format) p.notes (ending p.log_fault p.editor p.server))
      ∙ ap (λ (os : List Offence). first_verdict os (bad_log_of p.log_fault) (summary (log_terms limits p.format) (events_of p.notes))) (sym p.lists)
      ∙ ap (λ (o : Option Verdict). first_verdict found o (summary (log_terms limits p.format) (events_of p.notes))) (sym p.bad_is)
      ∙ ap (first_verdict found bad) (sym p.comes_to)
    where
      by_completeness : (k : Completeness) (w : Verdict) → IsVerdictBy k limits log w → w ≡ verdict_by k (events_of p.notes) plain
      by_completeness Ignored w is = one_verdict limits sizes log w plain is plain_is
      by_completeness Required w is = one_complete_verdict limits sizes log w (completed (events_of p.notes) plain) is (record { plain = plain; whole = plain_is; says = refl })

pub survey_agrees : SurveyAgrees
survey_agrees c limits sizes log found bad s v p is = agrees limits log c found bad s p sizes v is

-- ---- what an event is noted as

by_rule : (bytes : List ℕ) → ((m : Message) × reading.Reads bytes m) ⊎ ((r : ℕ) × BreaksRule bytes r)
    → (o : Option Message) × IsReading bytes o
by_rule bytes (inl (m, reads)) = (Some m, reads)
by_rule bytes (inr (rule, breaks)) = (None, λ m reads. not_both bytes m rule reads breaks)

one_reading : (bytes : List ℕ) (a b : Option Message) → IsReading bytes a → IsReading bytes b → a ≡ b
one_reading bytes (Some m) (Some n) p q = ap (λ (x : Message). Some x) (one_message bytes m n p q)
one_reading bytes None None p q = refl
one_reading bytes (Some m) None p q = absurd (q m p)
one_reading bytes None (Some n) p q = absurd (p n q)

some_malformed : (raw : Raw) (e : Event) → (o : Option Message) × IsMalformed raw e o
some_malformed (content side bytes) (fault by rule) = by_rule bytes (message_or_rule bytes)
some_malformed _ _ = (None, refl)

pub one_malformed : (raw : Raw) (e : Event) (a b : Option Message) → IsMalformed raw e a
    → IsMalformed raw e b → a ≡ b
one_malformed (content side bytes) (fault by rule) a b p q = one_reading bytes a b p q
one_malformed _ _ a b p q = p ∙ sym q

pub some_note : (raw : Raw) → (n : Noted) × IsNoted raw n
some_note raw =
    let read = some_read raw in
    let malformed = some_malformed raw read.0 in
    (record { event = read.0; malformed = malformed.0 }, (read.1, malformed.1))

pub some_notes : (raws : List Raw) → (notes : List Noted) × AllZip IsNoted raws notes
some_notes [] = ([], tt)
some_notes (raw ∷ raws) =
    let first = some_note raw in
    let rest = some_notes raws in
    (first.0 ∷ rest.0, (first.1, rest.1))

abbrev noted : Event → Option Message → Noted
noted e malformed = record { event = e; malformed = malformed }

one_note : (raw : Raw) (m n : Noted) → IsNoted raw m → IsNoted raw n → m ≡ n
one_note raw m n p q =
    let event = one_read raw m.event n.event p.0 q.0 in
    ap (λ (e : Event). noted e m.malformed) event
    ∙ ap (noted n.event) (one_malformed raw n.event m.malformed n.malformed
    (subst (λ (e : Event). IsMalformed raw e m.malformed) event p.1) q.1)

pub one_notes : (raws : List Raw) (ms ns : List Noted) → AllZip IsNoted raws ms → AllZip IsNoted raws ns → ms ≡ ns
one_notes [] [] [] p q = refl
one_notes [] (m ∷ ms) ns p q = absurd p
one_notes (raw ∷ raws) [] ns p q = absurd p
one_notes (raw ∷ raws) (m ∷ ms) (n ∷ ns) p q = ap (λ w. w ∷ ms) (one_note raw m n p.0 q.0) ∙ ap (λ w. n ∷ w) (one_notes raws ms ns p.1 q.1)
one_notes _ _ _ p q = absurd q

-- ---- each log has one survey

pub some_survey : SomeSurvey
some_survey c limits log =
    let whole = some_log limits log in
    let raws = some_placed limits [] [] whole.1 in
    let notes = some_notes raws.0 in
    let editor = some_stream limits (joined Editor whole.1) in
    let server = some_stream limits (joined Server whole.1) in (
      found_in c (log_terms limits whole.0) notes.0 (ending whole.2 editor.1 server.1),
      bad_log_of whole.2,
      summary (log_terms limits whole.0) (events_of notes.0),
      record {
        format = whole.0;
        records = whole.1;
        log_fault = whole.2;
        notes = notes.0;
        editor = editor.1;
        server = server.1;
        is_log = whole.3;
        session = (raws.0, raws.1, notes.1);
        editor_rest = (editor.0, editor.2, editor.3);
        server_rest = (server.0, server.2, server.3);
        lists = refl;
        bad_is = refl;
        comes_to = refl;
      },
    )

same_notes : (limits : Bounds) (rs us : List Record) (ms ns : List Noted) → rs ≡ us → IsNotedSession limits rs ms → IsNotedSession limits us ns → ms ≡ ns
same_notes limits rs us ms ns same p q =
    let raws : p.0 ≡ q.0 = one_placed limits [] [] us p.0 q.0 (subst (λ (w : List Record). Placed limits w p.0) same p.1) q.1 in
    one_notes q.0 ms ns (subst (λ (w : List Raw). AllZip IsNoted w ms) raws p.2) q.2

-- what is read off a log is one
pub one_part : {X : Type 0} (f : Terms → Option Verdict → List Noted → Ending → X) (limits : Bounds)
    → IsInRange limits → (log : List ℕ) (bad flaw : Option Verdict) {c d : Completeness}
    {found others : List Offence} {s t : Summary} (p : IsSurvey c limits log found bad s)
    (q : IsSurvey d limits log others flaw t)
    → f (log_terms limits p.format) bad p.notes (ending p.log_fault p.editor p.server)
    ≡ f (log_terms limits q.format) flaw q.notes (ending q.log_fault q.editor q.server)
one_part f limits sizes log bad flaw p q =
    let same = one_log limits sizes log p.format q.format p.records q.records p.log_fault
    q.log_fault p.is_log q.is_log in
    let bads : bad ≡ flaw = p.bad_is ∙ ap bad_log_of same.2 ∙ sym q.bad_is in
    let notes = same_notes limits p.records q.records p.notes q.notes same.1 p.session q.session in
    let editor = one_rest limits (joined Editor p.records) (joined Editor q.records) p.editor q.editor
    (ap (joined Editor) same.1) p.editor_rest q.editor_rest in
    let server = one_rest limits (joined Server p.records) (joined Server q.records) p.server q.server
    (ap (joined Server) same.1) p.server_rest q.server_rest in
    λ i. f (log_terms limits (same.0 i)) (bads i) (notes i)
    (ending (same.2 i) (editor i) (server i))

pub one_survey : OneSurvey
one_survey c limits sizes log found others bad flaw s t p q = (
  p.lists ∙ one_part (λ terms v notes end. found_in c terms notes end) limits sizes log bad
      flaw p q ∙ sym q.lists,
  one_part (λ terms v notes end. v) limits sizes log bad flaw p q,
  p.comes_to ∙ one_part (λ terms v notes end. summary terms (events_of notes)) limits sizes log bad
      flaw p q ∙ sym q.comes_to,
)
