-- A pass over the events of a log, one after another.
use Rattle.std.proofs.Common.{◌≡◌, ◌⊎◌, ◌<◌, ◌≤◌, ◌+◌, ◌-◌, ℕ, List, [], ◌∷◌, ◌++◌, Option}
use Rattle.std.proofs.Common.{Result, Ok, Err, inl, inr, refl, sym, ap, subst, ◌∙◌, append_assoc}
use Rattle.std.proofs.Common.{length, length-append, arith}
use Rattle.std.proofs.lemmas.List.{length-map}
use Rattle.lsp_frame.specs.Bounds.{Bounds}
use Rattle.lsp_frame.specs.Front.{header_front}
use Rattle.lsp_frame.specs.Sink.{Stopped, Wrote}
use Rattle.lsp_frame.specs.Told.{Told, after_failure}
use Rattle.lsp_frame.specs.declared.format.Format.{Format}
use Rattle.lsp_frame.proofs.Telling.{took_then}
use Rattle.lsp_frame.proofs.Writing.{wrote_nothing, wrote_then}
use Rattle.lsp_session.specs.State as session
use Rattle.lsp_docs.specs.State as docs
use Rattle.lsp_docs.specs.Documents.{Terms}
use Rattle.lsp_log.specs.Log.{Record}
use Rattle.lsp_types.specs.declared.side.Side.{Side}
use Rattle.lsp_types.specs.declared.side.Side.TheVariants.{Editor, Server}
use Rattle.lsp_replay.specs.LogEvents.{HasGiven, NextIs, Opens, Reads}
use Rattle.lsp_replay.specs.Run.{DueAt, PartPassed, Passes, Steps, HasSaid, IsPassed, RanOut, Run}
use Rattle.lsp_replay.specs.Run.{SaysAll, WantsAt}
use Rattle.lsp_replay.specs.Streams.{EndsInLast, LendsRest}
use Rattle.lsp_replay.specs.Telling.{Comes, DueOf, ShowsFault, Stood}
use Rattle.lsp_replay.specs.declared.log_events.LogEvents.{LogEvents}
use Rattle.lsp_replay.specs.declared.log_events.Next.TheVariants as next
use Rattle.lsp_replay.specs.declared.seen.Flow.{Flow}
use Rattle.lsp_replay.specs.declared.seen.Flow.TheVariants.{GoOn, Stop}
use Rattle.lsp_replay.proofs.Behind.{behind_shown}
use Rattle.lsp_replay.proofs.FirstEvents.{AreNoted, RestsBehind, few_read, join_heard, ran_at}
use Rattle.lsp_replay.proofs.FirstEvents.{ran_idle, raws-push, rests_before, said_read}
use Rattle.lsp_replay.proofs.FirstEvents.{says_more, stops_given}
use Rattle.lsp_replay.proofs.Fronts.{front_shown}
use Rattle.lsp_replay.proofs.Owning.{given_fault}
use Rattle.lsp_replay.proofs.PassEnds.{Boxed}
use Rattle.lsp_replay.proofs.Pulling.{reads_failures, reads_given}
use Rattle.lsp_verdict.specs.Heard.{Heard, Rests, heard_events, notes_of, raws_of, rest_of}
use Rattle.lsp_verdict.specs.Given.{raw_view}
use Rattle.lsp_verdict.specs.Offences.{Noted}
use Rattle.lsp_verdict.specs.Outcome.{HasRest, log_terms}
use Rattle.lsp_verdict.specs.Placed.{Raw, broken, joined}
use Rattle.lsp_verdict.specs.Runs.{OfRead, failures_after, sink_failures_after}
use Rattle.lsp_verdict.specs.declared.counts.Counts.{Counts}
use Rattle.lsp_verdict.specs.declared.outcome.Outcome.{Outcome}
use Rattle.lsp_verdict.specs.declared.outcome.RunFault.{RunFault}
use Rattle.lsp_verdict.specs.declared.outcome.RunFault.TheVariants as faults
use Rattle.lsp_verdict.specs.declared.raw.Raw as code
use Rattle.lsp_verdict.specs.declared.raw.Raw.TheVariants as lent
use Rattle.lsp_verdict.proofs.Offences.Surveying.{some_note}
use Rattle.lsp_verdict.proofs.RunsJudged.{read_map}

-- ---- a fault

pub nothing_both : (xs ys : List ℕ) → xs ++ ys ≡ [] → (xs ≡ []) × (ys ≡ [])
nothing_both [] ys e = (refl, e)
nothing_both (x ∷ xs) ys e = absurd cc

-- a fault that is not one of the sink leaves its count
pub by_sink : (old new : Told) (fault : RunFault) → new.failures ≡ old.failures
    → (fault ≡ faults.Write → ⊥) → new.failures ≡ sink_failures_after fault old.failures
by_sink old new faults.Write same other = absurd (other refl)
by_sink old new _ same other = same

-- nothing new was written
pub broke_at : (run : Run) (limits : Bounds) (start now old new : Told) (out : List ℕ)
    → Wrote old new out → (out ≡ [] → new ≡ old) → (fault : RunFault)
    → OfRead limits start now (λ log. RanOut run limits log out)
    → now.failures ≡ failures_after fault start.failures → (fault ≡ faults.Write → ⊥)
    → PartPassed run limits start now old new fault
broke_at run limits start now old new out wrote quiet fault ran failures unwritten = record {
  out = out;
  took = wrote.took;
  due = by_fault fault unwritten;
  source = failures;
  sink = by_sink old new fault wrote.failures unwritten;
  quiet = λ never. quiet;
} where
  by_fault : (f : RunFault) → (f ≡ faults.Write → ⊥) → DueAt f run limits start now out
  by_fault faults.Read never = read_map limits start now (λ log. RanOut run limits log out)
      (λ log. HasSaid run limits log out) (λ log r. r.said) ran
  by_fault faults.Write never = absurd (never refl)
  by_fault faults.Memory never = ran

-- a write failed
pub cut_at : (run : Run) (limits : Bounds) (start now old mid new : Told) (out said : List ℕ)
    → Wrote old mid out → (stopped : Stopped mid new said) → (said ≡ [] → ⊥)
    → OfRead limits start now (λ log. HasSaid run limits log (out ++ said))
    ⊎ ((outcome : Outcome)
    × OfRead limits start now (λ log. IsPassed run limits log (out ++ said) outcome))
    → now.failures ≡ start.failures → PartPassed run limits start now old new faults.Write
cut_at run limits start now old mid new out said wrote stopped some due failures =
    let whole : out ++ said ≡ (out ++ stopped.front) ++ stopped.back =
    ap (λ l. out ++ l) stopped.whole ∙ sym (append_assoc out stopped.front stopped.back) in
    record {
      out = out ++ stopped.front;
      took = took_then old mid new out stopped.front wrote.took stopped.took;
      due = record {
        left = stopped.back;
        some = λ e. some (nothing_both out said (whole ∙ e)).1;
        due = subst (λ (w : List ℕ). OfRead limits start now (λ log. HasSaid run limits log w)
            ⊎ ((outcome : Outcome) × OfRead limits start now
            (λ log. IsPassed run limits log w outcome))) whole due;
      };
      source = failures;
      sink = stopped.failures ∙ ap after_failure wrote.failures;
      quiet = λ never. absurd (never refl);
    }

-- ---- the rest of a side

-- with a content the bytes at hand behind it are lent, with a fault of the frames the header part
-- that has it
pub fault_shown : (limits : Bounds) (format : Option Format) (e : LogEvents) (start now : Told)
    (records : List Record) (before : List Heard) (due : List Raw) (raw : code.Raw)
    → AreNoted before
    → Reads limits format e start now records (raws_of before ++ raw_view raw ∷ []) due
    → LendsRest e.streams raw → EndsInLast e.streams records (raw_view raw) → (rests : Rests)
    → RestsBehind limits records rests → ShowsFault raw (heard_events before) rests
fault_shown limits format e start now records before due (lent.Content side bytes behind) noted h
    lends ends rests (more, are) =
    lends ∙ sym (behind_shown limits e.streams records before side bytes.now due h.stands noted ends
    more rests are)
fault_shown limits format e start now records before due (lent.Snapshot version uri text) noted h
    lends ends rests behind = tt
fault_shown limits format e start now records before due (lent.Broken side rule rest) noted h lends
    ends rests (more, are) =
    let given = raws_of before in
    let some = given_fault limits e.streams records (given ++ broken side rule ∷ []) due h.stands
    side rule given refl in
    let shows = front_shown limits e.streams records (given ++ broken side rule ∷ []) due side
    h.stands some more (rest_of rests side) (by_side side) in
    ap header_front lends ∙ shows
  where
    by_side : (s : Side) → HasRest limits (joined s (records ++ more)) (rest_of rests s)
    by_side Editor = are.editor
    by_side Server = are.server

-- ---- the loop

-- **these events of the log were told to the account, and what it says of them was written**
pub record IsPassing (run : Run) (Stands : Terms → List Heard → Type 0) (limits : Bounds)
    (e : LogEvents) (m : session.State) (d : docs.State) (c : Counts) (start now old new : Told)
    : Type 0 where
  pub format : Option Format
  pub records : List Record
  pub due : List Raw
  pub heard : List Heard
  pub out : List ℕ
  pub reads : Reads limits format e start now records (raws_of heard) due
  pub noted : AreNoted heard
  pub stood : Stood (log_terms limits format) m d c heard
  pub stands : Stands (log_terms limits format) heard
  pub wrote : Wrote old new out
  pub quiet : out ≡ [] → new ≡ old
  pub says : (rests : Rests) → RestsBehind limits records rests
      → SaysAll run (log_terms limits format) rests [] heard out

-- nothing was told
pub passing_first : (run : Run) (Stands : Terms → List Heard → Type 0) (limits : Bounds)
    (e : LogEvents) (m : session.State) (d : docs.State) (c : Counts) (start now sink : Told)
    → Opens limits start now e → Stood (log_terms limits e.log.format) m d c []
    → ((terms : Terms) → Stands terms [])
    → IsPassing run Stands limits e m d c start now sink sink
passing_first run Stands limits e m d c start now sink (records, due, reads) stood begins = record {
  format = e.log.format;
  records = records;
  due = due;
  heard = [];
  out = [];
  reads = reads;
  noted = tt;
  stood = stood;
  stands = begins _;
  wrote = wrote_nothing sink;
  quiet = λ e. refl;
  says = λ rests behind. refl;
}

module _ (Asked : Type 0) (run_of : Asked → Run) (asked : Asked)
    (Stands : Terms → List Heard → Type 0) (limits : Bounds) (e : LogEvents) (m : session.State)
    (d : docs.State) (c : Counts) (start now old new : Told)
    (p : IsPassing (run_of asked) Stands limits e m d c start now old new) where
  abbrev run : Run
  run = run_of asked

  abbrev terms : Terms
  terms = log_terms limits p.format

  first : OfRead limits start now (HasGiven limits p.format p.records (raws_of p.heard))
  first = reads_given limits p.format e start now p.records (raws_of p.heard) p.due p.reads

  pub passing_few : length p.heard ≤ limits.log
  passing_few = few_read p.heard p.noted first

  passing_counts : c.all ≡ length p.heard
  passing_counts = omega (
    arith,
    p.stood.counted.all,
    passing_few,
    p.reads.stands.range.log_high,
    length-map p.heard (λ (h : Heard). h.note),
    length-map (notes_of p.heard) (λ (n : Noted). n.event),
  )

  -- what was said holds where more records follow
  said_before : (more : List Record) (rests : Rests) → RestsBehind limits (p.records ++ more) rests
      → SaysAll run terms rests [] p.heard p.out
  said_before more rests behind = p.says rests (rests_before limits p.records more rests behind)

  -- reading breaks off
  pub broke_next : (log : LogEvents) (last : Told) (fault : RunFault)
      → NextIs e log now last (Err fault)
      → Passes run limits start last old new (Err fault)
  broke_next log last fault told =
      let off = told limits p.format start p.records (raws_of p.heard) p.due p.reads in
      broke_at run limits start last old new p.out p.wrote p.quiet fault
      (ran_idle p.heard p.noted off.1.of_read run p.out (said_before off.0) off.1.whole)
      off.1.failures off.1.unwritten

  -- ---- one more event

  module _ (log : LogEvents) (last : Told) (raw : code.Raw)
      (told : NextIs e log now last (Ok (next.Event raw))) where
    abbrev gave : (more : List Record) × (later : List Raw)
        × Reads limits p.format log start last (p.records ++ more)
        (raws_of p.heard ++ raw_view raw ∷ []) later
        × (LendsRest log.streams raw × EndsInLast log.streams (p.records ++ more) (raw_view raw))
    gave = told limits p.format start p.records (raws_of p.heard) p.due p.reads

    abbrev front : List Record
    front = p.records ++ gave.0

    abbrev pub here : Heard
    here = record { raw = raw_view raw; note = (some_note (raw_view raw)).0 }

    abbrev on : List Heard
    on = p.heard ++ here ∷ []

    on_noted : AreNoted on
    on_noted = join_heard p.heard (here ∷ []) p.noted ((some_note (raw_view raw)).1, tt)

    on_reads : Reads limits p.format log start last front (raws_of on) gave.1
    on_reads = subst (λ (w : List Raw). Reads limits p.format log start last front w gave.1)
        (sym (raws-push p.heard (here ∷ []))) gave.2

    on_first : OfRead limits start last (HasGiven limits p.format front (raws_of on))
    on_first = reads_given limits p.format log start last front (raws_of on) gave.1 on_reads

    on_failures : last.failures ≡ start.failures
    on_failures = reads_failures limits p.format log start last front (raws_of on) gave.1 on_reads

    on_few : length p.heard + 1 ≤ limits.log
    on_few = omega (arith, few_read on on_noted on_first, length-append p.heard (here ∷ []))

    -- so it comes after those told
    comes : Comes (raw_view raw) terms m d c p.heard here (Stands terms p.heard)
    comes = record {
      stood = p.stood;
      stands = p.stands;
      few = omega (arith, on_few, gave.2.stands.range.log_high);
      raw_is = refl;
      noted = (some_note (raw_view raw)).1;
    }

    shown : (rests : Rests) → RestsBehind limits front rests
        → ShowsFault raw (heard_events p.heard) rests
    shown = fault_shown limits p.format log start last front p.heard gave.1 raw p.noted gave.2
        gave.3.0 gave.3.1

    module _ (Later : Terms → List Heard → Type 0) (new_m : session.State) (new_d : docs.State)
        (new_c : Counts) (end : Told) where
      abbrev Wants : Type 0
      Wants = WantsAt run terms p.heard here

      -- what is due for it
      abbrev Due : Flow → List ℕ → Type 0
      Due flow said = DueOf run terms p.heard here (ShowsFault raw (heard_events p.heard))
          (Later terms on) new_m new_d new_c flow said

      said_on : (said : List ℕ) → Due GoOn said → (rests : Rests) → RestsBehind limits front rests
          → SaysAll run terms rests [] on (p.out ++ said)
      said_on said due rests behind = says_more run terms rests [] p.heard p.out here said
          (said_before gave.0 rests behind) (due.is rests (shown rests behind)) due.goes.0

      stopped_at : (boxed : Boxed) (said : List ℕ) → Due (Stop boxed) said
          → OfRead limits start last (λ log. IsPassed run limits log (p.out ++ said) boxed.value)
      stopped_at boxed said due = read_map limits start last
          (HasGiven limits p.format front (raws_of on))
          (λ log. IsPassed run limits log (p.out ++ said) boxed.value)
          (λ log has. stops_given p.heard here on_noted has run p.out said boxed.value
          (λ rests behind. (said_before gave.0 rests behind, due.is rests (shown rests behind)))
          due.goes.0 due.goes.1) on_first

      -- the run goes on
      passing_next : Steps {X = Flow} new end Wants Due (Ok GoOn)
          → IsPassing run Later limits log new_m new_d new_c start last old end
      passing_next (said, due, wrote, still) = record {
        format = p.format;
        records = front;
        due = gave.1;
        heard = on;
        out = p.out ++ said;
        reads = on_reads;
        noted = on_noted;
        stood = due.stood;
        stands = due.goes.1;
        wrote = wrote_then old new end p.out said p.wrote wrote;
        quiet = λ e. let both = nothing_both p.out said e in still both.1 ∙ p.quiet both.0;
        says = said_on said due;
      }

      -- it stops
      passing_stop : (boxed : Boxed) → Steps {X = Flow} new end Wants Due (Ok (Stop boxed))
          → Passes run limits start last old end (Ok boxed.value)
      passing_stop boxed (said, due, wrote, still) = record {
        out = p.out ++ said;
        wrote = wrote_then old new end p.out said p.wrote wrote;
        due = stopped_at boxed said due;
        failures = on_failures;
      }

      -- not all of it was written
      cut_by : (flow : Flow) (said : List ℕ) → Due flow said
          → OfRead limits start last (λ log. HasSaid run limits log (p.out ++ said))
          ⊎ ((outcome : Outcome)
          × OfRead limits start last (λ log. IsPassed run limits log (p.out ++ said) outcome))
      cut_by GoOn said due = inl (said_read on on_noted on_first run (p.out ++ said)
          (said_on said due))
      cut_by (Stop boxed) said due = inr (boxed.value, stopped_at boxed said due)

      passing_fault : (fault : RunFault) → Steps {X = Flow} new end Wants Due (Err fault)
          → Passes run limits start last old end (Err fault)
      passing_fault faults.Write (flow, said, due, stopped, some) =
          cut_at run limits start last old new end p.out said p.wrote stopped some
          (cut_by flow said due) on_failures
      passing_fault faults.Memory (same, wants) =
          subst (λ (t : Told). PartPassed run limits start last old t faults.Memory) (sym same)
          (broke_at run limits start last old new p.out p.wrote p.quiet faults.Memory
          (ran_at p.heard here on_noted on_first run p.out (said_before gave.0) gave.1
          gave.2.stands.placed wants) on_failures (λ same. absurd cc))
      passing_fault faults.Read steps = absurd steps

      -- what the account says of it was written, by what it stands for
      abbrev TellsNext : Asked → Result Flow RunFault → Type 0
      TellsNext own result =
          (t : Terms) (before : List Heard) (h : Heard)
          → Comes (raw_view raw) t m d c before h (Stands t before)
          → Steps new end (WantsAt (run_of own) t before h)
          (DueOf (run_of own) t before h (ShowsFault raw (heard_events before))
          (Later t (before ++ h ∷ [])) new_m new_d new_c) result

      steps_of : (own : Asked) (result : Result Flow RunFault) → own ≡ asked
          → TellsNext own result → Steps new end Wants Due result
      steps_of own result same tells =
          subst (λ (a : Asked). Steps new end (WantsAt (run_of a) terms p.heard here)
          (DueOf (run_of a) terms p.heard here (ShowsFault raw (heard_events p.heard))
          (Later terms on) new_m new_d new_c) result) same (tells terms p.heard here comes)

      pub goes_on : (own : Asked) → own ≡ asked → TellsNext own (Ok GoOn)
          → IsPassing run Later limits log new_m new_d new_c start last old end
      goes_on own same tells = passing_next (steps_of own (Ok GoOn) same tells)

      pub goes_fewer : (own : Asked) → own ≡ asked → TellsNext own (Ok GoOn)
          → limits.log + 1 - new_c.all < limits.log + 1 - c.all
      goes_fewer own same tells =
          let steps : Steps {X = Flow} new end Wants Due (Ok GoOn) =
          steps_of own (Ok GoOn) same tells in
          omega (
            arith,
            passing_counts,
            steps.1.stood.counted.all,
            length-map on (λ (h : Heard). h.note),
            length-map (notes_of on) (λ (n : Noted). n.event),
            on_few,
            gave.2.stands.range.log_high,
            length-append p.heard (here ∷ []),
          )

      pub goes_stop : (own : Asked) → own ≡ asked → (boxed : Boxed)
          → TellsNext own (Ok (Stop boxed)) → Passes run limits start last old end (Ok boxed.value)
      goes_stop own same boxed tells =
          passing_stop boxed (steps_of own (Ok (Stop boxed)) same tells)

      pub goes_wrong : (own : Asked) → own ≡ asked → (fault : RunFault) → TellsNext own (Err fault)
          → Passes run limits start last old end (Err fault)
      goes_wrong own same fault tells = passing_fault fault (steps_of own (Err fault) same tells)
