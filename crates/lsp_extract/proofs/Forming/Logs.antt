-- The normal form of a log, against that of the events that were given.
use Rattle.std.specs.Option.{option_or}
use Rattle.std.proofs.Common.{◌≡◌, ℕ, ◌+◌, ◌-◌, ◌<◌, List, [], ◌∷◌, ◌++◌, length, map, Option, Some}
use Rattle.std.proofs.Common.{None, Ok, Err, refl, sym, ap, subst, ◌∙◌, append_assoc, append-nil}
use Rattle.std.proofs.Common.{arith}
use Rattle.std.proofs.lemmas.List.{length_push, length-map, length-append}
use Rattle.lsp_replay.specs.Common.{AreCounts, as_given, bad_log, Bounds, Counts, ending}
use Rattle.lsp_replay.specs.Common.{failures_after, first_line, Format, format_or_one, HasGiven}
use Rattle.lsp_replay.specs.Common.{HasRest, IsLogOf, joined, LogCode, Opens, ports, RunFault}
use Rattle.lsp_replay.specs.Common.{sink_failures_after, Stopped, Tells, Told, Took}
use Rattle.lsp_frame.specs.Sink.{Wrote}
use Rattle.lsp_frame.proofs.Telling.{took_nothing}
use Rattle.lsp_frame.proofs.Writing.{stopped_then, wrote_nothing, wrote_then}
use Rattle.lsp_log.specs.Log.{Record}
use Rattle.lsp_replay.specs.LogEvents as log_events
use Rattle.lsp_replay.specs.LogEvents.{Gives, Reads, flaw_of}
use Rattle.lsp_extract.specs.Normal.{form_of, fault_of, EndsNormal, BeginsNormal, IsNormal, Carries}
use Rattle.lsp_extract.specs.Normal.{Normalizes, first_broken, mark, CarriesCapped, spelled, EndsLog}
use Rattle.lsp_extract.specs.Normal.{EndsWhole, Counted, WritesEvent}
use Rattle.lsp_verdict.specs.Runs.{BreaksOff}
use Rattle.lsp_verdict.specs.Given.{raw_view}
use Rattle.lsp_replay.specs.declared.log_events.End.{End}
use Rattle.lsp_replay.specs.declared.log_events.End.TheVariants.{Sound, Bad}
use Rattle.lsp_replay.specs.declared.log_events.LogEvents.{LogEvents}
use Rattle.lsp_replay.specs.declared.log_events.Next.TheVariants as next
use Rattle.lsp_verdict.specs.declared.raw.Raw as code
use Rattle.lsp_types.specs.declared.side.Side.TheVariants.{Editor, Server}
use Rattle.lsp_verdict.specs.Placed.{Raw}
use Rattle.lsp_verdict.specs.Verdict.{Verdict}
use Rattle.lsp_verdict.specs.declared.outcome.Outcome.{Outcome}
use Rattle.lsp_verdict.specs.declared.outcome.Outcome.TheVariants.{Done, Judged}
use Rattle.lsp_verdict.specs.declared.outcome.RunFault.TheVariants as faults
use Rattle.lsp_verdict.specs.declared.verdict.Verdict.TheVariants as verdicts
use Rattle.lsp_verdict.proofs.Below.{some_stream}
use Rattle.lsp_verdict.proofs.ExactCounts.{capped_is, raws_within}
use Rattle.lsp_verdict.proofs.PlacedLemmas.{placed_whole}
use Rattle.lsp_verdict.proofs.RunsJudged.{read_map, unwritten_sink}
use Rattle.lsp_extract.proofs.Due.{due_begun, due_written}
use Rattle.lsp_extract.proofs.Forming.Counts.{end_exact}
use Rattle.lsp_extract.proofs.Forming.Forms.{one_broken, one_sound, spelled_behind, spelled_broken}
use Rattle.lsp_extract.proofs.Forming.OneForm.{broken_normal, due_first}
use Rattle.lsp_replay.proofs.Pulling.{log_of, reads_failures, reads_given}

-- ---- an outcome, and a fault

-- an outcome that carries a fault is not `Done`
carried : (outcome : Outcome) (v : Verdict) → CarriesCapped outcome (Some v) → outcome ≡ Done → ⊥
carried outcome v carries e =
    absurd (cc (subst (λ (o : Outcome). Carries o (Some (as_given v))) e carries))

-- what a fault leaves, after what was written before
cut_at : (old mid new : Told) (before due : List ℕ) (fault : RunFault) → Wrote old mid before
    → Tells mid new due (Err fault)
    → (front : List ℕ) × (back : List ℕ) × (before ++ due ≡ front ++ back) × Took old new front
    × (new.failures ≡ sink_failures_after fault old.failures)
    × ((n : ℕ) → n ≡ failures_after fault n)
cut_at old mid new before due faults.Write wrote told =
    let all = stopped_then old mid new before due wrote told in
    (all.front, all.back, all.whole, all.took, all.failures, λ n. refl)
cut_at old mid new before due faults.Memory wrote same =
    let all = subst (λ (t : Told). Wrote old t before) (sym same) wrote in
    (before, due, refl, all.took, all.failures, λ n. refl)
cut_at old mid new before due faults.Read wrote told = absurd told

-- ---- the events so far

-- the events given are written and counted, and none of them is a fault of the frames
pub record EventsSoFar (limits : Bounds) (format : Option Format) (e : LogEvents) (counts : Counts)
    (start now old new : Told) : Type 0 where
  pub records : List Record
  pub given : List Raw
  pub due : List Raw
  pub reads : Reads limits format e start now records given due
  pub sound : first_broken given ≡ None
  pub counted : Counted counts given
  pub wrote : Wrote old new (spelled limits.chunk given)

-- ---- nothing was written

-- reading broke off before the first record
pub none_read : (limits : Bounds) (start now sink : Told) (fault : RunFault)
    → BreaksOff limits start now fault → Normalizes limits (ports start now sink sink) (Err fault)
none_read limits start now sink fault broke = due_begun limits _ Done _ _ fault (
  [],
  took_nothing sink,
  read_map limits start now (λ log. Unit {0})
      (λ log. BeginsNormal limits log []) (λ log u out due_fault normal. (out, refl))
      broke.of_read,
) broke.failures (unwritten_sink fault _ _ broke.unwritten refl)

-- the first line was not written whole
pub head_cut : (limits : Bounds) (e : LogEvents) (start now sink new : Told)
    → Opens limits start now e → Stopped sink new (first_line (format_or_one e.log.format))
    → Normalizes limits (ports start now sink new) (Err faults.Write)
head_cut limits e start now sink new (records, due, reads) stopped =
    due_begun limits _ Done _ _ faults.Write (
      stopped.front,
      stopped.took,
      read_map limits start now (HasGiven limits e.log.format records [])
          (λ log. BeginsNormal limits log stopped.front)
          (λ log has. due_first limits reads.stands.range log e.log.format records [] has
          stopped.front stopped.back
          (append-nil (first_line (format_or_one e.log.format)) ∙ stopped.whole))
          (reads_given limits e.log.format e start now records [] due reads),
    ) (reads_failures limits e.log.format e start now records [] due reads) stopped.failures

-- none of the events was given
pub none_formed : (limits : Bounds) (e : LogEvents) (counts : Counts) (start now old : Told)
    → Opens limits start now e → AreCounts counts []
    → EventsSoFar limits e.log.format e counts start now old old
none_formed limits e counts start now old (records, due, reads) counted =
    record {
      records = records;
      given = [];
      due = due;
      reads = reads;
      sound = refl;
      counted = counted;
      wrote = wrote_nothing old;
    }

-- ---- one event more

module _ (limits : Bounds) (format : Option Format) (old new : LogEvents) (counts : Counts)
    (start before now sink_before sink_now : Told)
    (so : EventsSoFar limits format old counts start before sink_before sink_now) where
  -- its records are written after those before
  wrote_more : (raw : Raw) (sink_new : Told)
      → Wrote sink_now sink_new (spelled limits.chunk (raw ∷ []))
      → Wrote sink_before sink_new (spelled limits.chunk (so.given ++ raw ∷ []))
  wrote_more raw sink_new wrote =
      subst (Wrote sink_before sink_new)
      (sym (spelled_behind limits.chunk so.given (raw ∷ []) so.sound))
      (wrote_then sink_before sink_now sink_new (spelled limits.chunk so.given)
      (spelled limits.chunk (raw ∷ [])) so.wrote wrote)

  pub one_formed : (raw : code.Raw) (counted_now : Counts) (size : ℕ) (sink_new : Told)
      → size ≡ limits.chunk → Gives limits format new start now so.records so.given
      (Ok (next.Event raw)) → WritesEvent size counted_now sink_now sink_new so.given (raw_view raw)
      (Ok None)
      → EventsSoFar limits format new counted_now start now sink_before sink_new
  one_formed raw counted_now size sink_new is (more, due, reads, lent) (none, counted, wrote) =
      record {
        records = so.records ++ more;
        given = so.given ++ raw_view raw ∷ [];
        due = due;
        reads = reads;
        sound = one_sound (raw_view raw) so.given none so.sound;
        counted = counted;
        wrote = wrote_more (raw_view raw) sink_new
            (subst (λ (n : ℕ). Wrote sink_now sink_new (spelled n (raw_view raw ∷ []))) is wrote);
      }

  -- and it is one more than before, of no more than the log has bytes
  pub fewer : (raw : code.Raw) (counted_now : Counts) (size : ℕ) (sink_new : Told)
      → Gives limits format new start now so.records so.given (Ok (next.Event raw))
      → WritesEvent size counted_now sink_now sink_new so.given (raw_view raw) (Ok None)
      → (limits.log + 1) - counted_now.all < (limits.log + 1) - counts.all
  fewer raw counted_now size sink_new (more, due, reads, lent) (none, counted, wrote) =
      let given : List Raw = so.given ++ raw_view raw ∷ [] in
      let of_log = reads_given limits format new start now (so.records ++ more) given due reads in
      let has : HasGiven limits format (so.records ++ more) given of_log.bytes =
      of_log.holds of_log.bytes ([], sym (append-nil of_log.bytes), λ end. refl) in
      let few = raws_within limits of_log.bytes format has.records has.log_fault
      (given ++ has.later) has.is_log has.placed in
      let longer = length_push so.given (raw_view raw) in
      let all = length-append given has.later in
      let high = reads.stands.range.log_high in
      let is_old : counts.all ≡ length so.given =
      so.counted.all ∙ capped_is (length (map mark so.given))
      (omega (arith, length-map so.given mark, few, longer, all, high))
      ∙ length-map so.given mark in
      let is_new : counted_now.all ≡ length given =
      counted.all ∙ capped_is (length (map mark given))
      (omega (arith, length-map given mark, few, all, high)) ∙ length-map given mark in
      omega (arith, is_old, is_new, few, longer, all)

  module _ (sink : Told) (head : Wrote sink sink_before (first_line (format_or_one format))) where
    line : List ℕ
    line = first_line (format_or_one format)

    -- a fault of the frames ends the normal form
    pub fault_ends : (raw : code.Raw) (counted_now : Counts) (size : ℕ) (outcome : Outcome)
        (sink_new : Told) → Gives limits format new start now so.records so.given
        (Ok (next.Event raw)) → WritesEvent size counted_now sink_now sink_new so.given
        (raw_view raw) (Ok (Some outcome))
        → Normalizes limits (ports start now sink sink_new) (Ok outcome)
    unfolding line
    fault_ends raw counted_now size outcome sink_new (more, due, reads, lent)
        (stays, (verdict, is, carries)) =
        let given : List Raw = so.given ++ raw_view raw ∷ [] in
        let form : List ℕ = form_of (format_or_one format) limits.chunk given in
        let breaks = one_broken (raw_view raw) so.given verdict is so.sound in
        let same : spelled limits.chunk given ≡ spelled limits.chunk so.given =
        spelled_behind limits.chunk so.given (raw_view raw ∷ []) so.sound
        ∙ ap (λ (w : List ℕ). spelled limits.chunk so.given ++ w)
        (spelled_broken limits.chunk so.given (raw_view raw) verdict is)
        ∙ append-nil (spelled limits.chunk so.given) in
        let wrote : Wrote sink sink_now form =
        wrote_then sink sink_before sink_now line (spelled limits.chunk given) head
        (subst (Wrote sink_before sink_now) (sym same) so.wrote) in
        let all = subst (λ (t : Told). Wrote sink t form) (sym stays) wrote in
        due_written limits _ Done _ _ outcome (
          form,
          all.took,
          read_map limits start now (HasGiven limits format (so.records ++ more) given)
              (λ log. EndsNormal limits log form outcome)
              (λ log has.
              let normal = broken_normal limits reads.stands.range log format (so.records ++ more)
              given has verdict breaks in (
                Some verdict,
                normal.0,
                subst (Carries outcome) (ap Some normal.1) carries,
              ))
              (reads_given limits format new start now (so.records ++ more) given due reads),
        ) (λ done. absurd (carried outcome verdict carries done))
        (reads_failures limits format new start now (so.records ++ more) given due reads)
        all.failures

    -- its records were not written whole
    pub part_written : (raw : code.Raw) (counted_now : Counts) (size : ℕ) (fault : RunFault)
        (sink_new : Told) → size ≡ limits.chunk
        → Gives limits format new start now so.records so.given (Ok (next.Event raw))
        → WritesEvent size counted_now sink_now sink_new so.given (raw_view raw) (Err fault)
        → Normalizes limits (ports start now sink sink_new) (Err fault)
    unfolding line
    part_written raw counted_now size fault sink_new is (more, due, reads, lent) (none, told) =
        let given : List Raw = so.given ++ raw_view raw ∷ [] in
        let before_it : List ℕ = line ++ spelled limits.chunk so.given in
        let wrote : Wrote sink sink_now before_it =
        wrote_then sink sink_before sink_now line (spelled limits.chunk so.given) head
        so.wrote in
        let cut = cut_at sink sink_now sink_new before_it (spelled size (raw_view raw ∷ [])) fault
        wrote told in
        let whole : form_of (format_or_one format) limits.chunk given ≡ cut.0 ++ cut.1 =
        ap (λ (w : List ℕ). line ++ w)
        (spelled_behind limits.chunk so.given (raw_view raw ∷ []) so.sound)
        ∙ sym (append_assoc line (spelled limits.chunk so.given)
        (spelled limits.chunk (raw_view raw ∷ [])))
        ∙ ap (λ (n : ℕ). before_it ++ spelled n (raw_view raw ∷ [])) (sym is) ∙ cut.2 in
        due_begun limits _ Done _ _ fault (
          cut.0,
          cut.3,
          read_map limits start now (HasGiven limits format (so.records ++ more) given)
              (λ log. BeginsNormal limits log cut.0)
              (λ log has. due_first limits reads.stands.range log format (so.records ++ more)
              given has cut.0 cut.1 whole)
              (reads_given limits format new start now (so.records ++ more) given due reads),
        ) (reads_failures limits format new start now (so.records ++ more) given due reads
        ∙ cut.5 start.failures) cut.4

    wrote_given : Wrote sink sink_now (form_of (format_or_one format) limits.chunk so.given)
    unfolding line
    wrote_given = wrote_then sink sink_before sink_now line (spelled limits.chunk so.given) head
        so.wrote

    -- reading broke off
    pub broke_off : (fault : RunFault)
        → Gives limits format new start now so.records so.given (Err fault)
        → Normalizes limits (ports start now sink sink_now) (Err fault)
    broke_off fault (more, broke) =
        let form : List ℕ = form_of (format_or_one format) limits.chunk so.given in
        due_begun limits _ Done _ _ fault (
          form,
          wrote_given.took,
          read_map limits start now (HasGiven limits format (so.records ++ more) so.given)
              (λ log. BeginsNormal limits log form)
              (λ log has. due_first limits so.reads.stands.range log format (so.records ++ more)
              so.given has form [] (sym (append-nil form))) broke.of_read,
        ) broke.failures
        (unwritten_sink fault _ _ broke.unwritten wrote_given.failures)

    module _ (more : List Record) (end : End)
        (ended : log_events.Ended limits format new start now (so.records ++ more) so.given end)
      where
        records : List Record
        records = so.records ++ more

        form : List ℕ
        form = form_of (format_or_one format) limits.chunk so.given

        -- the normal form of a log of these records, after which it ends
        normal_of : (log : List ℕ) (editor server : List ℕ)
            → IsLogOf new.log limits records (flaw_of end) log
            → HasRest limits (joined Editor records) editor
            → HasRest limits (joined Server records) server
            → IsNormal limits log form (fault_of so.given (ending (flaw_of end) editor server))
        unfolding records form
        normal_of log editor server is editor_rest server_rest = record {
          format = new.log.format;
          records = records;
          log_fault = flaw_of end;
          raws = so.given;
          editor = editor;
          server = server;
          is_log = log_of limits new.log records (flaw_of end) log is;
          placed = placed_whole limits records so.given [] refl ended.reads.stands.placed;
          editor_rest = editor_rest;
          server_rest = server_rest;
          ends = refl;
          written = ap (λ (f : Option Format). form_of (format_or_one f) limits.chunk so.given)
              (sym ended.reads.format_is);
        }

    -- the log ended without a fault
    log_ends : (outcome : Outcome)
        → (gives : Gives limits format new start now so.records so.given (Ok (next.End Sound)))
        → EndsWhole limits (so.records ++ gives.0) so.given outcome
        → Normalizes limits (ports start now sink sink_now) (Ok outcome)
    unfolding records form normal_of
    log_ends outcome (more, ended) ends =
        let all : List Record = so.records ++ more in
        let placed = placed_whole limits all so.given [] refl ended.reads.stands.placed in
        let due : Option Verdict = fault_of so.given (ending None ends.editor ends.server) in
        let written : List ℕ = form_of (format_or_one format) limits.chunk so.given in
        due_written limits _ Done _ _ outcome (
          written,
          wrote_given.took,
          read_map limits start now (IsLogOf new.log limits all None)
              (λ log. EndsNormal limits log written outcome)
              (λ log is. (
                due,
                normal_of more Sound ended log ends.editor ends.server is ends.editor_rest
                    ends.server_rest,
                subst (Carries outcome)
                    (end_exact limits so.reads.stands.range log new.log.format all so.given
                    ends.editor ends.server is placed so.sound) ends.carries,
              )) ended.ends.of_read,
        ) (λ done. ended.ends.met refl) ended.ends.failures wrote_given.failures

    -- the log has a fault
    bad_ends : (number : ℕ) (fault : LogCode)
        → Gives limits format new start now so.records so.given (Ok (next.End (Bad number fault)))
        → Normalizes limits (ports start now sink sink_now)
        (Ok (Judged (verdicts.BadLog number fault)))
    unfolding records form normal_of
    bad_ends number fault (more, ended) =
        let all : List Record = so.records ++ more in
        let written : List ℕ = form_of (format_or_one format) limits.chunk so.given in
        let outcome : Outcome = Judged (verdicts.BadLog number fault) in
        let editor = some_stream limits (joined Editor all) in
        let server = some_stream limits (joined Server all) in
        due_written limits _ Done _ _ outcome (
          written,
          wrote_given.took,
          read_map limits start now (IsLogOf new.log limits all (Some (number, fault)))
              (λ log. EndsNormal limits log written outcome)
              (λ log is. (
                fault_of so.given (ending (Some (number, fault)) editor.1 server.1),
                normal_of more (Bad number fault) ended log editor.1 server.1 is
                    (editor.0, editor.2, editor.3) (server.0, server.2, server.3),
                ap (λ (o : Option Verdict). option_or o (Some (bad_log number fault))) so.sound,
              )) ended.ends.of_read,
        ) (λ done. absurd (cc done)) ended.ends.failures wrote_given.failures

    pub end_formed : (end : End) (outcome : Outcome)
        → (gives : Gives limits format new start now so.records so.given (Ok (next.End end)))
        → EndsLog limits (so.records ++ gives.0) so.given end outcome
        → Normalizes limits (ports start now sink sink_now) (Ok outcome)
    end_formed Sound outcome gives ends = log_ends outcome gives ends
    end_formed (Bad number fault) outcome gives is =
        subst (λ (o : Outcome). Normalizes limits (ports start now sink sink_now) (Ok o)) (sym is)
        (bad_ends number fault gives)
