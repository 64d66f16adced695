-- How a pass ends, with its log or before the first event.
use Rattle.std.proofs.Common.{◌≡◌, ◌<◌, ◌^◌, ℕ, List, [], ◌++◌, Option, Some, None, IsSome, Result}
use Rattle.std.proofs.Common.{Ok, Err, inr, refl, sym, ap, subst, ◌∙◌, append-nil, length, arith}
use Rattle.lsp_frame.specs.Bounds.{Bounds}
use Rattle.lsp_frame.specs.Told.{Told}
use Rattle.lsp_frame.specs.declared.format.Format.{Format}
use Rattle.lsp_frame.proofs.Writing.{wrote_nothing, wrote_then}
use Rattle.lsp_session.specs.State as session
use Rattle.lsp_docs.specs.State as docs
use Rattle.lsp_docs.specs.Documents.{Terms}
use Rattle.lsp_log.specs.Log.{Record, IsLog}
use Rattle.lsp_log.specs.Place.{place_of, found_behind}
use Rattle.lsp_log.specs.Reader.{shown_by}
use Rattle.lsp_log.specs.declared.fault.LogCode.{LogCode}
use Rattle.lsp_types.specs.declared.side.Side.{Side}
use Rattle.lsp_types.specs.declared.side.Side.TheVariants.{Editor, Server}
use Rattle.lsp_replay.specs.LogEvents.{Ended, HasGiven, IsLogOf, NextIs, flaw_of}
use Rattle.lsp_replay.specs.Run.{PartPassed, Passes, Steps, IsPassed, IsTold, RanOut, Run, SaysAll}
use Rattle.lsp_replay.specs.Run.{Tail}
use Rattle.lsp_replay.specs.Telling.{DueAtEnd, IsEnd, Stood}
use Rattle.lsp_replay.specs.declared.log_events.End.{End}
use Rattle.lsp_replay.specs.declared.log_events.LogEvents.{LogEvents}
use Rattle.lsp_replay.specs.declared.log_events.Next.TheVariants as next
use Rattle.lsp_replay.proofs.FirstEvents.{ran_given, rests_behind, some_rests}
use Rattle.lsp_replay.proofs.Passing.{IsPassing, broke_at, cut_at, passing_few}
use Rattle.lsp_replay.proofs.Pulling.{log_of}
use Rattle.lsp_replay.proofs.SideEnds.{inside_is, rest_held}
use Rattle.lsp_verdict.specs.Heard.{AreRests, Heard, Rests, notes_of, raws_of, rest_of}
use Rattle.lsp_verdict.specs.Outcome.{HasRest, log_terms}
use Rattle.lsp_verdict.specs.Placed.{joined}
use Rattle.lsp_verdict.specs.Runs.{BreaksOff, OfRead}
use Rattle.lsp_verdict.specs.declared.counts.Counts.{Counts}
use Rattle.lsp_verdict.specs.declared.outcome.Outcome.{Outcome}
use Rattle.lsp_verdict.specs.declared.outcome.RunFault.{RunFault}
use Rattle.lsp_verdict.specs.declared.outcome.RunFault.TheVariants as faults
use Rattle.lsp_verdict.proofs.Logs.{some_verdict}
use Rattle.lsp_verdict.proofs.PlacedLemmas.{placed_whole}
use Rattle.lsp_verdict.proofs.RunsJudged.{read_map}

-- ---- the log ends

module _ (Asked : Type 0) (run_of : Asked → Run) (asked : Asked)
    (Stands : Terms → List Heard → Type 0) (limits : Bounds) (e : LogEvents) (m : session.State)
    (d : docs.State) (c : Counts) (start now old new : Told)
    (p : IsPassing (run_of asked) Stands limits e m d c start now old new) (log : LogEvents)
    (last : Told) (end : End) (told : NextIs e log now last (Ok (next.End end))) where
  abbrev run : Run
  run = run_of asked

  abbrev terms : Terms
  terms = log_terms limits p.format

  abbrev gone : (more : List Record)
      × Ended limits p.format log start last (p.records ++ more) (raws_of p.heard) end
  gone = told limits p.format start p.records (raws_of p.heard) p.due p.reads

  abbrev all : List Record
  all = p.records ++ gone.0

  abbrev own_rests : (rests : Rests) × AreRests limits all rests
  own_rests = some_rests limits all

  abbrev tail_of : List ℕ → Tail
  tail_of bytes = record {
    fault = flaw_of end;
    place = place_of p.format all;
    line = found_behind limits p.format all bytes;
    rests = own_rests.0;
  }

  has_rest : (side : Side) → HasRest limits (joined side all) (rest_of own_rests.0 side)
  has_rest Editor = own_rests.1.editor
  has_rest Server = own_rests.1.server

  -- its reader knows where the fault lies
  lies : (bytes : List ℕ) (flaw : Option (ℕ × LogCode)) → IsLogOf log.log limits all flaw bytes
      → IsSome flaw → (log.log.place ≡ place_of p.format all)
      × (shown_by log.log ≡ found_behind limits p.format all bytes)
  lies bytes None is some = absurd cc
  lies bytes (Some flaw) is some =
      let same = gone.1.reads.format_is in (
        is.place_is ∙ ap (λ f. place_of f all) same,
        is.line_is ∙ ap (λ f. found_behind limits f all bytes) same,
      )

  pub end_is : (bytes : List ℕ) → IsLogOf log.log limits all (flaw_of end) bytes
      → IsEnd log end p.heard (tail_of bytes)
  end_is bytes is = record {
    fault = refl;
    lies = lies bytes (flaw_of end) is;
    rests = λ side none. sym (rest_held limits log.streams all (raws_of p.heard) (notes_of p.heard)
        side (rest_of own_rests.0 side) gone.1.reads.stands p.noted (has_rest side) none);
    inside = λ side. inside_is limits log.streams all (raws_of p.heard) (notes_of p.heard) side
        (rest_of own_rests.0 side) gone.1.reads.stands p.noted (has_rest side);
  }

  pub end_few : length p.heard < 2 ^ 63
  end_few = omega (
    arith,
    passing_few Asked run_of asked Stands limits e m d c start now old new p,
    p.reads.stands.range.log_high,
  )

  told_whole : (bytes : List ℕ) → IsLogOf log.log limits all (flaw_of end) bytes
      → IsTold limits bytes p.format all p.heard (tail_of bytes)
  told_whole bytes is = record {
    is_log = subst (λ (o : Option Format). IsLog limits bytes o all (flaw_of end))
        gone.1.reads.format_is (log_of limits log.log all (flaw_of end) bytes is);
    session = record {
      placed = placed_whole limits all (raws_of p.heard) [] refl gone.1.reads.stands.placed;
      noted = p.noted;
    };
    rests = own_rests.1;
    place = refl;
    line = refl;
  }

  said_whole : SaysAll run terms own_rests.0 [] p.heard p.out
  said_whole = p.says own_rests.0 (rests_behind limits p.records all own_rests.0 (gone.0, refl)
      own_rests.1)

  abbrev Due : Outcome → List ℕ → Type 0
  Due = DueAtEnd run terms p.heard log end

  end_passed : (outcome : Outcome) (said : List ℕ) → Due outcome said
      → OfRead limits start last (λ bytes. IsPassed run limits bytes (p.out ++ said) outcome)
  end_passed outcome said due = read_map limits start last (IsLogOf log.log limits all (flaw_of end))
      (λ bytes. IsPassed run limits bytes (p.out ++ said) outcome)
      (λ bytes is. record {
        format = p.format;
        records = all;
        heard = p.heard;
        tail = tail_of bytes;
        told = told_whole bytes is;
        is = inr (record {
          front = p.out;
          last = said;
          is = refl;
          said = said_whole;
          closes = due (tail_of bytes) (end_is bytes is);
        });
      }) gone.1.ends.of_read

  end_fault : (fault : RunFault) (sink : Told)
      → Steps {X = Outcome} new sink (Unit {0}) Due (Err fault)
      → Passes run limits start last old sink (Err fault)
  end_fault faults.Write sink (outcome, said, due, stopped, some) =
      cut_at run limits start last old new sink p.out said p.wrote stopped some
      (inr (outcome, end_passed outcome said due)) gone.1.ends.failures
  end_fault faults.Memory sink (same, wants) =
      subst (λ (t : Told). PartPassed run limits start last old t faults.Memory) (sym same)
      (broke_at run limits start last old new p.out p.wrote p.quiet faults.Memory
      (read_map limits start last (IsLogOf log.log limits all (flaw_of end))
      (λ bytes. RanOut run limits bytes p.out) ran_in gone.1.ends.of_read)
      gone.1.ends.failures (λ same. absurd cc))
    where
      told_in : (bytes : List ℕ) → IsLogOf log.log limits all (flaw_of end) bytes
          → IsTold limits bytes p.format all (p.heard ++ []) (tail_of bytes)
      told_in bytes is =
          subst (λ (w : List Heard). IsTold limits bytes p.format all w (tail_of bytes))
          (sym (append-nil p.heard)) (told_whole bytes is)

      ran_in : (bytes : List ℕ) → IsLogOf log.log limits all (flaw_of end) bytes
          → RanOut run limits bytes p.out
      ran_in bytes is = record {
        said = record {
          format = p.format;
          records = all;
          first = p.heard;
          later = [];
          tail = tail_of bytes;
          told = told_in bytes is;
          says = said_whole;
        };
        read = all;
        goes = ([], sym (append-nil all));
        due = [];
        session = (told_in bytes is).session;
        wants = tt;
      }
  end_fault faults.Read sink steps = absurd steps

  end_told : (result : Result Outcome RunFault) (sink : Told)
      → Steps new sink (Unit {0}) Due result
      → Passes run limits start last old sink result
  end_told (Ok outcome) sink (said, due, wrote, still) = record {
    out = p.out ++ said;
    wrote = wrote_then old new sink p.out said p.wrote wrote;
    due = end_passed outcome said due;
    failures = gone.1.ends.failures;
  }
  end_told (Err fault) sink steps = end_fault fault sink steps

  -- by what the account says
  pub end_all : (own : Asked) → own ≡ asked → (result : Result Outcome RunFault) (sink : Told)
      → ((t : Terms) (heard : List Heard) → Stands t heard → Stood t m d c heard
      → length heard < 2 ^ 63
      → Steps new sink (Unit {0}) (DueAtEnd (run_of own) t heard log end) result)
      → Passes run limits start last old sink result
  end_all own same result sink tells =
      end_told result sink (subst (λ (a : Asked). Steps new sink (Unit {0})
      (DueAtEnd (run_of a) terms p.heard log end) result) same
      (tells terms p.heard p.stands p.stood end_few))

-- ---- nothing was read

pub unopened : (run : Run) (limits : Bounds) (start now sink : Told) (fault : RunFault)
    → BreaksOff limits start now fault → Passes run limits start now sink sink (Err fault)
unopened run limits start now sink fault off =
    broke_at run limits start now sink sink [] (wrote_nothing sink) (λ e. refl) fault
    (read_map limits start now (λ log. Unit {0}) (λ log. RanOut run limits log [])
    (λ log u. nothing log) off.of_read) off.failures off.unwritten
  where
    nothing : (log : List ℕ) → RanOut run limits log []
    nothing log =
        let v = some_verdict limits log in
        let has : HasGiven limits v.1.format [] [] log = record {
          records = v.1.records;
          log_fault = v.1.fault;
          later = v.1.final.session.0;
          is_log = v.1.is_log;
          goes = (v.1.records, refl);
          placed = v.1.final.session.1;
        } in
        ran_given [] tt has run [] (λ rests behind. refl) [] tt refl tt
