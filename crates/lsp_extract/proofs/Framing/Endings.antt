-- A run with what comes after its parts.
use Rattle.std.proofs.Common.{◌≡◌, ℕ, ◌+◌, ◌<◌, ◌≤◌, List, [], ◌∷◌, ◌++◌, length, Bool, true, false}
use Rattle.std.proofs.Common.{Option, Some, None, Ok, Err, replicate, refl, sym, subst, ◌∙◌}
use Rattle.std.proofs.Common.{append_assoc, arith, inl, inr}
use Rattle.std.specs.Io.KnownBytes.{IsAtEnd}
use Rattle.std.proofs.lemmas.Bool.{false≢true, lt-ltb}
use Rattle.std.proofs.lemmas.List.{length-append, length-replicate}
use Rattle.lsp_replay.specs.Common.{Bounds, failures_after, Frames, Gave, Memory, Mode, ports, Read}
use Rattle.lsp_replay.specs.Common.{RunFault, sink_failures_after, Tells, Told, Took, Write}
use Rattle.lsp_frame.specs.Sink.{Wrote}
use Rattle.lsp_frame.proofs.Writing.{wrote_then, stopped_then}
use Rattle.lsp_extract.specs.Stream.{RunsThrough, fault_of, HasParts, closing, IsRun, BeginsRun}
use Rattle.lsp_extract.specs.Stream.{RunsFrames, AreParts, WroteParts}
use Rattle.lsp_verdict.specs.Runs.{GoesOn}
use Rattle.lsp_verdict.specs.declared.outcome.Outcome.{Outcome}
use Rattle.lsp_verdict.specs.declared.outcome.Outcome.TheVariants.{Done}
use Rattle.lsp_verdict.proofs.RunsJudged.{read_map}
use Rattle.lsp_extract.proofs.Framing.Due.{due_is, due_begins}
use Rattle.lsp_extract.proofs.Due.{due_begun, due_written}

-- ---- faults

-- what begins the parts of the contents in the bytes read begins what is due
pub begun : (limits : Bounds) (mode : Mode) (before after sink_before sink_after : Told)
    (fault : RunFault) (bytes rest written left : List ℕ) (contents : List (List ℕ))
    → Gave before after bytes → length bytes ≤ limits.log → Frames limits bytes contents rest
    → AreParts mode 1 contents (written ++ left) → Took sink_before sink_after written
    → after.failures ≡ failures_after fault before.failures
    → sink_after.failures ≡ sink_failures_after fault sink_before.failures
    → RunsFrames mode limits (ports before after sink_before sink_after) (Err fault)
begun limits mode before after sink_before sink_after fault bytes rest written left contents gave
    within frames are_parts took source sink =
    due_begun limits _ Done _ _ fault (
      written,
      took,
      record {
        bytes = bytes;
        ended = false;
        read = record {
          gave = gave;
          no_further = omega (arith, within);
          end = λ h. absurd (false≢true h);
        };
        holds = λ stream goes out outcome run.
            let b = due_begins limits mode bytes contents rest (written ++ left) goes.0 out outcome
            frames within are_parts
            (subst (λ (w : List ℕ). IsRun limits mode w out outcome) goes.1 run) in
            (left ++ b.0, b.1 ∙ append_assoc written left b.0);
      },
    ) source sink

-- what is due after the parts goes on as what is written does
due_on : (limits : Bounds) (mode : Mode) (stream parts written left : List ℕ) (outcome : Outcome)
    → parts ++ closing mode outcome ≡ written ++ left → HasParts limits mode stream parts outcome
    → BeginsRun limits mode stream written
due_on limits mode stream parts written left outcome whole has =
    λ out other run. (left, due_is limits mode stream parts out outcome other has run ∙ whole)

-- what comes after the parts was not written, or not all of it
pub closing_cut : (limits : Bounds) (mode : Mode)
    (before after sink_before sink_mid sink_after : Told) (outcome : Outcome) (fault : RunFault)
    → WroteParts limits mode before after sink_before sink_mid outcome
    → Tells sink_mid sink_after (closing mode outcome) (Err fault)
    → RunsFrames mode limits (ports before after sink_before sink_after) (Err fault)
closing_cut limits mode before after sink_before sink_mid sink_after outcome Write parts closes =
    let all = stopped_then sink_before sink_mid sink_after parts.parts (closing mode outcome)
    parts.wrote closes in
    due_begun limits _ Done _ _ Write (
      all.front,
      all.took,
      read_map limits before after _ _
          (λ stream. due_on limits mode stream parts.parts all.front all.back outcome all.whole)
          parts.due,
    ) parts.no_fault all.failures
closing_cut limits mode before after sink_before sink_mid sink_after outcome Memory parts closes =
    let all : Wrote sink_before sink_after parts.parts =
    subst (λ (t : Told). Wrote sink_before t parts.parts) (sym closes) parts.wrote in
    due_begun limits _ Done _ _ Memory (
      parts.parts,
      all.took,
      read_map limits before after _ _
          (λ stream. due_on limits mode stream parts.parts parts.parts (closing mode outcome)
          outcome refl) parts.due,
    ) parts.no_fault all.failures
closing_cut limits mode before after sink_before sink_mid sink_after outcome Read parts closes =
    absurd closes

-- ---- what is done was read to its end

not_done : (mode : Mode) (frame : ℕ) (contents : List (List ℕ)) (fault : Option ℕ)
    (rest parts : List ℕ) → RunsThrough mode frame contents (fault_of fault true rest) parts Done
    → ⊥
not_done mode frame [] None rest parts run = absurd (cc run.1)
not_done mode frame [] (Some rule) rest parts run = absurd (cc run.1)
not_done mode frame (c ∷ cs) fault rest parts (inl x) =
    not_done mode (frame + 1) cs fault rest x.1 x.3
not_done mode frame (c ∷ cs) fault rest parts (inr x) = absurd (cc x.3)

-- a stream that goes on past the limit isn't done
long_not_done : (limits : Bounds) (mode : Mode) (stream parts : List ℕ) → limits.log < length stream
    → HasParts limits mode stream parts Done → ⊥
long_not_done limits mode stream parts long has =
    not_done mode 1 has.contents has.fault has.rest parts
    (subst (λ (b : Bool). RunsThrough mode 1 has.contents (fault_of has.fault b has.rest) parts
    Done) (lt-ltb limits.log (length stream) long) has.runs_through)

at_end_if : (ended : Bool) (end : Option (List ℕ)) → (ended ≡ true → IsAtEnd end)
    → (ended ≡ false → ⊥) → IsAtEnd end
at_end_if true end is not = is refl
at_end_if false end is not = absurd (not refl)

goes_on : (bytes more : List ℕ) (ended : Bool) → ended ≡ false → GoesOn bytes ended (bytes ++ more)
goes_on bytes more ended is = (more, refl, λ e. absurd (false≢true (sym is ∙ e)))

done_at_end : (limits : Bounds) (mode : Mode) (before after sink_before sink_after : Told)
    (outcome : Outcome) → WroteParts limits mode before after sink_before sink_after outcome
    → outcome ≡ Done → IsAtEnd after.bytes
done_at_end limits mode before after sink_before sink_after outcome parts done =
    let due = parts.due in
    at_end_if due.ended after.bytes due.read.end
    (λ open_end.
    let more = replicate (limits.log + 1) 0 in
    let stream = due.bytes ++ more in
    let long : limits.log < length stream =
    omega (arith, length-append due.bytes more, length-replicate {A = ℕ} (limits.log + 1) 0) in
    long_not_done limits mode stream parts.parts long
    (subst (λ (o : Outcome). HasParts limits mode stream parts.parts o) done
    (due.holds stream (goes_on due.bytes more due.ended open_end))))

-- ---- the whole run

pub ran : (limits : Bounds) (mode : Mode) (before after sink_before sink_mid sink_after : Told)
    (outcome : Outcome) → WroteParts limits mode before after sink_before sink_mid outcome
    → Wrote sink_mid sink_after (closing mode outcome)
    → RunsFrames mode limits (ports before after sink_before sink_after) (Ok outcome)
ran limits mode before after sink_before sink_mid sink_after outcome parts closed =
    let all = wrote_then sink_before sink_mid sink_after parts.parts (closing mode outcome)
    parts.wrote closed in
    due_written limits _ Done _ _ outcome (
      parts.parts ++ closing mode outcome,
      all.took,
      read_map limits before after _ _ (λ stream has. (parts.parts, has, refl)) parts.due,
    ) (done_at_end limits mode before after sink_before sink_mid outcome parts) parts.no_fault
    all.failures
