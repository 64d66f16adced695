-- A run over the parts of a stream so far, and its ends.
use Rattle.std.specs.Prelude.{nat_lt}
use Rattle.std.proofs.Common.{◌≡◌, ℕ, ◌+◌, ◌-◌, ◌≤◌, ◌<◌, List, [], ◌∷◌, ◌++◌, length, take, Bool}
use Rattle.std.proofs.Common.{true, false, Option, Some, None, Result, Err, refl, sym, ap, subst}
use Rattle.std.proofs.Common.{◌∙◌, append_assoc, arith, inl, inr}
use Rattle.std.specs.Io.KnownBytes.{IsAtEnd}
use Rattle.std.proofs.lemmas.Bool.{false≢true, lt-ltb, le-ltb}
use Rattle.std.proofs.lemmas.List.{append-nil, length-append, nil_from_length, take_all, take_at}
use Rattle.lsp_replay.specs.Common.{after_failure, Bounds, failures_after, Frames, Gave, IsStream}
use Rattle.lsp_replay.specs.Common.{Mode, ports, Rule, RunFault, sink_failures_after, StandsFor}
use Rattle.lsp_replay.specs.Common.{State, Stream, Told, TooLong}
use Rattle.lsp_frame.specs.Told.{KeepsBytes}
use Rattle.lsp_frame.specs.Decoder.{empty, taken, taken_at, room_for}
use Rattle.lsp_frame.specs.Pulling.{Pulls, PullFails}
use Rattle.lsp_frame.specs.declared.decoder.PullFault.{PullFault}
use Rattle.lsp_frame.specs.declared.decoder.PullFault.TheVariants as pulls
use Rattle.lsp_frame.proofs.Frames.{frames_first, frames_more, faulty_more}
use Rattle.lsp_frame.proofs.Readings.{some_stream}
use Rattle.lsp_frame.proofs.Steps.{new_stands}
use Rattle.lsp_frame.proofs.Telling.{gave_nothing, gave_then, gave_kept, took_then}
use Rattle.lsp_frame.proofs.Writing.{wrote_then, wrote_nothing}
use Rattle.lsp_verdict.specs.declared.outcome.Outcome.{Outcome}
use Rattle.lsp_verdict.specs.declared.outcome.RunFault.TheVariants as faults
use Rattle.lsp_extract.specs.Stream.{Refuses, outcome_at, RunsThrough, fault_of, HasParts, RunsFrames}
use Rattle.lsp_extract.specs.Stream.{AreParts, FoundAll, StopsAt, FoundFault, FoundBroken, Finds}
use Rattle.lsp_extract.specs.Stream.{WroteParts, SoFar, ToldAll}
use Rattle.lsp_verdict.specs.Runs.{of_pull}
use Rattle.lsp_extract.proofs.Framing.Parts.{run_through, run_refused}
use Rattle.lsp_extract.proofs.Framing.Due.{stream_front}
use Rattle.lsp_extract.proofs.Framing.Endings.{begun}
use Rattle.lsp_extract.proofs.SameLimits.{frames_at, stream_at}

pub told_all : (limits : Bounds) (mode : Mode) (before now sink_before sink_now sink_new : Told)
    (d e : State) (given given' read : ℕ)
    (so_far : SoFar limits mode before now sink_before sink_now d given read)
    → ((bytes : List ℕ) (contents : List (List ℕ)) (parts : List ℕ) → StandsFor d bytes contents
    → given ≡ length contents → AreParts mode 1 contents parts
    → FoundAll e mode sink_now sink_new given' bytes parts) → e.limits ≡ d.limits
    → given' + length e.rest ≤ given + length d.rest
    → ToldAll limits mode before now sink_before sink_new e given' read
told_all limits mode before now sink_before sink_now sink_new d e given given' read so_far finds
    same room =
    let found = finds so_far.bytes so_far.contents so_far.parts so_far.stands so_far.count
    so_far.are_parts in
    let so_far_room = so_far.room in
    record {
      so_far = record {
        bytes = so_far.bytes;
        contents = found.contents;
        parts = so_far.parts ++ found.parts;
        took = so_far.took;
        no_fault = so_far.no_fault;
        len = so_far.len;
        stands = found.stands;
        are_parts = found.are_parts;
        wrote = wrote_then sink_before sink_now sink_new so_far.parts found.parts so_far.wrote
            found.wrote;
        count = found.count;
        room = omega (arith, room, so_far_room);
        within = so_far.within;
        same_limits = same ∙ so_far.same_limits;
      };
      ends = found.ends;
    }

-- ---- faults of the reader, of the writer and of memory

-- the run stopped while parts were written
pub found_broke : (limits : Bounds) (mode : Mode) (before now sink_before sink_now sink_new : Told)
    (d e : State) (given read : ℕ) (fault : RunFault)
    (so_far : SoFar limits mode before now sink_before sink_now d given read)
    → FoundBroken e mode sink_now sink_new so_far.bytes so_far.parts fault → e.limits ≡ d.limits
    → failures_after fault before.failures ≡ before.failures
    → sink_failures_after fault sink_now.failures ≡ sink_failures_after fault sink_before.failures
    → RunsFrames mode limits (ports before now sink_before sink_new) (Err fault)
found_broke limits mode before now sink_before sink_now sink_new d e given read fault so_far found
    same source sink =
    let len = so_far.len in
    let within = so_far.within in
    begun limits mode before now sink_before sink_new fault so_far.bytes found.rest
    (so_far.parts ++ found.written) found.left found.contents so_far.took
    (omega (arith, len, within))
    (frames_at e.limits limits so_far.bytes found.contents found.rest (same ∙ so_far.same_limits)
    found.frames)
    (subst (λ (w : List ℕ). AreParts mode 1 found.contents w)
    (sym (append_assoc so_far.parts found.written found.left)) found.are_parts)
    (took_then sink_before sink_now sink_new so_far.parts found.written so_far.wrote.took
    found.wrote) (so_far.no_fault ∙ sym source) (found.sink ∙ sink)

pub write_broke : (limits : Bounds) (mode : Mode) (before now sink_before sink_now sink_new : Told)
    (d e : State) (given given' read : ℕ) (fault : RunFault)
    (so_far : SoFar limits mode before now sink_before sink_now d given read)
    → Finds e mode sink_now sink_new given' so_far.bytes so_far.parts (Err fault)
    → e.limits ≡ d.limits
    → RunsFrames mode limits (ports before now sink_before sink_new) (Err fault)
write_broke limits mode before now sink_before sink_now sink_new d e given given' read faults.Write
    so_far found same =
    found_broke limits mode before now sink_before sink_now sink_new d e given read faults.Write
    so_far found same refl (ap after_failure so_far.wrote.failures)
write_broke limits mode before now sink_before sink_now sink_new d e given given' read faults.Memory
    so_far found same =
    found_broke limits mode before now sink_before sink_now sink_new d e given read faults.Memory
    so_far found same refl so_far.wrote.failures
write_broke limits mode before now sink_before sink_now sink_new d e given given' read faults.Read
    so_far found same = absurd found

-- a run at its start
pub nothing_yet : (limits : Bounds) (mode : Mode) (before sink_before : Told) (d : State)
    → d ≡ empty limits → SoFar limits mode before before sink_before sink_before d 0 0
nothing_yet limits mode before sink_before d fresh = record {
  bytes = [];
  contents = [];
  parts = [];
  took = gave_nothing before;
  no_fault = refl;
  len = refl;
  stands = subst (λ (s : State). StandsFor s [] []) (sym fresh) (new_stands limits);
  are_parts = refl;
  wrote = wrote_nothing sink_before;
  count = refl;
  room = omega (arith, ap (λ (s : State). length s.rest) fresh);
  within = omega arith;
  same_limits = ap (λ (s : State). s.limits) fresh;
}

-- nothing more was read
pub unread : (limits : Bounds) (mode : Mode) (before now after sink_before sink_now : Told)
    (d : State) (given read : ℕ) (fault : RunFault)
    → (told : ToldAll limits mode before now sink_before sink_now d given read)
    → Gave before after told.so_far.bytes
    → after.failures ≡ failures_after fault before.failures
    → sink_failures_after fault sink_before.failures ≡ sink_before.failures
    → RunsFrames mode limits (ports before after sink_before sink_now) (Err fault)
unread limits mode before now after sink_before sink_now d given read fault told gave source sink =
    let so_far = told.so_far in
    let len = so_far.len in
    let within = so_far.within in
    begun limits mode before after sink_before sink_now fault so_far.bytes so_far.stands.rest
    so_far.parts [] so_far.contents gave (omega (arith, len, within))
    (frames_at d.limits limits so_far.bytes so_far.contents so_far.stands.rest so_far.same_limits
    so_far.stands.frames)
    (subst (λ (w : List ℕ). AreParts mode 1 so_far.contents w) (sym (append-nil so_far.parts))
    so_far.are_parts) so_far.wrote.took source (so_far.wrote.failures ∙ sym sink)

-- the reader failed
pub read_broke : (limits : Bounds) (mode : Mode) (before now after sink_before sink_now : Told)
    (d : State) (given read : ℕ) → ToldAll limits mode before now sink_before sink_now d given read
    → KeepsBytes now after → after.failures ≡ after_failure now.failures
    → RunsFrames mode limits (ports before after sink_before sink_now) (Err faults.Read)
read_broke limits mode before now after sink_before sink_now d given read told keeps failed =
    unread limits mode before now after sink_before sink_now d given read faults.Read told
    (gave_kept before now after told.so_far.bytes told.so_far.took keeps)
    (failed ∙ ap after_failure told.so_far.no_fault) refl

-- memory was refused
pub memory_broke : (limits : Bounds) (mode : Mode) (before now after sink_before sink_now : Told)
    (d : State) (given read : ℕ) → ToldAll limits mode before now sink_before sink_now d given read
    → after ≡ now
    → RunsFrames mode limits (ports before after sink_before sink_now) (Err faults.Memory)
memory_broke limits mode before now after sink_before sink_now d given read told same =
    unread limits mode before now after sink_before sink_now d given read faults.Memory told
    (subst (λ (t : Told). Gave before t told.so_far.bytes) (sym same) told.so_far.took)
    (ap (λ (t : Told). t.failures) same ∙ told.so_far.no_fault) refl

abbrev failed_pull : PullFault → Result ℕ PullFault
failed_pull fault = Err fault

-- a pull took nothing
pub pull_broke : (limits : Bounds) (mode : Mode) (before now after sink_before sink_now : Told)
    (d e : State) (given read most : ℕ) (fault : PullFault)
    (told : ToldAll limits mode before now sink_before sink_now d given read)
    → (failed_pull fault ≡ failed_pull pulls.Read → PullFails d e now after most)
    → (failed_pull fault ≡ failed_pull pulls.Memory → (e ≡ d) × (after ≡ now))
    → RunsFrames mode limits (ports before after sink_before sink_now) (Err (of_pull fault))
pull_broke limits mode before now after sink_before sink_now d e given read most pulls.Read told
    failed refused = read_broke limits mode before now after sink_before sink_now d given read told
    (failed refl).keeps (failed refl).failures
pull_broke limits mode before now after sink_before sink_now d e given read most pulls.Memory told
    failed refused = memory_broke limits mode before now after sink_before sink_now d given read
    told (refused refl).1

-- ---- the ends of a run

number_at : (given : ℕ) (contents : List (List ℕ)) → given ≡ length contents
    → given + 1 ≡ 1 + length contents
number_at given contents count = omega (arith, count)

-- a fault of the frames decides, whatever follows
faulty_parts : (limits : Bounds) (mode : Mode) (bytes near : List ℕ) (contents : List (List ℕ))
    (rest parts stream : List ℕ) (given rule : ℕ) → take limits.log stream ≡ bytes ++ near
    → IsStream limits bytes contents rest (Some rule) → AreParts mode 1 contents parts
    → given ≡ length contents → HasParts limits mode stream parts (Stream (given + 1) (Rule rule))
faulty_parts limits mode bytes near contents rest parts stream given rule front is_stream are
    count = record {
      contents = contents;
      rest = rest ++ near;
      fault = Some rule;
      is_stream = subst (λ (w : List ℕ). IsStream limits w contents (rest ++ near) (Some rule))
          (sym front) (faulty_more limits bytes contents rest rule near is_stream);
      runs_through = run_through mode 1 contents (Some (Rule rule)) parts (given + 1)
          (number_at given contents count) are;
    }

-- so does a content that is refused
refused_parts : (limits : Bounds) (mode : Mode) (bytes near : List ℕ) (contents : List (List ℕ))
    (content after parts stream : List ℕ) (given rule : ℕ) → take limits.log stream ≡ bytes ++ near
    → Frames limits bytes (contents ++ content ∷ []) after → Refuses mode content rule
    → AreParts mode 1 contents parts → given ≡ length contents
    → HasParts limits mode stream parts (Stream (given + 1) (Rule rule))
refused_parts limits mode bytes near contents content after parts stream given rule front frames
    refused are count =
    let all = some_stream limits (bytes ++ near) in
    let first = frames_first limits (bytes ++ near) (contents ++ content ∷ []) (after ++ near) all.0
    all.1 all.2 (frames_more limits bytes (contents ++ content ∷ []) after near frames) all.3 in
    let longer = nat_lt limits.log (length stream) in
    let fault = fault_of all.2 longer all.1 in
    record {
      contents = all.0;
      rest = all.1;
      fault = all.2;
      is_stream = subst (λ (w : List ℕ). IsStream limits w all.0 all.1 all.2) (sym front) all.3;
      runs_through = subst (λ (cs : List (List ℕ)).
          RunsThrough mode 1 cs fault parts (Stream (given + 1) (Rule rule)))
          (sym (first.1 ∙ append_assoc contents (content ∷ []) first.0))
          (run_refused mode 1 contents content first.0 fault parts rule (given + 1)
          (number_at given contents count) are refused);
    }

stops_parts : (limits : Bounds) (mode : Mode) (e : State) (bytes near : List ℕ)
    (contents : List (List ℕ)) (parts stream : List ℕ) (given rule : ℕ) → e.limits ≡ limits
    → take limits.log stream ≡ bytes ++ near
    → StopsAt e mode bytes contents rule → AreParts mode 1 contents parts → given ≡ length contents
    → HasParts limits mode stream parts (Stream (given + 1) (Rule rule))
stops_parts limits mode e bytes near contents parts stream given rule same front (inl ends) are
    count =
    faulty_parts limits mode bytes near contents ends.0 parts stream given rule front
    (stream_at e.limits limits bytes contents ends.0 (Some rule) same ends.1) are count
stops_parts limits mode e bytes near contents parts stream given rule same front (inr stop) are
    count =
    refused_parts limits mode bytes near contents stop.0 stop.1 parts stream given rule front
    (frames_at e.limits limits bytes (contents ++ stop.0 ∷ []) stop.1 same stop.2) stop.3 are
    count

pub fault_ran : (limits : Bounds) (mode : Mode) (before now sink_before sink_now sink_new : Told)
    (d e : State) (given given' read rule : ℕ)
    (so_far : SoFar limits mode before now sink_before sink_now d given read)
    → FoundFault e mode sink_now sink_new given' so_far.bytes so_far.parts rule
    → e.limits ≡ d.limits → WroteParts limits mode before now sink_before sink_new
    (Stream (given' + 1) (Rule rule))
fault_ran limits mode before now sink_before sink_now sink_new d e given given' read rule so_far
    found same =
    let len = so_far.len in
    let within = so_far.within in
    record {
      parts = so_far.parts ++ found.parts;
      no_fault = so_far.no_fault;
      wrote = wrote_then sink_before sink_now sink_new so_far.parts found.parts so_far.wrote
          found.wrote;
      due = record {
        bytes = so_far.bytes;
        ended = false;
        read = record {
          gave = so_far.took;
          no_further = omega (arith, len, within);
          end = λ h. absurd (false≢true h);
        };
        holds = λ stream goes.
            let near = take (limits.log - length so_far.bytes) goes.0 in
            let front : take limits.log stream ≡ so_far.bytes ++ near =
            ap (take limits.log) goes.1
            ∙ stream_front limits so_far.bytes goes.0 (omega (arith, len, within)) in
            stops_parts limits mode e so_far.bytes near found.contents (so_far.parts ++ found.parts)
            stream given' rule (same ∙ so_far.same_limits) front found.stops found.are_parts
            found.count;
      };
    }

-- the source is at its end
pub end_ran : (limits : Bounds) (mode : Mode) (before now after sink_before sink_now : Told)
    (d : State) (given read : ℕ) (outcome : Outcome)
    → ToldAll limits mode before now sink_before sink_now d given read
    → Gave now after [] → IsAtEnd after.bytes → after.failures ≡ now.failures
    → (d.fault ≡ None → outcome ≡ outcome_at (given + 1) (fault_of None false d.rest))
    → WroteParts limits mode before after sink_before sink_now outcome
end_ran limits mode before now after sink_before sink_now d given read outcome told took end
    no_fault at =
    let so_far = told.so_far in
    let len = so_far.len in
    let within = so_far.within in
    record {
      parts = so_far.parts;
      no_fault = no_fault ∙ so_far.no_fault;
      wrote = so_far.wrote;
      due = record {
        bytes = so_far.bytes;
        ended = true;
        read = record {
          gave = subst (λ (w : List ℕ). Gave before after w) (append-nil so_far.bytes)
              (gave_then before now after so_far.bytes [] so_far.took took);
          no_further = omega (arith, len, within);
          end = λ h. end;
        };
        holds = λ stream goes.
            let same : stream ≡ so_far.bytes =
            goes.1 ∙ ap (λ (w : List ℕ). so_far.bytes ++ w) (goes.2 refl)
            ∙ append-nil so_far.bytes in
            let short : length so_far.bytes ≤ limits.log = omega (arith, len, within) in
            let whole : take limits.log stream ≡ so_far.bytes =
            ap (take limits.log) same ∙ take_all limits.log so_far.bytes short in
            let not_longer : nat_lt limits.log (length stream) ≡ false =
            ap (λ (w : List ℕ). nat_lt limits.log (length w)) same
            ∙ le-ltb limits.log (length so_far.bytes) short in
            record {
              contents = so_far.contents;
              rest = d.rest;
              fault = None;
              is_stream = subst (λ (w : List ℕ). IsStream limits w so_far.contents d.rest None)
                  (sym whole) (stream_at d.limits limits so_far.bytes so_far.contents d.rest None
                  so_far.same_limits told.ends.1);
              runs_through = subst (λ (b : Bool). RunsThrough mode 1 so_far.contents
                  (fault_of None b d.rest) so_far.parts outcome) (sym not_longer)
                  (subst (λ (o : Outcome). RunsThrough mode 1 so_far.contents
                  (fault_of None false d.rest) so_far.parts o) (sym (at told.ends.0))
                  (run_through mode 1 so_far.contents (fault_of None false d.rest) so_far.parts
                  (given + 1) (number_at given so_far.contents so_far.count) so_far.are_parts));
            };
      };
    }

pub taken_open : (d : State) (more : ℕ) (piece : List ℕ) → d.fault ≡ None
    → taken d more piece ≡ record d { kept = []; rest = d.rest ++ piece; room = room_for d more }
taken_open d more piece none = ap (λ (f : Option ℕ). taken_at f d more piece) none

-- a pull that gave nothing, at the end of the source
pub end_pulled : (limits : Bounds) (mode : Mode) (before now after sink_before sink_now : Told)
    (d e : State) (given read most n : ℕ) (outcome : Outcome)
    → ToldAll limits mode before now sink_before sink_now d given read
    → Pulls d e now after most n → n ≡ 0 → IsAtEnd after.bytes
    → (e.fault ≡ None → outcome ≡ outcome_at (given + 1) (fault_of None false e.rest))
    → WroteParts limits mode before after sink_before sink_now outcome
end_pulled limits mode before now after sink_before sink_now d e given read most n outcome told
    pulls none end at =
    let empty_piece : pulls.piece ≡ [] = nil_from_length pulls.piece (pulls.count ∙ none) in
    let taken_is : e ≡ record d {
      kept = [];
      rest = d.rest ++ pulls.piece;
      room = room_for d most;
    } = pulls.taken ∙ taken_open d most pulls.piece told.ends.0 in
    let same_rest : e.rest ≡ d.rest =
    ap (λ (s : State). s.rest) taken_is ∙ ap (λ (w : List ℕ). d.rest ++ w) empty_piece
    ∙ append-nil d.rest in
    let open_still : e.fault ≡ None = ap (λ (s : State). s.fault) taken_is ∙ told.ends.0 in
    end_ran limits mode before now after sink_before sink_now d given read outcome told
    (subst (λ (w : List ℕ). Gave now after w) empty_piece pulls.gave) end pulls.failures
    (λ closed. at open_still
    ∙ ap (λ (w : List ℕ). outcome_at (given + 1) (fault_of None false w)) same_rest)

-- a byte past the limit
pub too_long_ran : (limits : Bounds) (mode : Mode) (before now after sink_before sink_now : Told)
    (d : State) (given read : ℕ) (byte : List ℕ)
    → ToldAll limits mode before now sink_before sink_now d given read
    → read ≡ limits.log → length byte ≡ 1 → Gave now after byte → after.failures ≡ now.failures
    → WroteParts limits mode before after sink_before sink_now (Stream (given + 1) TooLong)
too_long_ran limits mode before now after sink_before sink_now d given read byte told full one took
    no_fault =
    let so_far = told.so_far in
    let len = so_far.len in
    record {
      parts = so_far.parts;
      no_fault = no_fault ∙ so_far.no_fault;
      wrote = so_far.wrote;
      due = record {
        bytes = so_far.bytes ++ byte;
        ended = false;
        read = record {
          gave = gave_then before now after so_far.bytes byte so_far.took took;
          no_further = omega (arith, len, full, one, length-append so_far.bytes byte);
          end = λ h. absurd (false≢true h);
        };
        holds = λ stream goes.
            let first : take limits.log stream ≡ so_far.bytes =
            ap (take limits.log) (goes.1 ∙ append_assoc so_far.bytes byte goes.0)
            ∙ take_at so_far.bytes (byte ++ goes.0) limits.log (len ∙ full) in
            let long : limits.log < length stream =
            omega (
              arith,
              len,
              full,
              one,
              ap length goes.1,
              length-append so_far.bytes byte,
              length-append (so_far.bytes ++ byte) goes.0,
            ) in
            record {
              contents = so_far.contents;
              rest = d.rest;
              fault = None;
              is_stream = subst (λ (w : List ℕ). IsStream limits w so_far.contents d.rest None)
                  (sym first) (stream_at d.limits limits so_far.bytes so_far.contents d.rest None
                  so_far.same_limits told.ends.1);
              runs_through = subst (λ (b : Bool). RunsThrough mode 1 so_far.contents
                  (fault_of None b d.rest) so_far.parts (Stream (given + 1) TooLong))
                  (sym (lt-ltb limits.log (length stream) long))
                  (run_through mode 1 so_far.contents (Some TooLong) so_far.parts (given + 1)
                  (number_at given so_far.contents so_far.count) so_far.are_parts);
            };
      };
    }

-- ---- the next piece

unfoldable pub push_on : (limits : Bounds) (mode : Mode)
    (before now after sink_before sink_now : Told) (d e : State) (given read : ℕ) (piece : List ℕ)
    (told : ToldAll limits mode before now sink_before sink_now d given read)
    → Gave now after piece → after.failures ≡ now.failures → (more : ℕ) → e ≡ taken d more piece
    → StandsFor e (told.so_far.bytes ++ piece) told.so_far.contents
    → read + length piece ≤ limits.log
    → SoFar limits mode before after sink_before sink_now e given (read + length piece)
push_on limits mode before now after sink_before sink_now d e given read piece told took no_fault
    more is stands fits =
    let so_far = told.so_far in
    let open_rest : e ≡ record d { kept = []; rest = d.rest ++ piece; room = room_for d more } =
    is ∙ taken_open d more piece told.ends.0 in
    let room = so_far.room in
    let len = so_far.len in
    record {
      bytes = so_far.bytes ++ piece;
      contents = so_far.contents;
      parts = so_far.parts;
      took = gave_then before now after so_far.bytes piece so_far.took took;
      no_fault = no_fault ∙ so_far.no_fault;
      len = omega (arith, len, length-append so_far.bytes piece);
      stands = stands;
      are_parts = so_far.are_parts;
      wrote = so_far.wrote;
      count = so_far.count;
      room = omega (
        arith,
        room,
        ap (λ (s : State). length s.rest) open_rest,
        length-append d.rest piece,
      );
      within = fits;
      same_limits = ap (λ (s : State). s.limits) open_rest ∙ so_far.same_limits;
    }

-- the piece that a pull gave is pushed
pub pull_taken : (limits : Bounds) (mode : Mode) (before now after sink_before sink_now : Told)
    (d e : State) (given read most n : ℕ)
    → ToldAll limits mode before now sink_before sink_now d given read
    → Pulls d e now after most n → read + n ≤ limits.log
    → SoFar limits mode before after sink_before sink_now e given (read + n)
pull_taken limits mode before now after sink_before sink_now d e given read most n told pulls
    within =
    let len = pulls.count in
    subst (λ (k : ℕ). SoFar limits mode before after sink_before sink_now e given (read + k)) len
    (push_on limits mode before now after sink_before sink_now d e given read pulls.piece told
    pulls.gave pulls.failures most pulls.taken
    (pulls.stands told.so_far.bytes told.so_far.contents told.so_far.stands)
    (omega (arith, len, within)))
