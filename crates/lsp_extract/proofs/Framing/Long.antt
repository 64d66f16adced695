-- A content that was let go past the decoder, of which only the length is written.
use Rattle.std.proofs.Common.{◌≡◌, ℕ, ◌+◌, ◌-◌, ◌≤◌, ◌<◌, List, [], ◌∷◌, ◌++◌, length, Bool, false}
use Rattle.std.proofs.Common.{None, Result, Err, refl, sym, ap, subst, ◌∙◌, append-nil, arith}
use Rattle.std.proofs.lemmas.List.{length-append, length_push}
use Rattle.lsp_replay.specs.Common.{after_failure, Bounds, Frames, Lengths, Misses, Mode, ports}
use Rattle.lsp_replay.specs.Common.{RunFault, State, Stopped, Told}
use Rattle.lsp_frame.specs.Sink.{Wrote}
use Rattle.lsp_frame.specs.Decoder.{EndsWith, pushed, room_for}
use Rattle.lsp_frame.specs.Pulling.{window_of, GavePast, FailsPast, PassesAll, EndsBefore}
use Rattle.lsp_frame.specs.Pulling.{Passes}
use Rattle.lsp_frame.specs.declared.decoder.Missing.{Missing}
use Rattle.lsp_frame.proofs.Frames.{frames_more}
use Rattle.lsp_frame.proofs.Steps.{open_rest, push_stands}
use Rattle.lsp_frame.proofs.Telling.{gave_nothing, gave_then}
use Rattle.lsp_frame.proofs.Writing.{wrote_then}
use Rattle.lsp_frame.specs.declared.decoder.PullFault.{PullFault}
use Rattle.lsp_frame.specs.declared.decoder.PullFault.TheVariants as pulls
use Rattle.lsp_verdict.specs.Runs.{of_pull}
use Rattle.lsp_verdict.specs.declared.outcome.Outcome.{Outcome}
use Rattle.lsp_verdict.specs.declared.outcome.RunFault.TheVariants as faults
use Rattle.lsp_extract.specs.Stream.{numbers, length_line, outcome_at, RunsFrames, fault_of, AreParts}
use Rattle.lsp_extract.specs.Stream.{WroteParts, SoFar, ToldAll, IsLong, LongAnswer}
use Rattle.lsp_extract.proofs.Framing.Parts.{parts_push}
use Rattle.lsp_extract.proofs.Framing.Runs.{taken_open, push_on, memory_broke, read_broke, end_ran}
use Rattle.lsp_extract.proofs.Framing.Runs.{found_broke}

-- ---- some of what is missing came

partly : (limits : Bounds) (before now after sink_before sink_now : Told) (d : State)
    (given read n : ℕ) (missing : Missing) → Misses d missing
    → (told : ToldAll limits Lengths before now sink_before sink_now d given read)
    → (past : GavePast now after n) → n < missing.bytes → read + missing.bytes ≤ limits.log
    → ToldAll limits Lengths before after sink_before sink_now (pushed d past.piece) given
    (read + length past.piece)
unfolding push_on
partly limits before now after sink_before sink_now d given read n missing misses told past fewer
    fits =
    let piece = past.piece in
    let bytes = told.so_far.bytes in
    let contents = told.so_far.contents in
    let count = past.count in
    let stands = push_stands d piece bytes contents told.so_far.stands in
    let unfinished = misses.unfinished piece (omega (arith, count, fewer)) in
    let open_now : pushed d piece ≡ record d {
      kept = [];
      rest = d.rest ++ piece;
      room = room_for d (length piece);
    } = taken_open d (length piece) piece misses.no_fault in
    let same = open_rest d told.so_far.stands.rest misses.no_fault told.so_far.stands.held in
    record {
      so_far = push_on limits Lengths before now after sink_before sink_now d (pushed d piece) given
          read piece told past.gave past.failures (length piece) refl stands
          (omega (arith, count, fewer, fits));
      ends = subst (λ (s : State). EndsWith s (bytes ++ piece) contents None) (sym open_now) (
        misses.no_fault,
        record {
          frames = subst (λ (w : List ℕ). Frames d.limits (bytes ++ piece) contents (w ++ piece))
              same (frames_more d.limits bytes contents told.so_far.stands.rest piece
              told.so_far.stands.frames);
          no_more = unfinished.no_frame;
          fault = unfinished.no_fault;
        },
      );
    }

-- the reader failed inside the content
pub long_unread : (limits : Bounds) (before now after sink_before sink_now : Told) (d : State)
    (given read : ℕ) (missing : Missing) → Misses d missing
    → ToldAll limits Lengths before now sink_before sink_now d given read
    → FailsPast now after missing.bytes → read + missing.bytes ≤ limits.log
    → RunsFrames Lengths limits (ports before after sink_before sink_now) (Err faults.Read)
long_unread limits before now after sink_before sink_now d given read missing misses told fails
    fits =
    read_broke limits Lengths before fails.middle after sink_before sink_now
    (pushed d fails.past.piece) given (read + length fails.past.piece)
    (partly limits before now fails.middle sink_before sink_now d given read fails.n missing misses
    told fails.past fails.fewer fits) fails.keeps fails.failures

-- bytes that are left stay left
still_left : (rest piece : List ℕ) → 0 < length rest
    → fault_of None false (rest ++ piece) ≡ fault_of None false rest
still_left [] piece some = absurd (omega (arith, some))
still_left (b ∷ rest) piece some = refl

-- the source ended inside the content
pub long_ended : (limits : Bounds) (before now after sink_before sink_now : Told) (d e : State)
    (given read : ℕ) (missing : Missing) → Misses d missing
    → ToldAll limits Lengths before now sink_before sink_now d given read
    → EndsBefore d e now after missing → read + missing.bytes ≤ limits.log
    → (outcome : Outcome) → (e.fault ≡ None
    → outcome ≡ outcome_at (given + 1) (fault_of None false e.rest))
    → WroteParts limits Lengths before after sink_before sink_now outcome
long_ended limits before now after sink_before sink_now d e given read missing misses told ends fits
    outcome at =
    let piece = ends.past.piece in
    let whole = partly limits before now after sink_before sink_now d given read ends.n missing
    misses told ends.past ends.fewer fits in
    let kept : e ≡ record d {
      kept = [];
      rest = d.rest ++ [];
      room = room_for d (window_of missing);
    } = ends.kept ∙ taken_open d (window_of missing) [] misses.no_fault in
    let rest : e.rest ≡ d.rest = ap (λ (s : State). s.rest) kept ∙ append-nil d.rest in
    let all : (pushed d piece).rest ≡ d.rest ++ piece =
    ap (λ (s : State). s.rest) (taken_open d (length piece) piece misses.no_fault) in
    end_ran limits Lengths before after after sink_before sink_now (pushed d piece) given
    (read + length piece) outcome whole (gave_nothing after) ends.end refl
    (λ closed. at (ap (λ (s : State). s.fault) kept ∙ misses.no_fault)
    ∙ ap (λ (w : List ℕ). outcome_at (given + 1) (fault_of None false w)) rest
    ∙ ap (outcome_at (given + 1)) (sym (still_left d.rest piece misses.begun))
    ∙ ap (λ (w : List ℕ). outcome_at (given + 1) (fault_of None false w)) (sym all))

-- ---- all that is missing came

here : (given n len : ℕ) (content : List ℕ) → given ≡ n → length content ≡ len
    → numbers (given + 1) len (10 ∷ []) ≡ length_line (1 + n) content
here given n len content same is =
    let at : given + 1 ≡ 1 + n = omega (arith, same) in
    ap (λ (k : ℕ). numbers k len (10 ∷ [])) at
    ∙ ap (λ (k : ℕ). numbers (1 + n) k (10 ∷ [])) (sym is)

long_parts : (given len : ℕ) (content parts : List ℕ) (contents : List (List ℕ))
    → given ≡ length contents → length content ≡ len → AreParts Lengths 1 contents parts
    → AreParts Lengths 1 (contents ++ content ∷ []) (parts ++ numbers (given + 1) len (10 ∷ []))
long_parts given len content parts contents count is are =
    parts_push Lengths 1 contents content parts (numbers (given + 1) len (10 ∷ [])) are
    (here given (length contents) len content count is)

-- and its length was written
pub long_written : (limits : Bounds) (before now after sink_before sink_now sink_new : Told)
    (d e : State) (given read : ℕ) (missing : Missing)
    → ToldAll limits Lengths before now sink_before sink_now d given read
    → PassesAll d e now after missing → 0 < missing.bytes → read + missing.bytes ≤ limits.log
    → Wrote sink_now sink_new (numbers (given + 1) missing.content (10 ∷ []))
    → SoFar limits Lengths before after sink_before sink_new e (given + 1) (read + missing.bytes)
long_written limits before now after sink_before sink_now sink_new d e given read missing told
    passes some fits wrote =
    let so_far = told.so_far in
    let piece = passes.past.piece in
    let count = passes.past.count in
    let len = so_far.len in
    let room = so_far.room in
    record {
      bytes = so_far.bytes ++ piece;
      contents = so_far.contents ++ passes.content ∷ [];
      parts = so_far.parts ++ numbers (given + 1) missing.content (10 ∷ []);
      took = gave_then before now after so_far.bytes piece so_far.took passes.past.gave;
      no_fault = passes.past.failures ∙ so_far.no_fault;
      len = omega (arith, len, count, length-append so_far.bytes piece);
      stands = passes.stands so_far.bytes so_far.contents so_far.stands;
      are_parts = long_parts given missing.content passes.content so_far.parts so_far.contents
          so_far.count passes.len so_far.are_parts;
      wrote = wrote_then sink_before sink_now sink_new so_far.parts
          (numbers (given + 1) missing.content (10 ∷ [])) so_far.wrote wrote;
      count = ap (λ (n : ℕ). n + 1) so_far.count ∙ sym (length_push so_far.contents passes.content);
      room = omega (arith, room, some, ap (λ (s : State). length s.rest) passes.let_go);
      within = fits;
      same_limits = ap (λ (s : State). s.limits) passes.let_go ∙ so_far.same_limits;
    }

-- but its length was not written
pub long_unwritten : (limits : Bounds) (before now after sink_before sink_now sink_new : Told)
    (d e : State) (given read : ℕ) (missing : Missing) → Misses d missing
    → ToldAll limits Lengths before now sink_before sink_now d given read
    → PassesAll d e now after missing → read + missing.bytes ≤ limits.log
    → Stopped sink_now sink_new (numbers (given + 1) missing.content (10 ∷ []))
    → RunsFrames Lengths limits (ports before after sink_before sink_new) (Err faults.Write)
unfolding push_on
long_unwritten limits before now after sink_before sink_now sink_new d e given read missing misses
    told passes fits stopped =
    let so_far = told.so_far in
    let piece = passes.past.piece in
    let count = passes.past.count in
    let stands = passes.stands so_far.bytes so_far.contents so_far.stands in
    let pushed_far = push_on limits Lengths before now after sink_before sink_now d (pushed d piece)
    given read piece told passes.past.gave passes.past.failures (length piece) refl
    (push_stands d piece so_far.bytes so_far.contents so_far.stands)
    (omega (arith, count, fits)) in
    let same_pushed : e.limits ≡ (pushed d piece).limits =
    ap (λ (s : State). s.limits) passes.let_go
    ∙ sym (ap (λ (s : State). s.limits) (taken_open d (length piece) piece misses.no_fault)) in
    found_broke limits Lengths before after sink_before sink_now sink_new (pushed d piece) e given
    (read + length piece) faults.Write pushed_far
    (record {
      contents = so_far.contents ++ passes.content ∷ [];
      rest = stands.rest;
      written = stopped.front;
      left = stopped.back;
      frames = stands.frames;
      are_parts = subst (λ (w : List ℕ). AreParts Lengths 1 (so_far.contents ++ passes.content ∷ [])
          (so_far.parts ++ w)) stopped.whole
          (long_parts given missing.content passes.content so_far.parts so_far.contents so_far.count
          passes.len so_far.are_parts);
      wrote = stopped.took;
      sink = stopped.failures;
    })
    same_pushed refl (ap after_failure so_far.wrote.failures)

-- ---- nothing of what is missing came, or not all

pub long_failed : (limits : Bounds) (before now after sink_before sink_now : Told) (d e : State)
    (given read : ℕ) (missing : Missing) (fault : PullFault) → Misses d missing
    → ToldAll limits Lengths before now sink_before sink_now d given read
    → Passes d e now after missing (Err fault) → read + missing.bytes ≤ limits.log
    → RunsFrames Lengths limits (ports before after sink_before sink_now) (Err (of_pull fault))
long_failed limits before now after sink_before sink_now d e given read missing pulls.Read misses
    told passes fits = long_unread limits before now after sink_before sink_now d given read missing
    misses told passes.0 fits
long_failed limits before now after sink_before sink_now d e given read missing pulls.Memory misses
    told passes fits = memory_broke limits Lengths before now after sink_before sink_now d given
    read told passes.1

-- ---- in a run

pub long_answered : (limits : Bounds) (mode : Mode)
    (before now after sink_before sink_now sink_new : Told) (d e : State) (given new log read : ℕ)
    (missing : Missing) (r : Result Bool RunFault)
    → ToldAll limits mode before now sink_before sink_now d given read → log ≡ limits.log
    → IsLong d mode (log - read) missing
    → ((own : Bounds) (first sink_first : Told) (n : ℕ)
    → ToldAll own Lengths first now sink_first sink_now d given n → n + missing.bytes ≤ own.log
    → LongAnswer own Lengths first after sink_first sink_new e new (n + missing.bytes) r)
    → LongAnswer limits mode before after sink_before sink_new e new (read + missing.bytes) r
long_answered limits mode before now after sink_before sink_now sink_new d e given new log read
    missing r told is long answer =
    let measured = subst (λ (m : Mode). ToldAll limits m before now sink_before sink_now d given
    read) long.mode_is told in
    let within = told.so_far.within in
    let few = long.within in
    subst (λ (m : Mode). LongAnswer limits m before after sink_before sink_new e new
    (read + missing.bytes) r) (sym long.mode_is)
    (answer limits before sink_before read measured (omega (arith, within, few, is)))
