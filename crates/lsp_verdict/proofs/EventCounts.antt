-- A log within its limit has no more events than a u64 counts, so the counts of its verdict are
-- exact.
use Rattle.std.proofs.Common.{◌≡◌, ℕ, ◌+◌, ◌≤◌, Bool, true, false, List, [], ◌∷◌, ◌++◌, Option, Some, None, refl, ap, length, map, length-append, arith}
use Rattle.std.specs.List.{flat_map, AllZip, cons_option}
use Rattle.std.specs.Prelude.{filter, if◌then◌else◌}
use Rattle.std.proofs.lemmas.List.{length-take, length-map}
use Rattle.std.proofs.lemmas.List.Sums.{length-filter, count_by-le-length}
use Rattle.lsp_frame.specs.Bounds.{Bounds}
use Rattle.lsp_frame.specs.Frame.{Frames, IsStream}
use Rattle.lsp_frame.specs.Header.{blank_line}
use Rattle.lsp_frame.specs.declared.format.Format.{Format}
use Rattle.lsp_types.specs.declared.side.Side.{Side}
use Rattle.lsp_types.specs.declared.side.Side.TheVariants.{Editor, Server}
use Rattle.lsp_docs.specs.Calls.{Call, opens, changes, closes, saves, shows}
use Rattle.lsp_docs.specs.Snapshots.{unmatched_entry, unmatched_in, is_compared}
use Rattle.lsp_docs.specs.Documents.{Terms}
use Rattle.lsp_log.specs.Log.{Record, chunk, shown, spelling, with_feed, head_line, head_of, parts_of, first_line, BeginsLog}
use Rattle.lsp_verdict.specs.Event.{Event}
use Rattle.lsp_verdict.specs.LookBack.{each_from}
use Rattle.lsp_verdict.specs.Placed.{Raw, content, Brings, new_fault, PlacedAfter, Placed, Reads}
use Rattle.lsp_verdict.proofs.Below.{one_stream, some_stream}

-- ---- contents

frames_few : (limits : Bounds) (bytes : List ℕ) (contents : List (List ℕ)) (rest : List ℕ) → Frames limits bytes contents rest → length contents ≤ length bytes
frames_few limits bytes [] rest p = omega arith
frames_few limits bytes (c ∷ cs) rest (after, (frame, whole, is), more) =
    omega (
      arith,
      frames_few limits after cs rest more,
      ap length whole,
      length-append frame after,
      ap length is.whole,
      length-append is.header c,
      ap length is.part.ends.1,
      length-append is.part.ends.0 blank_line,
    )

new_fault_few : (side : Side) (old last : Option ℕ) → length (new_fault side old last) ≤ 1
new_fault_few side None (Some rule) = omega arith
new_fault_few side None None = omega arith
new_fault_few side (Some rule) last = omega arith

-- what a stream is with more bytes, and how many events they bring
record Goes (limits : Bounds) (bytes : List ℕ) (contents : List (List ℕ)) (now : List Raw) : Type 0 where
  more : List (List ℕ)
  rest : List ℕ
  fault : Option ℕ
  stream : IsStream limits bytes more rest fault
  few : length now + length contents ≤ length more + 1

goes : (limits : Bounds) (side : Side) (before more : List ℕ) (contents : List (List ℕ)) (rest : List ℕ) (flaw : Option ℕ) (now : List Raw) → IsStream limits before contents rest flaw → Brings limits side before more now
    → Goes limits (before ++ more) contents now
goes limits side before more contents rest flaw now stream b =
    let same : contents ≡ b.contents = (one_stream limits before contents b.contents rest b.rest flaw b.old_fault stream b.stream).contents in
    record {
      more = b.contents ++ b.new_contents;
      rest = b.new_rest;
      fault = b.last_fault;
      stream = b.new_stream;
      few = omega (
        arith,
        ap length same,
        ap length b.brought,
        length-append b.contents b.new_contents,
        length-append (map (content side) b.new_contents) (new_fault side b.old_fault b.last_fault),
        length-map b.new_contents (content side),
        new_fault_few side b.old_fault b.last_fault,
      );
    }

-- ---- records

abbrev weight : List Record → ℕ
weight [] = 0
weight (chunk side bytes ∷ records) = length bytes + 1 + weight records
weight (shown number uri text ∷ records) = 1 + weight records

placed_few : (limits : Bounds) (editor server : List ℕ) (records : List Record) (raws : List Raw) (es ss : List (List ℕ)) (r t : List ℕ) (f g : Option ℕ) → IsStream limits editor es r f → IsStream limits server ss t g
    → PlacedAfter limits editor server records raws → length raws + length es + length ss ≤ length editor + length server + weight records
placed_few limits editor server [] raws es ss r t f g p q placed =
    omega (arith, ap length placed, frames_few limits editor es r p.frames, frames_few limits server ss t q.frames)
placed_few limits editor server (chunk Editor b ∷ records) raws es ss r t f g p q (now, later, split, brings, placed) =
    let next = goes limits Editor editor b es r f now p brings in
    omega (
      arith,
      placed_few limits (editor ++ b) server records later next.more ss next.rest t next.fault g next.stream q placed,
      next.few,
      ap length split,
      length-append now later,
      length-append editor b,
    )
placed_few limits editor server (chunk Server b ∷ records) raws es ss r t f g p q (now, later, split, brings, placed) =
    let next = goes limits Server server b ss t g now q brings in
    omega (
      arith,
      placed_few limits editor (server ++ b) records later es next.more r next.rest f next.fault p next.stream placed,
      next.few,
      ap length split,
      length-append now later,
      length-append server b,
    )
placed_few limits editor server (shown n u x ∷ records) raws es ss r t f g p q (later, split, placed) =
    omega (arith, placed_few limits editor server records later es ss r t f g p q placed, ap length split)

spelled : (r : Record) → weight (r ∷ []) ≤ length (spelling r)
spelled (chunk side b) =
    let line = head_line (head_of (chunk side b)) in
    omega (arith, length-append (with_feed line) (flat_map with_feed (b ∷ [])), length-append line (10 ∷ []), length-append (with_feed b) [], length-append b (10 ∷ []))
spelled (shown n u x) =
    let line = head_line (head_of (shown n u x)) in
    omega (arith, length-append (with_feed line) (flat_map with_feed (parts_of (shown n u x))), length-append line (10 ∷ []))

weight_next : (r : Record) (records : List Record) → weight (r ∷ records) ≡ weight (r ∷ []) + weight records
weight_next (chunk side b) records = omega arith
weight_next (shown n u x) records = omega arith

weight_few : (records : List Record) → weight records ≤ length (flat_map spelling records)
weight_few [] = omega arith
weight_few (r ∷ records) = omega (arith, weight_next r records, weight_few records, spelled r, length-append (spelling r) (flat_map spelling records))

pub read_one : (raws : List Raw) (events : List Event) → AllZip Reads raws events → length raws ≡ length events
read_one [] [] p = refl
read_one (raw ∷ raws) (e ∷ es) p = omega (arith, read_one raws es p.1)
read_one _ _ p = absurd p

-- a log has no more events than bytes
pub raws_few : (limits : Bounds) (format : Format) (log : List ℕ) (records : List Record) (rest : List ℕ) (raws : List Raw) → BeginsLog limits format log records rest → Placed limits records raws → length raws ≤ limits.log
raws_few limits format log records rest raws begins placed =
    let none = some_stream limits [] in
    omega (
      arith,
      placed_few limits [] [] records raws none.0 none.0 none.1 none.1 none.2 none.2 none.3 none.3 placed,
      weight_few records,
      ap length begins.whole,
      length-take limits.log log,
      length-append (first_line format ++ flat_map spelling records) rest,
      length-append (first_line format) (flat_map spelling records),
    )

-- ---- counts

pub count_few : {X : Type 0} (test : X → Bool) (xs : List X) → length (filter test xs) ≤ length xs
count_few test xs = omega (arith, length-filter test xs, count_by-le-length test xs)

calls_few : (f : List Event → Event → Option Call) (before events : List Event) → length (each_from f before events) ≤ length events
calls_few f before [] = omega arith
calls_few f before (e ∷ events) = omega (arith, by_call (f before e) (calls_few f (before ++ e ∷ []) events))
  where
    by_call : (o : Option Call) → length (each_from f (before ++ e ∷ []) events) ≤ length events → length (cons_option o (each_from f (before ++ e ∷ []) events)) ≤ length events + 1
    by_call None few = omega (arith, few)
    by_call (Some c) few = omega (arith, few)

one_entry : (b : Bool) → (if b then 0 else 1) ≤ 1
one_entry true = omega arith
one_entry false = omega arith

entry_few : (terms : Terms) (before : List Call) (c : Call) (after : List Call) → unmatched_entry terms before c after ≤ 1
entry_few terms before (shows uri number t) after = one_entry (is_compared terms before uri number after)
entry_few terms before _ after = omega arith

pub unmatched_few : (terms : Terms) (before made : List Call) → unmatched_in terms before made ≤ length made
unmatched_few terms before [] = omega arith
unmatched_few terms before (c ∷ made) = omega (arith, entry_few terms before c made, unmatched_few terms (before ++ c ∷ []) made)

pub unmatched_events : (terms : Terms) (f : List Event → Event → Option Call) (events : List Event) → unmatched_in terms [] (each_from f [] events) ≤ length events
unmatched_events terms f events = omega (arith, unmatched_few terms [] (each_from f [] events), calls_few f [] events)
