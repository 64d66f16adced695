-- What a reader answers where no record is left, or where reading stops.
use Rattle.std.proofs.Common.{◌≡◌, ◌⊎◌, ℕ, ◌+◌, ◌-◌, ◌<◌, ◌≤◌, Bool, true, false, List, [], ◌∷◌, ◌++◌, length, take, drop, Option, Some, None, IsSome, Result, Ok, Err, refl, sym, ap, subst, ◌∙◌, append_assoc, append-nil, inl, inr, arith}
use Rattle.std.specs.Prelude.{nat_lt}
use Rattle.std.specs.List.{flat_map, AllByRecursion}
use Rattle.std.specs.Io.KnownBytes.{IsAtEnd}
use Rattle.std.proofs.lemmas.List.{length-append, take-append-le, take-append-drop, take_at, length-take, take_all}
use Rattle.std.proofs.lemmas.Bool.{cases_lt}
use borrow.Author.Tests.{lt-ltb, ltb-true}
use Rattle.lsp_frame.specs.Bounds.{Bounds, IsInRange}
use Rattle.lsp_frame.specs.Told.{Told, Gave}
use Rattle.lsp_frame.specs.declared.format.Format.{Format}
use Rattle.lsp_log.specs.Log as log
use Rattle.lsp_log.specs.Log.{Flaw, bad_line, bad_number, cut_short, bad_end, not_utf8, EndsWith, Fits, spelling, first_line, HasRecords, IsLog, code_of, at_record, wants_bytes}
use Rattle.lsp_log.specs.Place.{place_of, line_of, shown_line, found_behind}
use Rattle.lsp_log.specs.Tape.{Held, ReadFailed, IsOver, IsCutAt}
use Rattle.lsp_log.specs.Room.{AwaitsRecord}
use Rattle.lsp_log.specs.Stops.{Ends, EndsAt, HoldsLine, ReadsFew, Refused, LacksFirst}
use Rattle.lsp_log.specs.Reader.{State, StandsFor, StandsAt, Reads, ReadsNone, Begins, LacksLine, ShowsNear, Given, kept_by, kept_in, MayFollow, TellsFormat, answer_of}
use Rattle.lsp_log.specs.Ending.{FailsBehind, FoundFrom, EndAnswer, CutEnd, end_of, next_number, fault_of}
use Rattle.lsp_log.specs.declared.fault.LogCode.{LogCode}
use Rattle.lsp_log.specs.declared.fault.LogCode.TheVariants.{L1}
use Rattle.lsp_log.specs.declared.fault.LogFault.{LogFault}
use Rattle.lsp_log.specs.declared.fault.LogFault.TheVariants as log_fault
use Rattle.lsp_log.specs.declared.stop.Stop.{Stop}
use Rattle.lsp_log.specs.declared.stop.Stop.TheVariants.{FirstLine, Nothing, Form, Number, Short, End, Text, Read, Memory}
use Rattle.lsp_log.specs.declared.reader.Progress.{Progress}
use Rattle.lsp_log.specs.declared.reader.Progress.TheVariants as progress
use Rattle.lsp_frame.proofs.Telling.{gave_then}
use Rattle.lsp_frame.proofs.Frames.{take_beyond}
use Rattle.lsp_log.proofs.LogLemmas.{first_len}
use Rattle.lsp_log.proofs.Tapes.{failed_then}
use Rattle.lsp_log.proofs.Reading.{reads_at, none_at, left_at, behind, number_is, ends_there, two_codes}
use Rattle.lsp_log.proofs.Places.{shown_there}
use Rattle.lsp_log.proofs.Past.{shows_near}

-- the log ends so behind these records, whatever may follow
record Closed (limits : Bounds) (format : Format) (before after : Told) (bytes held : List ℕ) (records : List log.Record) (code : Option LogCode) : Type 0 where
  piece : List ℕ
  read : Gave before after piece
  within : length (bytes ++ piece) ≤ limits.log + 1
  failures : after.failures ≡ before.failures
  at_end : code ≡ None → IsAtEnd after.bytes
  holds : (more : List ℕ) → MayFollow after more → HasRecords limits format ((bytes ++ piece) ++ more) records code
  shows : (more : List ℕ) → MayFollow after more → line_of (take 64 held) ≡ found_behind limits (Some format) records ((bytes ++ piece) ++ more)
  near : ShowsNear limits (Some format) (bytes ++ piece) records

is_less : (m n : ℕ) → m < n → nat_lt m n ≡ true
is_less m n less = lt-ltb m n less

pub not_less : (m n : ℕ) → n ≤ m → nat_lt m n ≡ false
not_less m n most = by_test (nat_lt m n) refl
  where
    by_test : (t : Bool) → nat_lt m n ≡ t → t ≡ false
    by_test false e = refl
    by_test true e = absurd (omega (arith, ltb-true m n e))

-- the same, read under the code that the length gives
with_code : (limits : Bounds) (format : Format) (all : List ℕ) (records : List log.Record) (flaw : Option Flaw) (c d : Bool) → c ≡ d → HasRecords limits format all records (code_of flaw c) → HasRecords limits format all records (code_of flaw d)
with_code limits format all records flaw c d same h = subst (λ (b : Bool). HasRecords limits format all records (code_of flaw b)) same h

-- all that was read, behind which the records end
record Reached (limits : Bounds) (format : Format) (before now : Told) (bytes held : List ℕ) (records : List log.Record) (left : ℕ) (flaw : Option Flaw) : Type 0 where
  piece : List ℕ
  read : Gave before now piece
  failures : now.failures ≡ before.failures
  left_is : left + length (bytes ++ piece) ≡ limits.log
  over : wants_bytes flaw ≡ true → IsOver left now
  rest : List ℕ
  whole : bytes ++ piece ≡ (first_line format ++ flat_map spelling records) ++ rest
  fits : AllByRecursion (Fits limits) records
  ends : EndsWith limits rest flaw
  line : HoldsLine held rest flaw
  few : ReadsFew limits rest flaw

reached : (s : State) (tape : Held) (before now : Told) (bytes : List ℕ) (records : List log.Record) (flaw : Option Flaw) (o : Reads s bytes records) → Ends (EndsAt s.limits tape.rest) s.tape tape before now flaw → Reached s.limits o.format before now bytes tape.rest records tape.left flaw
reached s tape before now bytes records flaw o e = record {
  piece = e.piece;
  read = e.pulled.read;
  failures = e.pulled.failures;
  left_is = omega (arith, e.pulled.left, o.left, length-append bytes e.piece);
  over = e.over;
  rest = s.tape.rest ++ e.piece;
  whole = behind s bytes e.piece (s.tape.rest ++ e.piece) records o refl;
  fits = o.fits;
  ends = e.holds.0;
  line = e.holds.1;
  few = e.holds.2;
}

-- at most 64 bytes come after those that show a flaw, and no more than one was read besides
near_there : (limits : Bounds) → IsInRange limits → (format : Format) (before now : Told) (bytes extra held : List ℕ) (records : List log.Record) (left : ℕ) (flaw : Option Flaw) (r : Reached limits format before now bytes held records left flaw) → length extra ≤ 1
    → (wants_bytes flaw ≡ false → extra ≡ []) → ShowsNear limits (Some format) (bytes ++ (r.piece ++ extra)) records
near_there limits sizes format before now bytes extra held records left flaw r one none =
    shows_near limits sizes format (bytes ++ (r.piece ++ extra)) r.rest extra records flaw one none (sym (append_assoc bytes r.piece extra) ∙ ap (λ (w : List ℕ). w ++ extra) r.whole) r.ends r.few

-- no bytes are wanted: whatever follows changes nothing
closed_whole : (limits : Bounds) → IsInRange limits → (format : Format) (before now : Told) (bytes held : List ℕ) (records : List log.Record) (left : ℕ) (flaw : Option Flaw) → wants_bytes flaw ≡ false → Reached limits format before now bytes held records left flaw → Closed limits format before now bytes held records (code_of flaw false)
closed_whole limits sizes format before now bytes held records left flaw none r = record {
  piece = r.piece;
  read = r.read;
  within = omega (arith, r.left_is);
  failures = r.failures;
  at_end = λ is. has_code flaw none is;
  holds = λ more _. subst (λ (c : Option LogCode). HasRecords limits format ((bytes ++ r.piece) ++ more) records c)
      (two_codes flaw (nat_lt limits.log (length ((bytes ++ r.piece) ++ more))) false none)
      (ends_there limits format (bytes ++ r.piece) more r.rest records flaw r.whole r.fits (omega (arith, r.left_is)) r.ends (λ w. let clash : true ≡ false = sym w ∙ none in absurd cc));
  shows = λ more _. shown_there limits format (bytes ++ r.piece) more r.rest held records flaw r.whole (omega (arith, r.left_is)) r.line (λ w. let clash : true ≡ false = sym w ∙ none in absurd cc);
  near = subst (λ (w : List ℕ). ShowsNear limits (Some format) (bytes ++ w) records) (append-nil r.piece) (near_there limits sizes format before now bytes [] held records left flaw r (omega arith) (λ _. refl));
}
  where
    has_code : {X : Type 0} (f : Option Flaw) → wants_bytes f ≡ false → code_of f false ≡ None → X
    has_code (Some cut_short) p q = absurd cc
    has_code _ p q = absurd cc

-- bytes are wanted, and the log goes on past its limit
closed_cut : (limits : Bounds) → IsInRange limits → (format : Format) (before now after : Told) (bytes held : List ℕ) (records : List log.Record) (left : ℕ) (flaw : Option Flaw) → wants_bytes flaw ≡ true → Reached limits format before now bytes held records left flaw → IsCutAt left now after true
    → Closed limits format before after bytes held records (code_of flaw true)
closed_cut limits sizes format before now after bytes held records left flaw wants r (none, byte, read, failures) =
    let full : length (bytes ++ r.piece) ≡ limits.log = omega (arith, r.left_is, none) in
    let same : bytes ++ (r.piece ++ byte ∷ []) ≡ (bytes ++ r.piece) ++ byte ∷ [] = sym (append_assoc bytes r.piece (byte ∷ [])) in
    record {
      piece = r.piece ++ byte ∷ [];
      read = gave_then before now after r.piece (byte ∷ []) r.read read;
      within = omega (arith, ap length same, length-append (bytes ++ r.piece) (byte ∷ []), full);
      failures = failures ∙ r.failures;
      at_end = λ is. has_code flaw wants is;
      holds = λ more _.
          let whole : (bytes ++ r.piece) ++ (byte ∷ more) ≡ (bytes ++ (r.piece ++ byte ∷ [])) ++ more = sym (append_assoc (bytes ++ r.piece) (byte ∷ []) more) ∙ ap (λ (w : List ℕ). w ++ more) (sym same) in
          let long : nat_lt limits.log (length ((bytes ++ r.piece) ++ (byte ∷ more))) ≡ true = is_less limits.log (length ((bytes ++ r.piece) ++ (byte ∷ more))) (omega (arith, length-append (bytes ++ r.piece) (byte ∷ more), full)) in
          subst (λ (w : List ℕ). HasRecords limits format w records (code_of flaw true)) whole
          (with_code limits format ((bytes ++ r.piece) ++ (byte ∷ more)) records flaw (nat_lt limits.log (length ((bytes ++ r.piece) ++ (byte ∷ more)))) true long
          (ends_there limits format (bytes ++ r.piece) (byte ∷ more) r.rest records flaw r.whole r.fits (omega (arith, full)) r.ends (λ w. inl (omega (arith, full)))));
      shows = λ more _.
          let whole : (bytes ++ r.piece) ++ (byte ∷ more) ≡ (bytes ++ (r.piece ++ byte ∷ [])) ++ more = sym (append_assoc (bytes ++ r.piece) (byte ∷ []) more) ∙ ap (λ (w : List ℕ). w ++ more) (sym same) in
          shown_there limits format (bytes ++ r.piece) (byte ∷ more) r.rest held records flaw r.whole (omega (arith, full)) r.line (λ w. inl (omega (arith, full)))
          ∙ ap (found_behind limits (Some format) records) whole;
      near = near_there limits sizes format before now bytes (byte ∷ []) held records left flaw r (omega arith) (λ w. let clash : true ≡ false = sym wants ∙ w in absurd cc);
    }
  where
    has_code : {X : Type 0} (f : Option Flaw) → wants_bytes f ≡ true → code_of f true ≡ None → X
    has_code (Some cut_short) p q = absurd cc
    has_code _ p q = absurd cc

-- bytes are wanted, and the reader is at its end
closed_at_end : (limits : Bounds) → IsInRange limits → (format : Format) (before now after : Told) (bytes held : List ℕ) (records : List log.Record) (left : ℕ) (flaw : Option Flaw) → wants_bytes flaw ≡ true → Reached limits format before now bytes held records left flaw → IsCutAt left now after false
    → Closed limits format before after bytes held records (code_of flaw false)
closed_at_end limits sizes format before now after bytes held records left flaw wants r (read, over, failures) = record {
  piece = r.piece ++ [];
  read = gave_then before now after r.piece [] r.read read;
  within = omega (arith, r.left_is, ap length same);
  failures = failures ∙ r.failures;
  at_end = λ _. over (r.over wants);
  holds = λ more follows.
      let none : more ≡ [] = follows (over (r.over wants)) in
      let whole : (bytes ++ r.piece) ++ [] ≡ (bytes ++ (r.piece ++ [])) ++ more = append-nil (bytes ++ r.piece) ∙ sym same ∙ sym (append-nil (bytes ++ (r.piece ++ []))) ∙ ap (λ (w : List ℕ). (bytes ++ (r.piece ++ [])) ++ w) (sym none) in
      let short : nat_lt limits.log (length ((bytes ++ r.piece) ++ [])) ≡ false = not_less limits.log (length ((bytes ++ r.piece) ++ [])) (omega (arith, ap length (append-nil (bytes ++ r.piece)), r.left_is)) in
      subst (λ (w : List ℕ). HasRecords limits format w records (code_of flaw false)) whole
      (with_code limits format ((bytes ++ r.piece) ++ []) records flaw (nat_lt limits.log (length ((bytes ++ r.piece) ++ []))) false short
      (ends_there limits format (bytes ++ r.piece) [] r.rest records flaw r.whole r.fits (omega (arith, r.left_is)) r.ends (λ w. inr refl)));
  shows = λ more follows.
      let none : more ≡ [] = follows (over (r.over wants)) in
      let whole : (bytes ++ r.piece) ++ [] ≡ (bytes ++ (r.piece ++ [])) ++ more = append-nil (bytes ++ r.piece) ∙ sym same ∙ sym (append-nil (bytes ++ (r.piece ++ []))) ∙ ap (λ (w : List ℕ). (bytes ++ (r.piece ++ [])) ++ w) (sym none) in
      shown_there limits format (bytes ++ r.piece) [] r.rest held records flaw r.whole (omega (arith, r.left_is)) r.line (λ w. inr refl)
      ∙ ap (found_behind limits (Some format) records) whole;
  near = near_there limits sizes format before now bytes [] held records left flaw r (omega arith) (λ _. refl);
}
  where
    same : bytes ++ (r.piece ++ []) ≡ bytes ++ r.piece
    same = ap (λ (w : List ℕ). bytes ++ w) (append-nil r.piece)

closed : (limits : Bounds) → IsInRange limits → (format : Format) (before now after : Told) (bytes held : List ℕ) (records : List log.Record) (left : ℕ) (flaw : Option Flaw) (cut : Bool) → wants_bytes flaw ≡ true → Reached limits format before now bytes held records left flaw → IsCutAt left now after cut
    → Closed limits format before after bytes held records (code_of flaw cut)
closed limits sizes format before now after bytes held records left flaw true wants r is = closed_cut limits sizes format before now after bytes held records left flaw wants r is
closed limits sizes format before now after bytes held records left flaw false wants r is = closed_at_end limits sizes format before now after bytes held records left flaw wants r is

-- ---- the answers

-- the reader keeps an answer
abbrev pub over : State → Held → Result (Unit {0}) LogFault → State
over s tape end = record s { tape = tape; progress = progress.Over end }

log_is : (limits : Bounds) (all : List ℕ) (found : Option Format) (format : Format) (records : List log.Record) (code : Option LogCode) → found ≡ Some format → HasRecords limits format all records code → IsLog limits all found records (at_record (length records + 1) code)
log_is limits all found format records code known h = subst (λ (f : Option Format). IsLog limits all f records (at_record (length records + 1) code)) (sym known) (code, h, refl)

given_code : (s : State) (tape : Held) (format : Format) (before after : Told) (bytes : List ℕ) (records : List log.Record) (code : Option LogCode) → IsInRange s.limits → s.format ≡ Some format → s.place ≡ place_of s.format records → next_number s.given ≡ length records + 1
    → Closed s.limits format before after bytes tape.rest records code → Given (over s tape (end_of s.given code)) before after (answer_of (end_of s.given code)) bytes records
given_code s tape format before after bytes records None range known place number c =
    let here : HasRecords s.limits format ((bytes ++ c.piece) ++ []) records None = c.holds [] (λ _. refl) in
    let whole : IsLog s.limits (bytes ++ c.piece) s.format records None =
    subst (λ (w : List ℕ). IsLog s.limits w s.format records None) (append-nil (bytes ++ c.piece)) (log_is s.limits ((bytes ++ c.piece) ++ []) s.format format records None known here) in
    record { piece = c.piece; read = c.read; within = c.within; stands = (range, whole, place, tt); tells = (c.at_end refl, whole, c.failures); shows = tt; near = tt; room = tt }
given_code s tape format before after bytes records (Some code) range known place number c =
    let bad : (more : List ℕ) → MayFollow after more → IsLog s.limits ((bytes ++ c.piece) ++ more) s.format records (Some (next_number s.given, code)) =
    λ more follows. subst (λ (n : ℕ). IsLog s.limits ((bytes ++ c.piece) ++ more) s.format records (Some (n, code))) (sym number) (log_is s.limits ((bytes ++ c.piece) ++ more) s.format format records (Some code) known (c.holds more follows)) in
    let line : (more : List ℕ) → MayFollow after more → shown_line s.format tape.rest ≡ found_behind s.limits s.format records ((bytes ++ c.piece) ++ more) =
    λ more follows. subst (λ (f : Option Format). shown_line f tape.rest ≡ found_behind s.limits f records ((bytes ++ c.piece) ++ more)) (sym known) (c.shows more follows) in
    record {
      piece = c.piece;
      read = c.read;
      within = c.within;
      stands = (
        range,
        subst (λ (w : List ℕ). IsLog s.limits w s.format records (Some (next_number s.given, code))) (append-nil (bytes ++ c.piece)) (bad [] (λ _. refl)),
        place,
        line [] (λ _. refl) ∙ ap (found_behind s.limits s.format records) (append-nil (bytes ++ c.piece)),
      );
      tells = (bad, c.failures);
      shows = line;
      near = subst (λ (f : Option Format). ShowsNear s.limits f (bytes ++ c.piece) records) (sym known) c.near;
      room = tt;
    }

given_closed : (s : State) (tape : Held) (before after : Told) (bytes : List ℕ) (records : List log.Record) (code : Option LogCode) (end : Result (Unit {0}) LogFault) → end ≡ end_of s.given code → IsInRange s.limits → s.place ≡ place_of s.format records → (o : Reads s bytes records) → Closed s.limits o.format before after bytes tape.rest records code
    → Given (over s tape end) before after (answer_of end) bytes records
given_closed s tape before after bytes records code end same range place o c =
    subst (λ (e : Result (Unit {0}) LogFault). Given (over s tape e) before after (answer_of e) bytes records) (sym same) (given_code s tape o.format before after bytes records code range o.known place (number_is s bytes records range o) c)

-- ---- the first line is missing

no_first : (limits : Bounds) (held tape : Held) (before now : Told) (bytes more rest : List ℕ) (format : Format) (l : LacksFirst held tape before now) → bytes ≡ held.rest → held.left + length bytes ≡ limits.log → IsInRange limits → MayFollow now more
    → take limits.log ((bytes ++ l.piece) ++ more) ≡ first_line format ++ rest → ⊥
no_first limits held tape before now bytes more rest format l whole left range follows e = by_length (cases_lt (length (bytes ++ l.piece)) 14)
  where
    same : bytes ++ l.piece ≡ held.rest ++ l.piece
    same = ap (λ (w : List ℕ). w ++ l.piece) whole

    by_length : (length (bytes ++ l.piece) < 14) ⊎ (14 ≤ length (bytes ++ l.piece)) → ⊥
    by_length (inl short) =
        let none : more ≡ [] = follows (l.over (omega (arith, ap length same, short)) (omega (arith, l.pulled.left, left, length-append bytes l.piece, range.log_low, short))) in
        let all : (bytes ++ l.piece) ++ more ≡ bytes ++ l.piece = ap (λ (w : List ℕ). (bytes ++ l.piece) ++ w) none ∙ append-nil (bytes ++ l.piece) in
        absurd (omega (arith, ap length e, ap length all, length-take limits.log ((bytes ++ l.piece) ++ more), length-append (first_line format) rest, first_len format, short))
    by_length (inr long) =
        let within : length (bytes ++ l.piece) ≤ limits.log = omega (arith, l.pulled.left, left, length-append bytes l.piece) in
        let front : take 14 (bytes ++ l.piece) ≡ first_line format =
        sym (take-append-le 14 (bytes ++ l.piece) (take (limits.log - length (bytes ++ l.piece)) more) long) ∙ ap (take 14) (sym (take_beyond limits.log (bytes ++ l.piece) more within) ∙ e)
        ∙ take_at (first_line format) rest 14 (first_len format) in
        l.none format (drop 14 (bytes ++ l.piece)) (sym same ∙ sym (take-append-drop 14 (bytes ++ l.piece)) ∙ ap (λ (w : List ℕ). w ++ drop 14 (bytes ++ l.piece)) front)

-- what stands in its place
first_shown : (limits : Bounds) (held tape : Held) (before now : Told) (bytes more : List ℕ) (l : LacksFirst held tape before now) → bytes ≡ held.rest → held.left + length bytes ≡ limits.log → IsInRange limits → MayFollow now more
    → line_of (take 14 tape.rest) ≡ line_of (take 14 (take limits.log ((bytes ++ l.piece) ++ more)))
first_shown limits held tape before now bytes more l whole left range follows = ap line_of (by_length (cases_lt (length (bytes ++ l.piece)) 14))
  where
    same : tape.rest ≡ bytes ++ l.piece
    same = l.held ∙ ap (λ (w : List ℕ). w ++ l.piece) (sym whole)

    within : length (bytes ++ l.piece) ≤ limits.log
    within = omega (arith, l.pulled.left, left, length-append bytes l.piece)

    by_length : (length (bytes ++ l.piece) < 14) ⊎ (14 ≤ length (bytes ++ l.piece)) → take 14 tape.rest ≡ take 14 (take limits.log ((bytes ++ l.piece) ++ more))
    by_length (inl short) =
        let none : more ≡ [] = follows (l.over (omega (arith, ap length same, ap length l.held, short)) (omega (arith, l.pulled.left, left, length-append bytes l.piece, range.log_low, short))) in
        let all : (bytes ++ l.piece) ++ more ≡ bytes ++ l.piece = ap (λ (w : List ℕ). (bytes ++ l.piece) ++ w) none ∙ append-nil (bytes ++ l.piece) in
        ap (take 14) (same ∙ sym (take_all limits.log (bytes ++ l.piece) within) ∙ ap (take limits.log) (sym all))
    by_length (inr long) =
        ap (take 14) same
        ∙ sym (take-append-le 14 (bytes ++ l.piece) (take (limits.log - length (bytes ++ l.piece)) more) long)
        ∙ ap (take 14) (sym (take_beyond limits.log (bytes ++ l.piece) more within))

given_first : (s : State) (tape : Held) (before now : Told) (bytes : List ℕ) (records : List log.Record) → LacksFirst s.tape tape before now → length tape.rest ≤ 64 → IsInRange s.limits → s.place ≡ place_of s.format records → ReadsNone s bytes records
    → Given (over s tape (Err (log_fault.Bad 0 L1))) before now (Err (log_fault.Bad 0 L1)) bytes records
given_first s tape before now bytes records l short range place n =
    let few : length (bytes ++ l.piece) ≤ 64 = omega (arith, short, ap length l.held, ap length n.whole, length-append bytes l.piece, length-append s.tape.rest l.piece) in
    let bad : (more : List ℕ) → MayFollow now more → IsLog s.limits ((bytes ++ l.piece) ++ more) s.format records (Some (0, L1)) =
    λ more follows. subst (λ (f : Option Format). IsLog s.limits ((bytes ++ l.piece) ++ more) f records (Some (0, L1))) (sym n.unknown)
    (n.none, refl, λ format rest e. no_first s.limits s.tape tape before now bytes more rest format l n.whole n.left range follows e) in
    let line : (more : List ℕ) → MayFollow now more → shown_line s.format tape.rest ≡ found_behind s.limits s.format records ((bytes ++ l.piece) ++ more) =
    λ more follows. subst (λ (f : Option Format). shown_line f tape.rest ≡ found_behind s.limits f records ((bytes ++ l.piece) ++ more)) (sym n.unknown)
    (first_shown s.limits s.tape tape before now bytes more l n.whole n.left range follows) in
    record {
      piece = l.piece;
      read = l.pulled.read;
      within = omega (arith, l.pulled.left, n.left, length-append bytes l.piece);
      stands = (
        range,
        subst (λ (w : List ℕ). IsLog s.limits w s.format records (Some (0, L1))) (append-nil (bytes ++ l.piece)) (bad [] (λ _. refl)),
        place,
        line [] (λ _. refl) ∙ ap (found_behind s.limits s.format records) (append-nil (bytes ++ l.piece)),
      );
      tells = (bad, l.pulled.failures);
      shows = line;
      near = subst (λ (f : Option Format). ShowsNear s.limits f (bytes ++ l.piece) records) (sym n.unknown) few;
      room = tt;
    }

-- ---- reading stops

pub begins_at : (s : State) (bytes piece : List ℕ) (records : List log.Record) (p : Progress) → kept_in p ≡ None → StandsAt p s bytes records → Begins s.limits (bytes ++ piece) s.format records
begins_at s bytes piece records progress.FirstLine free st = subst (λ (f : Option Format). Begins s.limits (bytes ++ piece) f records) (sym st.unknown) st.none
begins_at s bytes piece records progress.Records free st = subst (λ (f : Option Format). Begins s.limits (bytes ++ piece) f records) (sym st.known) (λ more.
    let tail : List ℕ = take (s.limits.log - length bytes) (piece ++ more) in (
      s.tape.rest ++ tail,
      record {
        whole = ap (take s.limits.log) (append_assoc bytes piece more) ∙ take_beyond s.limits.log bytes (piece ++ more) (omega (arith, st.left)) ∙ behind s bytes tail (s.tape.rest ++ tail) records st refl;
        fits = st.fits;
      },
    ))
begins_at s bytes piece records (progress.Over end) free st = absurd cc

-- where the first line was not read, all bytes are held
lacks_at : (s : State) (bytes piece : List ℕ) (records : List log.Record) (p : Progress) → kept_in p ≡ None → StandsAt p s bytes records → (s.format ≡ None → length (s.tape.rest ++ piece) < 14) → LacksLine s.format (bytes ++ piece)
lacks_at s bytes piece records progress.FirstLine free st fewer =
    let less : length (bytes ++ piece) < 14 = omega (arith, fewer st.unknown, length-append bytes piece, length-append s.tape.rest piece, ap length st.whole) in
    subst (λ (f : Option Format). LacksLine f (bytes ++ piece)) (sym st.unknown) less
lacks_at s bytes piece records progress.Records free st fewer = subst (λ (f : Option Format). LacksLine f (bytes ++ piece)) (sym st.known) tt
lacks_at s bytes piece records (progress.Over end) free st fewer = absurd cc

-- a format that is known is not missing
known_some : (format : Option Format) (f : Format) (n : ℕ) → format ≡ Some f → format ≡ None → n < 14
known_some format f n known unknown = absurd cc

-- the bytes that the reader gave before it failed, and that they are too few where no first line
-- was read
failed_behind : (format : Option Format) (tape : Held) (before after : Told) → FailsBehind format tape before after → (f : ReadFailed tape.left before after) × (format ≡ None → length (tape.rest ++ f.piece) < 14)
failed_behind None tape before after f = (f.failed, λ unknown. f.fewer)
failed_behind (Some format) tape before after f = (f, λ unknown. absurd cc)

given_read : (s : State) (tape : Held) (before after : Told) (bytes : List ℕ) (records : List log.Record) → kept_by s ≡ None → StandsFor s bytes records → (f : ReadFailed s.tape.left before after) → (s.format ≡ None → length (s.tape.rest ++ f.piece) < 14)
    → Given (over s tape (Err log_fault.Read)) before after (Err log_fault.Read) bytes records
given_read s tape before after bytes records free stands f fewer = record {
  piece = f.piece;
  read = f.read;
  within = omega (arith, f.within, left_at s bytes records s.progress free stands.1, length-append bytes f.piece);
  stands = (stands.0, (begins_at s bytes f.piece records s.progress free stands.1, lacks_at s bytes f.piece records s.progress free stands.1 fewer), stands.2, tt);
  tells = f.failures;
  shows = tt;
  near = tt;
  room = tt;
}

given_memory : (s : State) (tape : Held) (before after : Told) (bytes : List ℕ) (records : List log.Record) → IsInRange s.limits → s.place ≡ place_of s.format records → Reads s bytes records → length tape.rest ≤ 64 → Refused (AwaitsRecord s.limits) s.tape tape before after
    → Given (over s tape (Err log_fault.Memory)) before after (Err log_fault.Memory) bytes records
given_memory s tape before after bytes records range place o near r = record {
  piece = r.taken.piece;
  read = r.taken.pulled.read;
  within = omega (arith, r.taken.pulled.left, o.left, length-append bytes r.taken.piece);
  stands = (range, begins_at s bytes r.taken.piece records progress.Records refl o, place, tt);
  tells = r.taken.pulled.failures;
  shows = tt;
  near = tt;
  room = (o.format, r.front, o.known, r.awaits, behind s bytes r.taken.piece (r.front ++ tape.rest) records o r.taken.whole, near);
}

-- ---- each end

cut_cases : (s : State) (now after : Told) (stop : Stop) (end : Result (Unit {0}) LogFault) → CutEnd s now after stop end
    → ((s.tape.left ≡ 0) × ReadFailed 0 now after × (end ≡ Err log_fault.Read)) ⊎ ((cut : Bool) × IsCutAt s.tape.left now after cut × (end ≡ fault_of s.given cut stop))
cut_cases s now after stop (Err log_fault.Read) c = inl (c.0, c.1, refl)
cut_cases s now after stop _ c = inr c

whole_end : (s : State) (tape : Held) (before now after : Told) (bytes : List ℕ) (records : List log.Record) (flaw : Option Flaw) (end : Result (Unit {0}) LogFault) → StandsFor s bytes records → Reads s bytes records → wants_bytes flaw ≡ false → Ends (EndsAt s.limits tape.rest) s.tape tape before now flaw
    → (after ≡ now) × (end ≡ end_of s.given (code_of flaw false)) → Given (over s tape end) before after (answer_of end) bytes records
whole_end s tape before now after bytes records flaw end stands o none e is =
    subst (λ (t : Told). Given (over s tape end) before t (answer_of end) bytes records) (sym is.0)
    (given_closed s tape before now bytes records (code_of flaw false) end is.1 stands.0 stands.2 o
    (closed_whole s.limits stands.0 o.format before now bytes tape.rest records tape.left flaw none (reached s tape before now bytes records flaw o e)))

cut_end : (s : State) (tape : Held) (before now after : Told) (bytes : List ℕ) (records : List log.Record) (flaw : Option Flaw) (end : Result (Unit {0}) LogFault) → kept_by s ≡ None → StandsFor s bytes records → Reads s bytes records → wants_bytes flaw ≡ true
    → Ends (EndsAt s.limits tape.rest) s.tape tape before now flaw → ((tape.left ≡ 0) × ReadFailed 0 now after × (end ≡ Err log_fault.Read)) ⊎ ((cut : Bool) × IsCutAt tape.left now after cut × (end ≡ end_of s.given (code_of flaw cut)))
    → Given (over s tape end) before after (answer_of end) bytes records
cut_end s tape before now after bytes records flaw end free stands o wants e (inl (none, failed, is)) =
    subst (λ (a : Result (Unit {0}) LogFault). Given (over s tape a) before after (answer_of a) bytes records) (sym is)
    (given_read s tape before after bytes records free stands
    (failed_then s.tape.left tape.left before now after e.piece e.pulled (subst (λ (n : ℕ). ReadFailed n now after) (sym none) failed)) (known_some s.format o.format _ o.known))
cut_end s tape before now after bytes records flaw end free stands o wants e (inr (cut, at, is)) =
    given_closed s tape before after bytes records (code_of flaw cut) end is stands.0 stands.2 o
    (closed s.limits stands.0 o.format before now after bytes tape.rest records tape.left flaw cut wants (reached s tape before now bytes records flaw o e) at)

-- where nothing more is read
as_is : (s : State) (tape : Held) (before now after : Told) (bytes : List ℕ) (records : List log.Record) (fault : LogFault) (end : Result (Unit {0}) LogFault) → (after ≡ now) × (end ≡ Err fault) → Given (over s tape (Err fault)) before now (Err fault) bytes records
    → Given (over s tape end) before after (answer_of end) bytes records
as_is s tape before now after bytes records fault end is g =
    subst (λ (a : Result (Unit {0}) LogFault). Given (over s tape a) before after (answer_of a) bytes records) (sym is.1)
    (subst (λ (t : Told). Given (over s tape (Err fault)) before t (Err fault) bytes records) (sym is.0) g)

-- **What an answer that is no record says, of a reader that is behind its first line or has none.**
pub ends_at : (s : State) (tape : Held) (before now after : Told) (stop : Stop) (end : Result (Unit {0}) LogFault) (bytes : List ℕ) (records : List log.Record) → kept_by s ≡ None → StandsFor s bytes records → FoundFrom s tape before now (Err stop)
    → EndAnswer (record s { tape = tape }) now after stop end → Given (over s tape end) before after (answer_of end) bytes records
ends_at s tape before now after FirstLine end bytes records free stands a e = as_is s tape before now after bytes records (log_fault.Bad 0 L1) end e (given_first s tape before now bytes records a.2 a.3 stands.0 stands.2 (none_at s bytes records a.0 stands))
ends_at s tape before now after Nothing end bytes records free stands a e = cut_end s tape before now after bytes records None end free stands (reads_at s bytes records a.0 stands) refl a.3 (cut_cases (record s { tape = tape }) now after Nothing end e)
ends_at s tape before now after Form end bytes records free stands a e = whole_end s tape before now after bytes records (Some bad_line) end stands (reads_at s bytes records a.0 stands) refl a.3 e
ends_at s tape before now after Number end bytes records free stands a e = whole_end s tape before now after bytes records (Some bad_number) end stands (reads_at s bytes records a.0 stands) refl a.3 e
ends_at s tape before now after Short end bytes records free stands a e = cut_end s tape before now after bytes records (Some cut_short) end free stands (reads_at s bytes records a.0 stands) refl a.3 (cut_cases (record s { tape = tape }) now after Short end e)
ends_at s tape before now after End end bytes records free stands a e = whole_end s tape before now after bytes records (Some bad_end) end stands (reads_at s bytes records a.0 stands) refl a.3 e
ends_at s tape before now after Text end bytes records free stands a e = whole_end s tape before now after bytes records (Some not_utf8) end stands (reads_at s bytes records a.0 stands) refl a.3 e
ends_at s tape before now after Read end bytes records free stands a e =
    let f = failed_behind s.format s.tape before now a in
    as_is s tape before now after bytes records log_fault.Read end e (given_read s tape before now bytes records free stands f.0 f.1)
ends_at s tape before now after Memory end bytes records free stands a e = as_is s tape before now after bytes records log_fault.Memory end e (given_memory s tape before now bytes records stands.0 stands.2 (reads_at s bytes records a.0 stands) a.2 a.3)

-- ---- what it says of the format

tells_code : (given : ℕ) (flaw : Option Flaw) (cut : Bool) (format : Option Format) → IsSome format → TellsFormat (answer_of (end_of given (code_of flaw cut))) format
tells_code given None false format some = some
tells_code given (Some bad_line) cut format some = some
tells_code given (Some cut_short) false format some = some
tells_code given _ _ format some = some

tells_as : (format : Option Format) (end known : Result (Unit {0}) LogFault) → end ≡ known → TellsFormat (answer_of known) format → TellsFormat (answer_of end) format
tells_as format end known is tells = subst (λ (e : Result (Unit {0}) LogFault). TellsFormat (answer_of e) format) (sym is) tells

tells_cut : (given left : ℕ) (now after : Told) (flaw : Option Flaw) (end : Result (Unit {0}) LogFault) (format : Option Format) → IsSome format
    → ((left ≡ 0) × ReadFailed 0 now after × (end ≡ Err log_fault.Read)) ⊎ ((cut : Bool) × IsCutAt left now after cut × (end ≡ end_of given (code_of flaw cut))) → TellsFormat (answer_of end) format
tells_cut given left now after flaw end format some (inl failed) = tells_as format end (Err log_fault.Read) failed.2 tt
tells_cut given left now after flaw end format some (inr at) = tells_as format end (end_of given (code_of flaw at.0)) at.2 (tells_code given flaw at.0 format some)

pub tells_at : (s : State) (tape : Held) (before now after : Told) (stop : Stop) (end : Result (Unit {0}) LogFault) → FoundFrom s tape before now (Err stop) → EndAnswer (record s { tape = tape }) now after stop end → TellsFormat (answer_of end) s.format
tells_at s tape before now after FirstLine end a e = tells_as s.format end (Err (log_fault.Bad 0 L1)) e.1 a.1
tells_at s tape before now after Nothing end a e = tells_cut s.given tape.left now after None end s.format a.1 (cut_cases (record s { tape = tape }) now after Nothing end e)
tells_at s tape before now after Form end a e = tells_as s.format end _ e.1 (tells_code s.given (Some bad_line) false s.format a.1)
tells_at s tape before now after Number end a e = tells_as s.format end _ e.1 (tells_code s.given (Some bad_number) false s.format a.1)
tells_at s tape before now after Short end a e = tells_cut s.given tape.left now after (Some cut_short) end s.format a.1 (cut_cases (record s { tape = tape }) now after Short end e)
tells_at s tape before now after End end a e = tells_as s.format end _ e.1 (tells_code s.given (Some bad_end) false s.format a.1)
tells_at s tape before now after Text end a e = tells_as s.format end _ e.1 (tells_code s.given (Some not_utf8) false s.format a.1)
tells_at s tape before now after Read end a e = tells_as s.format end (Err log_fault.Read) e.1 tt
tells_at s tape before now after Memory end a e = tells_as s.format end (Err log_fault.Memory) e.1 a.1
