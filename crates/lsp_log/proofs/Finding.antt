-- A step of a reader: it reads its first line where it did not yet, and then a record.
use Rattle.std.proofs.Common.{◌≡◌, ℕ, ◌+◌, ◌-◌, ◌<◌, ◌≤◌, List, [], ◌∷◌, ◌++◌, length, Option, Some, None, IsSome, Result, Ok, Err, refl, sym, ap, subst, ◌∙◌, append_assoc, arith}
use Rattle.std.specs.List.{flat_map}
use Rattle.std.proofs.lemmas.List.{length-append}
use Rattle.lsp_frame.specs.Told.{Told, after_failure}
use Rattle.lsp_frame.specs.declared.format.Format.{Format}
use Rattle.lsp_log.specs.Log as log
use Rattle.lsp_log.specs.Log.{spelling, with_feed, head_line, head_of, parts_of, first_line}
use Rattle.lsp_log.specs.Tape.{Held, ReadFailed, Taken}
use Rattle.lsp_log.specs.Stops.{FoundAnswer, FirstAnswer}
use Rattle.lsp_log.specs.Records.{record_view}
use Rattle.lsp_log.specs.Reader.{State, ahead, passed, Shows, StandsFor, StopsNear, Given, Gives, Tells, LacksRoom, records_with, kept_by, TellsFormat, FitsProgress, answer_of}
use Rattle.lsp_log.specs.Ending.{Starts, started, starts, FailsBehind, FoundFrom, FindAnswer, StartAnswer, EndAnswer, next_number}
use Rattle.lsp_log.specs.declared.fault.LogFault.{LogFault}
use Rattle.lsp_log.specs.declared.fault.LogFault.TheVariants as log_fault
use Rattle.lsp_log.specs.declared.record.Record.{Record}
use Rattle.lsp_log.specs.declared.stop.Stop.{Stop}
use Rattle.lsp_log.specs.declared.stop.Stop.TheVariants.{FirstLine, Nothing, Form, Number, Short, End, Text, Read, Memory}
use Rattle.lsp_log.specs.declared.reader.Progress.{Progress}
use Rattle.lsp_log.specs.declared.reader.Progress.TheVariants as progress
use Rattle.lsp_frame.proofs.Telling.{gave_then}
use Rattle.lsp_log.proofs.Reading.{Moved, moved, reads_at, stands_at, record_stands}
use Rattle.lsp_log.proofs.Ended.{over, ends_at, tells_at}

-- ---- the first line

-- the first line is missing, or the reader failed before it was read
first_fails : (s : State) (tape : Held) (before after : Told) (stop : Stop) → s.progress ≡ progress.FirstLine → s.format ≡ None → length tape.rest ≤ 64 → FirstAnswer s.tape tape before after (Err stop) → FindAnswer s (record s { tape = tape }) before after (Err stop)
first_fails s tape before after FirstLine at unknown short f = record { mid = s; now = before; begins = started refl refl; found = (at, unknown, f, short); same = refl }
first_fails s tape before after Read at unknown short f = record { mid = s; now = before; begins = started refl refl; found = subst (λ (o : Option Format). FailsBehind o s.tape before after) (sym unknown) f; same = refl }
first_fails s tape before after _ at unknown short f = absurd f

pub start_fails : (old s : State) (tape : Held) (before after : Told) (stop : Stop) → s ≡ old → s.progress ≡ progress.FirstLine → FitsProgress s.progress s.format → length tape.rest ≤ 64 → FirstAnswer s.tape tape before after (Err stop) → FindAnswer old (record s { tape = tape }) before after (Err stop)
start_fails old s tape before after stop same at fits short f =
    subst (λ (x : State). FindAnswer x (record s { tape = tape }) before after (Err stop)) same (first_fails s tape before after stop at (subst (λ (p : Progress). FitsProgress p s.format) at fits) short f)

pub start_done : (old s : State) (tape : Held) (format : Format) (place : ℕ) (before after : Told) → s ≡ old → s.progress ≡ progress.FirstLine → place ≡ s.limits.log - tape.left - length tape.rest → Taken s.tape tape before after (first_line format)
    → Starts old (record s { tape = tape; progress = progress.Records; format = Some format; place = place }) before after
start_done old s tape format place before after same at is t =
    subst (λ (x : State). Starts x (record s { tape = tape; progress = progress.Records; format = Some format; place = place }) before after) same (starts format at refl is t)

-- ---- a record behind it

fails_behind : (format : Option Format) (tape : Held) (before after : Told) → IsSome format → ReadFailed tape.left before after → FailsBehind format tape before after
fails_behind None tape before after some f = absurd cc
fails_behind (Some format) tape before after some f = f

found_from : (s : State) (tape : Held) (before after : Told) (result : Result Record Stop) → s.progress ≡ progress.Records → IsSome s.format → length tape.rest ≤ 64 → FoundAnswer s.limits s.tape tape before after result → FoundFrom s tape before after result
found_from s tape before after (Err FirstLine) at some near f = absurd f
found_from s tape before after (Err Read) at some near f = fails_behind s.format s.tape before after some f
found_from s tape before after _ at some near f = (at, some, near, f)

pub find_done : (s mid i : State) (tape : Held) (before now after : Told) (result : Result Record Stop) → i ≡ mid → StartAnswer {X = Unit {0}} s mid before now (Ok tt) → length tape.rest ≤ 64 → FoundAnswer i.limits i.tape tape now after result
    → FindAnswer s (record i { tape = tape }) before after result
find_done s mid i tape before now after result same a near f = record {
  mid = i;
  now = now;
  begins = subst (λ (x : State). Starts s x before now) (sym same) a.0;
  found = found_from i tape now after result (subst (λ (x : State). x.progress ≡ progress.Records) (sym same) a.1) (subst (λ (x : State). IsSome x.format) (sym same) a.2) near f;
  same = refl;
}

-- ---- what the answer says, behind what was read in front

tells_from : (new : State) (before now after : Told) (bytes : List ℕ) (records : List log.Record) (result : Result (Option Record) LogFault) → now.failures ≡ before.failures → Tells new now after bytes records result → Tells new before after bytes records result
tells_from new before now after bytes records (Ok None) same t = (t.0, t.1, t.2 ∙ same)
tells_from new before now after bytes records (Err (log_fault.Bad number code)) same t = (t.0, t.1 ∙ same)
tells_from new before now after bytes records (Err log_fault.Read) same t = t ∙ ap after_failure same
tells_from new before now after bytes records _ same t = t ∙ same

given_behind : (s mid new : State) (before now after : Told) (result : Result (Option Record) LogFault) (bytes : List ℕ) (records : List log.Record) (m : Moved s mid before now bytes records) → Given new now after result (bytes ++ m.piece) records
    → Given new before after result bytes records
given_behind s mid new before now after result bytes records m g =
    let same : (bytes ++ m.piece) ++ g.piece ≡ bytes ++ (m.piece ++ g.piece) = append_assoc bytes m.piece g.piece in
    record {
      piece = m.piece ++ g.piece;
      read = gave_then before now after m.piece g.piece m.read g.read;
      within = subst (λ (w : List ℕ). length w ≤ new.limits.log + 1) same g.within;
      stands = subst (λ (w : List ℕ). StandsFor new w (records_with records result)) same g.stands;
      shows = subst (λ (w : List ℕ). Shows new after w records result) same g.shows;
      tells = subst (λ (w : List ℕ). Tells new before after w records result) same (tells_from new before now after ((bytes ++ m.piece) ++ g.piece) records result m.failures g.tells);
      near = subst (λ (w : List ℕ). StopsNear new w records result) same g.near;
      room = subst (λ (w : List ℕ). LacksRoom new w records result) same g.room;
    }

-- **What an answer that is no record says.**
pub gives_end : (s m i : State) (before now after : Told) (stop : Stop) (end : Result (Unit {0}) LogFault) (result : Result (Option Record) LogFault) → i ≡ m → result ≡ answer_of end → kept_by s ≡ None → FindAnswer s m before now (Err stop) → EndAnswer m now after stop end
    → Gives s (record i { progress = progress.Over end }) before after result
gives_end s m i before now after stop end result same is free f e bytes records stands =
    let v = moved s f.mid before f.now bytes records f.begins free stands in
    let at : EndAnswer (record f.mid { tape = m.tape }) now after stop end = subst (λ (x : State). EndAnswer x now after stop end) f.same e in
    let kept : record i { progress = progress.Over end } ≡ over f.mid m.tape end = ap (λ (x : State). record x { progress = progress.Over end }) (same ∙ f.same) in
    subst (λ (x : Result (Option Record) LogFault). Given (record i { progress = progress.Over end }) before after x bytes records) (sym is)
    (subst (λ (x : State). Given x before after (answer_of end) bytes records) (sym kept)
    (given_behind s f.mid (over f.mid m.tape end) before f.now after (answer_of end) bytes records v
    (ends_at f.mid m.tape f.now now after stop end (bytes ++ v.piece) records v.free v.stands f.found at)))

given_record : (s : State) (tape : Held) (given place : ℕ) (before after : Told) (r : Record) (bytes : List ℕ) (records : List log.Record) → given ≡ next_number s.given → place ≡ s.limits.log - tape.left - length tape.rest → FoundFrom s tape before after (Ok r) → StandsFor s bytes records
    → Given (record s { tape = tape; given = given; place = place }) before after (Ok (Some r)) bytes records
given_record s tape given place before after r bytes records number is a stands =
    let o = reads_at s bytes records a.0 stands in
    let t = (a.3).taken in
    record {
      piece = t.piece;
      read = t.pulled.read;
      within = omega (arith, t.pulled.left, o.left, length-append bytes t.piece);
      stands = stands_at (record s { tape = tape; given = given; place = place }) (bytes ++ t.piece) (records ++ record_view r ∷ []) a.0 stands.0 (record_stands s tape given place before after bytes records (record_view r) a.3 stands.0 o number) is;
      shows = tt;
      tells = t.pulled.failures;
      near = tt;
      room = tt;
    }

-- **What an answer that is a record says.**
pub gives_record : (s m i : State) (given place : ℕ) (before after : Told) (r : Record) → i ≡ m → given ≡ next_number i.given → place ≡ passed i → kept_by s ≡ None → FindAnswer s m before after (Ok r) → Gives s (record i { given = given; place = place }) before after (Ok (Some r))
gives_record s m i given place before after r same number is free f bytes records stands =
    let v = moved s f.mid before f.now bytes records f.begins free stands in
    let now : record i { given = given; place = place } ≡ record f.mid { tape = m.tape; given = given; place = place } = ap (λ (x : State). record x { given = given; place = place }) (same ∙ f.same) in
    let is_2 : place ≡ f.mid.limits.log - m.tape.left - length m.tape.rest = is ∙ ap passed (same ∙ f.same) in
    let number_2 : given ≡ next_number f.mid.given = number ∙ ap (λ (x : State). next_number x.given) (same ∙ f.same) in
    subst (λ (x : State). Given x before after (Ok (Some r)) bytes records) (sym now)
    (given_behind s f.mid (record f.mid { tape = m.tape; given = given; place = place }) before f.now after (Ok (Some r)) bytes records v
    (given_record f.mid m.tape given place f.now after r (bytes ++ v.piece) records number_2 is_2 f.found v.stands))

-- ---- how much may still be given

spelling_some : (r : log.Record) → 0 < length (spelling r)
spelling_some r = omega (arith, length-append (with_feed (head_line (head_of r))) (flat_map with_feed (parts_of r)), length-append (head_line (head_of r)) (10 ∷ []))

first_less : (s mid : State) (before now : Told) → Starts s mid before now → ahead mid ≤ ahead s
first_less s mid before now (started same told) = subst (λ (m : State). ahead m ≤ ahead s) (sym same) (omega arith)
first_less s mid before now (starts format at is place t) =
    omega (arith, t.pulled.left, ap length t.whole, length-append s.tape.rest t.piece, length-append (first_line format) mid.tape.rest)

pub less_ahead : (s m i : State) (given place : ℕ) (before after : Told) (r : Record) → i ≡ m → FindAnswer s m before after (Ok r) → ahead (record i { given = given; place = place }) < ahead s
less_ahead s m i given place before after r same f =
    let t = (f.found.3).taken in
    let less : ahead m < ahead s =
    omega (
      arith,
      first_less s f.mid before f.now f.begins,
      t.pulled.left,
      ap length t.whole,
      length-append f.mid.tape.rest t.piece,
      length-append (spelling (record_view r)) m.tape.rest,
      spelling_some (record_view r),
    ) in
    subst (λ (x : State). ahead (record x { given = given; place = place }) < ahead s) (sym same) less

pub near : (s m i : State) (before after : Told) (r : Record) → i ≡ m → FindAnswer s m before after (Ok r) → length i.tape.rest ≤ 64
near s m i before after r same f = subst (λ (x : State). length x.tape.rest ≤ 64) (sym same) f.found.2

-- ---- the format

pub tells_record : (s m i : State) (before after : Told) (r : Record) → i ≡ m → FindAnswer s m before after (Ok r) → IsSome i.format
tells_record s m i before after r same f = subst (λ (x : State). IsSome x.format) (sym (same ∙ f.same)) f.found.1

pub tells_end : (s m i : State) (before now after : Told) (stop : Stop) (end : Result (Unit {0}) LogFault) (result : Result (Option Record) LogFault) → i ≡ m → result ≡ answer_of end → FindAnswer s m before now (Err stop) → EndAnswer m now after stop end → TellsFormat result i.format
tells_end s m i before now after stop end result same is f e =
    let at : EndAnswer (record f.mid { tape = m.tape }) now after stop end = subst (λ (x : State). EndAnswer x now after stop end) f.same e in
    subst (λ (x : Result (Option Record) LogFault). TellsFormat x i.format) (sym is)
    (subst (λ (x : State). TellsFormat (answer_of end) x.format) (sym (same ∙ f.same)) (tells_at f.mid m.tape f.now now after stop end f.found at))
