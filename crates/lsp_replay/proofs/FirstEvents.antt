-- The events of a log that were told first, and what a run says of them.
use Rattle.std.specs.List.{AllZip}
use Rattle.std.proofs.Common.{◌≡◌, ◌≤◌, ℕ, true, false, List, [], ◌∷◌, ◌++◌, Option, inl}
use Rattle.std.proofs.Common.{refl, sym, ap, subst, ◌∙◌, append_assoc, append-nil, length}
use Rattle.std.proofs.Common.{length-append, arith}
use Rattle.std.proofs.lemmas.List.{length-map, map-append}
use Rattle.lsp_frame.specs.Bounds.{Bounds}
use Rattle.lsp_frame.specs.Told.{Told}
use Rattle.lsp_frame.specs.declared.format.Format.{Format}
use Rattle.lsp_docs.specs.Documents.{Terms}
use Rattle.lsp_log.specs.Log.{Record}
use Rattle.lsp_log.specs.Place.{place_of, found_behind}
use Rattle.lsp_types.specs.declared.side.Side.TheVariants.{Editor, Server}
use Rattle.lsp_replay.specs.LogEvents.{GoesBehind, HasGiven}
use Rattle.lsp_replay.specs.Run.{HasSaid, IsPassed, IsTold, RanOut, Run, SaysAll, Tail}
use Rattle.lsp_replay.specs.Run.{WantsAt, WantsNext}
use Rattle.lsp_verdict.specs.Heard.{AreRests, Heard, Rests, notes_of, raws_of}
use Rattle.lsp_verdict.specs.Offences.{IsNoted}
use Rattle.lsp_verdict.specs.Outcome.{log_terms}
use Rattle.lsp_verdict.specs.Placed.{Raw, Placed, joined}
use Rattle.lsp_verdict.specs.Runs.{OfRead}
use Rattle.lsp_verdict.specs.declared.outcome.Outcome.{Outcome}
use Rattle.lsp_verdict.proofs.Behind.{some_behind}
use Rattle.lsp_verdict.proofs.Below.{some_stream}
use Rattle.lsp_verdict.proofs.ExactCounts.{raws_within}
use Rattle.lsp_verdict.proofs.Offences.Surveying.{some_note}
use Rattle.lsp_verdict.proofs.RunsJudged.{read_map}

-- ---- lists of events

-- each was noted as its raw form allows
abbrev pub AreNoted : List Heard → Type 0
AreNoted heard = AllZip IsNoted (raws_of heard) (notes_of heard)

pub join_heard : (hs more : List Heard) → AreNoted hs → AreNoted more → AreNoted (hs ++ more)
join_heard [] more p q = q
join_heard (h ∷ hs) more p q = (p.0, join_heard hs more p.1 q)

part_heard : (hs more : List Heard) → AreNoted (hs ++ more) → AreNoted hs × AreNoted more
part_heard [] more p = (tt, p)
part_heard (h ∷ hs) more p = let rest = part_heard hs more p.1 in ((p.0, rest.0), rest.1)

pub raws-push : (hs more : List Heard) → raws_of (hs ++ more) ≡ raws_of hs ++ raws_of more
raws-push hs more = map-append (λ (h : Heard). h.raw) hs more

-- every list of raw events was heard so
pub some_heard : (raws : List Raw) → (hs : List Heard) × (raws_of hs ≡ raws) × AreNoted hs
some_heard [] = ([], refl, tt)
some_heard (raw ∷ raws) =
    let note = some_note raw in
    let rest = some_heard raws in (
      record { raw = raw; note = note.0 } ∷ rest.0,
      ap (λ w. raw ∷ w) rest.1,
      (note.1, rest.2),
    )

-- ---- what is said

-- of one event more
pub says_more : (run : Run) (terms : Terms) (rests : Rests) (before hs : List Heard) (out : List ℕ)
    (h : Heard) (said : List ℕ) → SaysAll run terms rests before hs out
    → run.says terms rests (before ++ hs) h said → run.stops terms (before ++ hs) h ≡ false
    → SaysAll run terms rests before (hs ++ h ∷ []) (out ++ said)
says_more run terms rests before [] out h said is says goes = (
  said,
  [],
  ap (λ w. w ++ said) is ∙ sym (append-nil said),
  subst (λ (w : List Heard). run.says terms rests w h said) (append-nil before) says,
  ap (λ w. run.stops terms w h) (sym (append-nil before)) ∙ goes,
  refl,
)
says_more run terms rests before (x ∷ hs) out h said (first, left, is, own, on, later) says goes =
    let whole : (before ++ x ∷ []) ++ hs ≡ before ++ x ∷ hs =
    append_assoc before (x ∷ []) hs in (
      first,
      left ++ said,
      ap (λ w. w ++ said) is ∙ append_assoc first left said,
      own,
      on,
      says_more run terms rests (before ++ x ∷ []) hs left h said later
          (subst (λ (w : List Heard). run.says terms rests w h said) (sym whole) says)
          (ap (λ w. run.stops terms w h) whole ∙ goes),
    )

-- ---- a log that has these events first

-- there are rests of its records
pub some_rests : (limits : Bounds) (records : List Record)
    → (rests : Rests) × AreRests limits records rests
some_rests limits records =
    let editor = some_stream limits (joined Editor records) in
    let server = some_stream limits (joined Server records) in
    let by_editor = some_behind limits Editor records in
    let by_server = some_behind limits Server records in (
      record {
        editor = editor.1;
        server = server.1;
        editor_behind = by_editor.0;
        server_behind = by_server.0;
      },
      record {
        editor = (editor.0, editor.2, editor.3);
        server = (server.0, server.2, server.3);
        editor_behind = by_editor.1;
        server_behind = by_server.1;
      },
    )

-- of records that begin with these
abbrev pub RestsBehind : Bounds → List Record → Rests → Type 0
RestsBehind limits records rests = (more : List Record) × AreRests limits (records ++ more) rests

-- records that go on have these first
pub rests_behind : (limits : Bounds) (front records : List Record) (rests : Rests)
    → GoesBehind front records → AreRests limits records rests → RestsBehind limits front rests
rests_behind limits front records rests (more, goes) are =
    (more, subst (λ (w : List Record). AreRests limits w rests) goes are)

-- and so do their first ones
pub rests_before : (limits : Bounds) (front more : List Record) (rests : Rests)
    → RestsBehind limits (front ++ more) rests → RestsBehind limits front rests
rests_before limits front more rests (last, are) = (
  more ++ last,
  subst (λ (w : List Record). AreRests limits w rests) (append_assoc front more last) are,
)

module _ {limits : Bounds} {format : Option Format} {front : List Record} (heard : List Heard)
    (noted : AreNoted heard) {log : List ℕ}
    (has : HasGiven limits format front (raws_of heard) log) where
  abbrev extra : (hs : List Heard) × (raws_of hs ≡ has.later) × AreNoted hs
  extra = some_heard has.later

  abbrev own_rests : (rests : Rests) × AreRests limits has.records rests
  own_rests = some_rests limits has.records

  abbrev pub tail_given : Tail
  tail_given = record {
    fault = has.log_fault;
    place = place_of format has.records;
    line = found_behind limits format has.records log;
    rests = own_rests.0;
  }

  all_placed : Placed limits has.records (raws_of (heard ++ extra.0))
  all_placed = subst (Placed limits has.records)
      (ap (λ w. raws_of heard ++ w) (sym extra.1) ∙ sym (raws-push heard extra.0)) has.placed

  pub told_given : IsTold limits log format has.records (heard ++ extra.0) tail_given
  told_given = record {
    is_log = has.is_log;
    session = record {
      placed = all_placed;
      noted = join_heard heard extra.0 noted extra.2;
    };
    rests = own_rests.1;
    place = refl;
    line = refl;
  }

  pub behind_given : RestsBehind limits front own_rests.0
  behind_given = rests_behind limits front has.records own_rests.0 has.goes own_rests.1

  -- what the run says of them is said of the log
  pub said_given : (run : Run) (out : List ℕ)
      → ((rests : Rests) → RestsBehind limits front rests
      → SaysAll run (log_terms limits format) rests [] heard out)
      → HasSaid run limits log out
  said_given run out says = record {
    format = format;
    records = has.records;
    first = heard;
    later = extra.0;
    tail = tail_given;
    told = told_given;
    says = says own_rests.0 behind_given;
  }

  pub few_given : length heard ≤ limits.log
  few_given = omega (
    arith,
    raws_within limits log format has.records has.log_fault (raws_of heard ++ has.later) has.is_log
        has.placed,
    length-append (raws_of heard) has.later,
    length-map heard (λ (h : Heard). h.raw),
  )

-- what a run says of these events, where those of the records are these and those that are due
pub ran_given : {limits : Bounds} {format : Option Format} {front : List Record}
    (heard : List Heard) (noted : AreNoted heard) {log : List ℕ}
    → HasGiven limits format front (raws_of heard) log
    → (run : Run) (out : List ℕ)
    → ((rests : Rests) → RestsBehind limits front rests
    → SaysAll run (log_terms limits format) rests [] heard out)
    → (due : List Heard) → AreNoted due → Placed limits front (raws_of heard ++ raws_of due)
    → WantsNext run (log_terms limits format) heard due → RanOut run limits log out
unfolding said_given
ran_given {limits} {front = front} heard noted has run out says due due_noted whole wants = record {
  said = said_given heard noted has run out says;
  read = front;
  goes = has.goes;
  due = due;
  session = record {
    placed = subst (Placed limits front) (sym (raws-push heard due)) whole;
    noted = join_heard heard due noted due_noted;
  };
  wants = wants;
}

module _ {limits : Bounds} {format : Option Format} {front : List Record} (heard : List Heard)
    (h : Heard) (noted : AreNoted (heard ++ h ∷ [])) {log : List ℕ}
    (has : HasGiven limits format front (raws_of (heard ++ h ∷ [])) log) where
  -- but for the last one
  pub given_before : HasGiven limits format front (raws_of heard) log
  given_before = record {
    records = has.records;
    log_fault = has.log_fault;
    later = h.raw ∷ has.later;
    is_log = has.is_log;
    goes = has.goes;
    placed = subst (Placed limits has.records)
        (ap (λ w. w ++ has.later) (raws-push heard (h ∷ []))
        ∙ append_assoc (raws_of heard) (h.raw ∷ []) has.later) has.placed;
  }

  -- where the run stops at it, so does it on the log
  pub stops_given : (run : Run) (out said : List ℕ) (outcome : Outcome)
      → ((rests : Rests) → RestsBehind limits front rests
      → SaysAll run (log_terms limits format) rests [] heard out
      × run.says (log_terms limits format) rests heard h said)
      → run.stops (log_terms limits format) heard h ≡ true
      → run.ends (log_terms limits format) heard h outcome
      → IsPassed run limits log (out ++ said) outcome
  stops_given run out said outcome says stops ends =
      let all = heard ++ h ∷ [] in
      let both = says (tail_given all noted has).rests (behind_given all noted has) in
      record {
        format = format;
        records = has.records;
        heard = all ++ (some_heard has.later).0;
        tail = tail_given all noted has;
        told = told_given all noted has;
        is = inl (record {
          first = heard;
          here = h;
          later = (some_heard has.later).0;
          are = append_assoc heard (h ∷ []) (some_heard has.later).0;
          front = out;
          last = said;
          is = refl;
          said = both.0;
          stop = record { says = both.1; stops = stops; ends = ends };
        });
      }

-- ---- what was read has these events first

module _ {limits : Bounds} {format : Option Format} {front : List Record} {start now : Told}
    (heard : List Heard) (noted : AreNoted heard)
    (read : OfRead limits start now (HasGiven limits format front (raws_of heard))) where
  pub few_read : length heard ≤ limits.log
  few_read = few_given heard noted
      (read.holds read.bytes ([], sym (append-nil read.bytes), λ end. refl))

  pub said_read : (run : Run) (out : List ℕ)
      → ((rests : Rests) → RestsBehind limits front rests
      → SaysAll run (log_terms limits format) rests [] heard out)
      → OfRead limits start now (λ log. HasSaid run limits log out)
  said_read run out says =
      read_map limits start now (HasGiven limits format front (raws_of heard))
      (λ log. HasSaid run limits log out) (λ log has. said_given heard noted has run out says) read

  -- none is due
  pub ran_idle : (run : Run) (out : List ℕ)
      → ((rests : Rests) → RestsBehind limits front rests
      → SaysAll run (log_terms limits format) rests [] heard out)
      → Placed limits front (raws_of heard)
      → OfRead limits start now (λ log. RanOut run limits log out)
  ran_idle run out says placed =
      read_map limits start now (HasGiven limits format front (raws_of heard))
      (λ log. RanOut run limits log out) (λ log has. ran_given heard noted has run out says [] tt
      (subst (Placed limits front) (sym (append-nil (raws_of heard))) placed) tt) read

-- memory was refused at the last of these
module _ {limits : Bounds} {format : Option Format} {front : List Record} {start now : Told}
    (heard : List Heard) (h : Heard) (noted : AreNoted (heard ++ h ∷ []))
    (read : OfRead limits start now (HasGiven limits format front (raws_of (heard ++ h ∷ []))))
  where
    pub ran_at : (run : Run) (out : List ℕ)
        → ((rests : Rests) → RestsBehind limits front rests
        → SaysAll run (log_terms limits format) rests [] heard out)
        → (later : List Raw) → Placed limits front ((raws_of heard ++ h.raw ∷ []) ++ later)
        → WantsAt run (log_terms limits format) heard h
        → OfRead limits start now (λ log. RanOut run limits log out)
    ran_at run out says later placed wants =
        read_map limits start now (HasGiven limits format front (raws_of (heard ++ h ∷ [])))
        (λ log. RanOut run limits log out) (λ log has. ran_given heard both.0
        (given_before heard h noted has) run out says (h ∷ more.0) (both.1.0, more.2)
        (subst (Placed limits front) (append_assoc (raws_of heard) (h.raw ∷ []) later
        ∙ ap (λ w. raws_of heard ++ h.raw ∷ w) (sym more.1)) placed) wants) read
      where
        more : (hs : List Heard) × (raws_of hs ≡ later) × AreNoted hs
        more = some_heard later

        both : AreNoted heard × AreNoted (h ∷ [])
        both = part_heard heard (h ∷ []) noted
