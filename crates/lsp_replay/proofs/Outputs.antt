-- A log has one output of a run that says exactly one thing of each event and of the end.
use Rattle.std.specs.Prelude.{IfSome}
use Rattle.std.proofs.Common.{◌≡◌, ◌⊎◌, ℕ, Bool, List, [], ◌∷◌, ◌++◌, Option, Some, None, true}
use Rattle.std.proofs.Common.{false, inl, inr, refl, sym, ap, subst, ◌∙◌, append_assoc, append-nil}
use Rattle.std.specs.List.{AllZip}
use Rattle.lsp_docs.specs.Documents.{Terms}
use Rattle.lsp_frame.specs.Bounds.{Bounds, IsInRange}
use Rattle.lsp_frame.specs.declared.format.Format.{Format}
use Rattle.lsp_log.specs.Log.{Record}
use Rattle.lsp_log.specs.Place.{place_of, found_behind}
use Rattle.lsp_log.specs.declared.fault.LogCode.{LogCode}
use Rattle.lsp_replay.specs.Run.{ClosesSo, EndsAfter, IsJudged, IsPassed, IsTold, Run, SaysAll}
use Rattle.lsp_replay.specs.Run.{StopsIn, Tail}
use Rattle.lsp_replay.specs.RunLaws.{CanHold, EndAlike, HasOneOutput, IsSameEnd, SaysOn}
use Rattle.lsp_replay.proofs.FirstEvents.{some_heard, some_rests}
use Rattle.lsp_verdict.specs.Heard.{Heard, Rests, heard_events, notes_of, raws_of}
use Rattle.lsp_verdict.specs.Offences.{IsNoted}
use Rattle.lsp_verdict.specs.Outcome.{log_terms}
use Rattle.lsp_verdict.specs.Placed.{Placed}
use Rattle.lsp_verdict.specs.Verdict.{Verdict, summary}
use Rattle.lsp_verdict.specs.declared.outcome.Outcome.{Outcome}
use Rattle.lsp_verdict.specs.declared.outcome.Outcome.TheVariants.{Judged}
use Rattle.lsp_verdict.proofs.Behind.{one_rests}
use Rattle.lsp_verdict.proofs.Below.{one_log, some_log}
use Rattle.lsp_verdict.proofs.Offences.Surveying.{one_notes}
use Rattle.lsp_verdict.proofs.PlacedLemmas.{one_placed}
use Rattle.lsp_verdict.proofs.Sessions.{some_placed}

-- ---- what a run says

-- of each event and of the end it says at most one thing, and it ends in at most one way
pub record IsExact (run : Run) : Type 0 where
  pub says : (terms : Terms) (rests : Rests) (before : List Heard) (h : Heard) (a b : List ℕ)
      → run.says terms rests before h a → run.says terms rests before h b → a ≡ b
  pub closes : (terms : Terms) (heard : List Heard) (tail : Tail) (a b : List ℕ)
      → run.closes terms heard tail a → run.closes terms heard tail b → a ≡ b
  pub ends : (terms : Terms) (before : List Heard) (h : Heard) (a b : Outcome)
      → run.ends terms before h a → run.ends terms before h b → IsSameEnd a b
  pub finishes : (terms : Terms) (heard : List Heard) (tail : Tail) (a b : Outcome)
      → run.finishes terms heard tail a → run.finishes terms heard tail b → IsSameEnd a b

-- and something, and it ends in some way, where the summary of the log fits
pub record IsTotal (run : Run) : Type 0 where
  pub says : (terms : Terms) (rests : Rests) (before : List Heard) (h : Heard)
      → (out : List ℕ) × run.says terms rests before h out
  pub closes : (terms : Terms) (heard : List Heard) (tail : Tail)
      → (out : List ℕ) × run.closes terms heard tail out
  pub ends : (terms : Terms) (before : List Heard) (h : Heard) → run.stops terms before h ≡ true
      → (outcome : Outcome) × run.ends terms before h outcome
  pub finishes : (terms : Terms) (heard : List Heard) (tail : Tail)
      → CanHold (summary terms (heard_events heard))
      → (outcome : Outcome) × run.finishes terms heard tail outcome

-- ---- what is told of a log

same_heard : (hs ks : List Heard) → raws_of hs ≡ raws_of ks → notes_of hs ≡ notes_of ks → hs ≡ ks
same_heard [] [] raws notes = refl
same_heard (h ∷ hs) (k ∷ ks) raws notes =
    let seen : h.raw ∷ raws_of hs ≡ k.raw ∷ raws_of ks = raws in
    let noted : h.note ∷ notes_of hs ≡ k.note ∷ notes_of ks = notes in
    let raw : h.raw ≡ k.raw = cc in
    let note : h.note ≡ k.note = cc in
    let later_raws : raws_of hs ≡ raws_of ks = cc in
    let later_notes : notes_of hs ≡ notes_of ks = cc in
    let later = same_heard hs ks later_raws later_notes in
    λ i. (let x : Heard = record { raw = raw i; note = note i } in x) ∷ later i
same_heard _ _ raws notes = absurd cc

-- the tail of a log of this format and these records, which has these rests
abbrev tail_of : Bounds → List ℕ → Option Format → List Record → Option (ℕ × LogCode) → Rests → Tail
tail_of limits log format records fault rests = record {
  fault = fault;
  place = place_of format records;
  line = found_behind limits format records log;
  rests = rests;
}

record Parts : Type 0 where
  pub format : Option Format
  pub records : List Record
  pub heard : List Heard
  pub tail : Tail

abbrev parts : Option Format → List Record → List Heard → Tail → Parts
parts format records heard tail = record {
  format = format;
  records = records;
  heard = heard;
  tail = tail;
}

abbrev AreTold : Bounds → List ℕ → Parts → Type 0
AreTold limits log t = IsTold limits log t.format t.records t.heard t.tail

some_told : (limits : Bounds) (log : List ℕ) → (t : Parts) × AreTold limits log t
some_told limits log =
    let whole = some_log limits log in
    let raws = some_placed limits [] [] whole.1 in
    let heard = some_heard raws.0 in
    let rests = some_rests limits whole.1 in (
      parts whole.0 whole.1 heard.0 (tail_of limits log whole.0 whole.1 whole.2 rests.0),
      record {
        is_log = whole.3;
        session = record {
          placed = subst (Placed limits whole.1) (sym heard.1) raws.1;
          noted = heard.2;
        };
        rests = rests.1;
        place = refl;
        line = refl;
      },
    )

tail_is : (limits : Bounds) (log : List ℕ) (t : Parts) → AreTold limits log t
    → t.tail ≡ tail_of limits log t.format t.records t.tail.fault t.tail.rests
tail_is limits log t is = λ i. record {
  fault = t.tail.fault;
  place = is.place i;
  line = is.line i;
  rests = t.tail.rests;
}

one_told : (limits : Bounds) → IsInRange limits → (log : List ℕ) (x y : Parts)
    → AreTold limits log x → AreTold limits log y → x ≡ y
one_told limits sizes log x y p q =
    let same = one_log limits sizes log x.format y.format x.records y.records x.tail.fault
    y.tail.fault p.is_log q.is_log in
    let raws : raws_of x.heard ≡ raws_of y.heard =
    one_placed limits [] [] y.records (raws_of x.heard) (raws_of y.heard)
    (subst (λ w. Placed limits w (raws_of x.heard)) same.1 p.session.placed) q.session.placed in
    let notes : notes_of x.heard ≡ notes_of y.heard =
    one_notes (raws_of y.heard) (notes_of x.heard) (notes_of y.heard)
    (subst (λ w. AllZip IsNoted w (notes_of x.heard)) raws p.session.noted) q.session.noted in
    let hears = same_heard x.heard y.heard raws notes in
    let rests = one_rests limits x.records y.records x.tail.rests y.tail.rests same.1 p.rests
    q.rests in
    let tails : x.tail ≡ y.tail =
    tail_is limits log x p
    ∙ (λ i. tail_of limits log (same.0 i) (same.1 i) (same.2 i) (rests i))
    ∙ sym (tail_is limits log y q) in
    λ i. parts (same.0 i) (same.1 i) (hears i) (tails i)

-- ---- what a run says of events that come after these, and of the end

-- where it is known how two runs end
end_alike : (Ends : Outcome → Type 0)
    → ((a b : Outcome) → Ends a → Ends b → IsSameEnd a b) → (ended finished : Option Outcome)
    → IfSome ended Ends → IfSome finished Ends → EndAlike ended finished
end_alike Ends same (Some a) (Some b) p q = same a b p q
end_alike Ends same _ _ p q = tt

module _ (run : Run) (terms : Terms) (tail : Tail) where
  from_stop : (before first later : List Heard) (here : Heard) (front last : List ℕ)
      (outcome : Outcome) → SaysAll run terms tail.rests before first front
      → run.stops terms (before ++ first) here ≡ true
      → run.says terms tail.rests (before ++ first) here last
      → run.ends terms (before ++ first) here outcome
      → SaysOn run terms tail before (first ++ here ∷ later) (front ++ last) (Some outcome)
  from_stop before [] later here front last outcome is stops says ends =
      let at : before ++ [] ≡ before = append-nil before in
      inl (
        subst (λ (w : List Heard). run.stops terms w here ≡ true) at stops,
        subst (λ (w : List Heard). run.says terms tail.rests w here (front ++ last)) at
            (subst (run.says terms tail.rests (before ++ []) here)
            (ap (λ w. w ++ last) (sym is)) says),
        subst (λ (w : List Heard). run.ends terms w here outcome) at ends,
      )
  from_stop before (h ∷ first) later here front last outcome (said, left, is, own, goes, more) stops
      says ends =
      let at : before ++ h ∷ first ≡ (before ++ h ∷ []) ++ first =
      sym (append_assoc before (h ∷ []) first) in
      inr (
        goes,
        (
          said,
          left ++ last,
          ap (λ w. w ++ last) is ∙ append_assoc said left last,
          own,
          from_stop (before ++ h ∷ []) first later here left last outcome more
              (subst (λ (w : List Heard). run.stops terms w here ≡ true) at stops)
              (subst (λ (w : List Heard). run.says terms tail.rests w here last) at says)
              (subst (λ (w : List Heard). run.ends terms w here outcome) at ends),
        ),
      )

  from_end : (before hs : List Heard) (front last : List ℕ) (outcome : Outcome)
      → SaysAll run terms tail.rests before hs front
      → ClosesSo run terms (before ++ hs) tail last outcome
      → SaysOn run terms tail before hs (front ++ last) (Some outcome)
  from_end before [] front last outcome is closes = subst
      (λ (w : List Heard). ClosesSo run terms w tail (front ++ last) outcome) (append-nil before)
      (subst (λ w. ClosesSo run terms (before ++ []) tail w outcome) (ap (λ w. w ++ last) (sym is))
      closes)
  from_end before (h ∷ hs) front last outcome (said, left, is, own, goes, more) closes = inr (
    goes,
    (
      said,
      left ++ last,
      ap (λ w. w ++ last) is ∙ append_assoc said left last,
      own,
      from_end (before ++ h ∷ []) hs left last outcome more
          (subst (λ (w : List Heard). ClosesSo run terms w tail last outcome)
          (sym (append_assoc before (h ∷ []) hs)) closes),
    ),
  )

  one_said : IsExact run → (before hs : List Heard) (out other : List ℕ)
      (ended finished : Option Outcome) → SaysOn run terms tail before hs out ended
      → SaysOn run terms tail before hs other finished
      → (out ≡ other) × EndAlike ended finished
  one_said exact before [] out other ended finished p q = (
    exact.closes terms before tail out other p.0 q.0,
    end_alike (run.finishes terms before tail) (exact.finishes terms before tail) ended finished p.1
        q.1,
  )
  one_said exact before (h ∷ hs) out other ended finished (inl p) (inl q) = (
    exact.says terms tail.rests before h out other p.1 q.1,
    end_alike (run.ends terms before h) (exact.ends terms before h) ended finished p.2 q.2,
  )
  one_said exact before (h ∷ hs) out other ended finished (inl p) (inr q) =
      absurd (cc (sym p.0 ∙ q.0))
  one_said exact before (h ∷ hs) out other ended finished (inr p) (inl q) =
      absurd (cc (sym p.0 ∙ q.0))
  one_said exact before (h ∷ hs) out other ended finished (inr (p, (said, left, is, own, more)))
      (inr (q, (words, rest, at, its, later))) =
      let on = one_said exact (before ++ h ∷ []) hs left rest ended finished more later in (
        is ∙ ap (λ w. w ++ left) (exact.says terms tail.rests before h said words own its)
            ∙ ap (λ w. words ++ w) on.0 ∙ sym at,
        on.1,
      )

  some_said : IsTotal run → (before hs : List Heard)
      → (out : List ℕ) × SaysOn run terms tail before hs out None
  some_said total before [] =
      let closing = total.closes terms before tail in (closing.0, (closing.1, tt))
  some_said total before (h ∷ hs) =
      by_stop (total.says terms tail.rests before h) (some_said total (before ++ h ∷ []) hs)
      (run.stops terms before h) refl
    where
      by_stop : (out : List ℕ) × run.says terms tail.rests before h out
          → (out : List ℕ) × SaysOn run terms tail (before ++ h ∷ []) hs out None
          → (b : Bool) → run.stops terms before h ≡ b
          → (out : List ℕ) × SaysOn run terms tail before (h ∷ hs) out None
      by_stop own rest true is = (own.0, inl (is, own.1, tt))
      by_stop own rest false is = (own.0 ++ rest.0, inr (is, (own.0, rest.0, refl, own.1, rest.1)))

  -- and so it ends
  some_end : IsTotal run → (before hs : List Heard) (out : List ℕ)
      → CanHold (summary terms (heard_events (before ++ hs)))
      → SaysOn run terms tail before hs out None
      → (outcome : Outcome) × SaysOn run terms tail before hs out (Some outcome)
  some_end total before [] out fits says =
      let finish = total.finishes terms before tail
      (subst (λ (w : List Heard). CanHold (summary terms (heard_events w))) (append-nil before) fits)
      in (finish.0, (says.0, finish.1))
  some_end total before (h ∷ hs) out fits (inl p) =
      let end = total.ends terms before h p.0 in (end.0, inl (p.0, p.1, end.1))
  some_end total before (h ∷ hs) out fits (inr (goes, (said, left, is, own, more))) =
      let later = some_end total (before ++ h ∷ []) hs left
      (subst (λ (w : List Heard). CanHold (summary terms (heard_events w)))
      (sym (append_assoc before (h ∷ []) hs)) fits) more in
      (later.0, inr (goes, (said, left, is, own, later.1)))

-- ---- a log

module _ (run : Run) (limits : Bounds) (log out : List ℕ) (outcome : Outcome)
    (p : IsPassed run limits log out outcome) where
  abbrev terms : Terms
  terms = log_terms limits p.format

  passed_says : SaysOn run terms p.tail [] p.heard out (Some outcome)
  passed_says = by_end p.is
    where
      by_end : StopsIn run terms p.tail.rests p.heard out outcome
          ⊎ EndsAfter run terms p.tail p.heard out outcome
          → SaysOn run terms p.tail [] p.heard out (Some outcome)
      by_end (inl s) =
          subst (λ (w : List Heard). SaysOn run terms p.tail [] w out (Some outcome)) (sym s.are)
          (subst (λ w. SaysOn run terms p.tail [] (s.first ++ s.here ∷ s.later) w (Some outcome))
          (sym s.is) (from_stop run terms p.tail [] s.first s.later s.here s.front s.last outcome
          s.said s.stop.stops s.stop.says s.stop.ends))
      by_end (inr e) =
          subst (λ w. SaysOn run terms p.tail [] p.heard w (Some outcome)) (sym e.is)
          (from_end run terms p.tail [] p.heard e.front e.last outcome e.said e.closes)

-- **a log has one output of such a run**
pub has_one : (run : Run) → IsExact run → IsTotal run → HasOneOutput run
has_one run exact total = record {
  some = λ limits log.
      let told = some_told limits log in
      let t = told.0 in
      let said = some_said run (log_terms limits t.format) t.tail total [] t.heard in (
        said.0,
        record {
          format = t.format;
          records = t.records;
          heard = t.heard;
          tail = t.tail;
          told = told.1;
          says = said.1;
        },
      );
  ends = λ limits log out p fits.
      let end = some_end run (log_terms limits p.format) p.tail total [] p.heard out
      (fits p.format p.records p.heard p.tail p.told) p.says in (
        end.0,
        record {
          format = p.format;
          records = p.records;
          heard = p.heard;
          tail = p.tail;
          told = p.told;
          says = end.1;
        },
      );
  one = λ limits sizes log out other ended finished p q.
      let x = parts p.format p.records p.heard p.tail in
      let y = parts q.format q.records q.heard q.tail in
      one_said run (log_terms limits q.format) q.tail exact [] q.heard out other ended finished
      (subst (λ (t : Parts). SaysOn run (log_terms limits t.format) t.tail [] t.heard out ended)
      (one_told limits sizes log x y p.told q.told) p.says) q.says;
  passed = λ limits log out outcome p. record {
    format = p.format;
    records = p.records;
    heard = p.heard;
    tail = p.tail;
    told = p.told;
    says = passed_says run limits log out outcome p;
  };
}

-- ---- ends that are the same

pub judged_same : (v : Verdict) (a b : Outcome) → IsJudged v a → IsJudged v b → IsSameEnd a b
judged_same v a b (given, is, named) (other, at, called) =
    subst (λ (o : Outcome). IsSameEnd o b) (sym is)
    (subst (λ (o : Outcome). IsSameEnd (Judged given) o) (sym at) (named ∙ sym called))

-- one that is no verdict
pub end_same : (end a b : Outcome) → IsSameEnd end end → a ≡ end → b ≡ end → IsSameEnd a b
end_same end a b own is at = subst (λ (o : Outcome). IsSameEnd o b) (sym is)
    (subst (λ (o : Outcome). IsSameEnd end o) (sym at) own)
