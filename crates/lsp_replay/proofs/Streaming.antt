-- The streams of both sides, with one event more given or one record more pushed.
use Rattle.std.proofs.Common.{◌≡◌, ℕ, ℤ, List, [], ◌∷◌, ◌++◌, length, Option, Some, None, IsSome}
use Rattle.std.proofs.Common.{Bool, true, false, refl, sym, ap, subst, ◌∙◌, inl, inr, ◌≤◌}
use Rattle.std.proofs.Common.{append_assoc, arith, length-append}
use Rattle.std.proofs.lemmas.Bool.{cases_lt}
use Rattle.std.specs.Prelude.{if◌then◌else◌, string_bytes}
use Rattle.lsp_frame.specs.Bounds.{Bounds, IsInRange}
use Rattle.lsp_frame.specs.Buffer.{last_of}
use Rattle.lsp_frame.specs.Decoder as decoder
use Rattle.lsp_frame.specs.Frame.{Begins}
use Rattle.lsp_log.specs.Log.{Record, chunk, shown}
use Rattle.lsp_replay.specs.Streams as streams
use Rattle.lsp_replay.specs.Streams.{State, EndsIn, EndsInLast, HoldsLast, HoldsLastOf, IsDue}
use Rattle.lsp_replay.specs.Streams.{IsLastOf, IsRaw, Stands, StepsBy, StepsSide}
use Rattle.lsp_replay.specs.Streams.{StepsAt, Steps, decoder_of, due_of, put}
use Rattle.lsp_replay.specs.declared.streams.Due.{Due}
use Rattle.lsp_replay.specs.declared.streams.Due.TheVariants as next
use Rattle.lsp_replay.specs.declared.streams.Snapshot.{Snapshot}
use Rattle.lsp_replay.specs.declared.streams.PendingEvents.{PendingEvents}
use Rattle.lsp_replay.specs.declared.streams.PendingEvents.TheVariants as turn
use Rattle.lsp_replay.proofs.Giving.{over, none_next, content_next, due_rest, fault_next, pushed_due}
use Rattle.lsp_session.specs.Sent.{other_side, same_side}
use Rattle.lsp_types.specs.declared.side.Side.{Side}
use Rattle.lsp_types.specs.declared.side.Side.TheVariants.{Editor, Server}
use Rattle.lsp_verdict.specs.Placed.{Raw, content, broken, show, Placed, joined}
use Rattle.lsp_verdict.proofs.Sessions.{joined_own, joined_server, joined_editor, joined_shown}
use Rattle.lsp_verdict.proofs.Sessions.{placed_one}
use Rattle.lsp_verdict.proofs.PlacedLemmas.{placed-snoc, placed_whole, placed_next}

-- ---- the next event of a side

-- what was gone past is this event of the side
abbrev SideRaw : Side → decoder.State → Due → Raw → Type 0
SideRaw side d (next.Content by len) raw = (by ≡ side) × (raw ≡ content side (last_of d.kept len))
SideRaw side d (next.Broken by rule) raw = (by ≡ side) × (raw ≡ broken side rule)
SideRaw side d next.Snapshot raw = ⊥

abbrev SideGives : Side → decoder.State → List ℕ → List Raw → Option Due → Type 0
SideGives side d bytes due None = (due ≡ []) × IsDue side d bytes []
SideGives side d bytes due (Some given) =
    (raw : Raw) × SideRaw side d given raw
    × ((later : List Raw) × (due ≡ raw ∷ later) × IsDue side d bytes later)

side_gives : (side : Side) (d new : decoder.State) (bytes : List ℕ) (due : List Raw)
    (given : Option Due) → StepsSide side d new given → IsDue side d bytes due
    → SideGives side new bytes due given × (new.limits ≡ d.limits)
side_gives side d new bytes due given steps h = by_fault d.fault refl given steps
  where
    by_fault : (f : Option ℕ) → d.fault ≡ f → (o : Option Due) → StepsBy f side d new o
        → SideGives side new bytes due o × (new.limits ≡ d.limits)
    by_fault (Some rule) is o (none, same) =
        let ends = over side d bytes due h rule is in (
          subst (SideGives side new bytes due) (sym none)
              (ends.0, subst (λ (w : decoder.State). IsDue side w bytes []) (sym same) ends.1),
          ap (λ (w : decoder.State). w.limits) same,
        )
    by_fault None is None step = (
      none_next side d bytes due h new is step,
      ap (λ (w : decoder.State). w.limits) step.step.same,
    )
    by_fault None is (Some (next.Content by len)) (own, within, step) =
        let gives : decoder.GivesFrame d new (last_of new.kept len) = step.step in (
          (
            content side (last_of new.kept len),
            (own, refl),
            content_next side d bytes due h new (last_of new.kept len) step,
          ),
          ap (λ (w : decoder.State). w.limits) gives.same,
        )
    by_fault None is (Some (next.Broken by rule)) (own, step) =
        let gives : decoder.GivesFault d new rule = step.step in
        let one = fault_next side d bytes due h new rule is step in (
          (broken side rule, (own, refl), ([], one.0, one.1)),
          ap (λ (w : decoder.State). w.limits) gives.same,
        )
    by_fault None is (Some next.Snapshot) step = absurd step

-- ---- what of the last record is held

-- of two ways to cut bytes, the one that cuts later
cut_later : (xs ys us vs : List ℕ) → xs ++ ys ≡ us ++ vs → length xs ≤ length us
    → (mid : List ℕ) × (us ≡ xs ++ mid) × (ys ≡ mid ++ vs)
cut_later [] ys us vs same less = (us, refl, same)
cut_later (x ∷ xs) ys [] vs same less = absurd (omega (arith, less))
cut_later (x ∷ xs) ys (u ∷ us) vs same less =
    let whole : x ∷ (xs ++ ys) ≡ u ∷ (us ++ vs) = same in
    let first : x ≡ u = cc in
    let tail : xs ++ ys ≡ us ++ vs = cc in
    let rest = cut_later xs ys us vs tail (omega (arith, less)) in
    (rest.0, (λ i. (sym first i) ∷ rest.1 i), rest.2)

-- the next frame ends in it
ends_in : (d new : decoder.State) (bytes last : List ℕ) → decoder.GivesFrame d new bytes
    → HoldsLast d last → EndsIn new last
ends_in d new bytes last gives (inr (front, is, some)) = (
  front ++ gives.frame,
  is ∙ ap (λ w. front ++ w) gives.rest ∙ sym (append_assoc front gives.frame new.rest),
  omega (arith, some, length-append front gives.frame),
)
ends_in d new bytes last gives (inl (front, is, none)) =
    elim (cases_lt (length front) (length gives.frame)) [
      | inl less ↦
          let cut = cut_later front last gives.frame new.rest (sym is ∙ gives.rest)
          (omega (arith, less)) in
          (cut.0, cut.2, omega (arith, less, ap length cut.1, length-append front cut.0))
      | inr more ↦
          let cut = cut_later gives.frame new.rest front last (sym gives.rest ∙ is) more in
          absurd (none bytes cut.0 (gives.frame, cut.1, gives.is_frame))
    ]

-- where a content comes next, it ends in the last record
abbrev EndsDue : Side → decoder.State → List Record → Option Due → Type 0
EndsDue side d records (Some (next.Content by len)) = (d.fault ≡ None)
    × ((last : List ℕ) × IsLastOf side records last × EndsIn d last)
EndsDue side d records _ = Unit {0}

side_holds : (side : Side) (d new : decoder.State) (records : List Record) (given : Option Due)
    → StepsSide side d new given → HoldsLastOf side d records
    → HoldsLastOf side new records × EndsDue side new records given
side_holds side d new records given steps holds = by_fault d.fault refl given steps
  where
    still : new ≡ d → HoldsLastOf side new records
    still same = subst (λ (w : decoder.State). HoldsLastOf side w records) (sym same) holds

    by_fault : (f : Option ℕ) → d.fault ≡ f → (o : Option Due) → StepsBy f side d new o
        → HoldsLastOf side new records × EndsDue side new records o
    by_fault (Some rule) is o (none, same) =
        (still same, subst (EndsDue side new records) (sym none) tt)
    by_fault None is None step = (still step.step.same, tt)
    by_fault None is (Some (next.Content by len)) (own, within, step) =
        let gives : decoder.GivesFrame d new (last_of new.kept len) = step.step in
        let held = holds is in
        let ends = ends_in d new (last_of new.kept len) held.0 gives held.2 in (
          λ none. (held.0, held.1, inr ends),
          (ap (λ (w : decoder.State). w.fault) gives.same ∙ is, (held.0, held.1, ends)),
        )
    by_fault None is (Some (next.Broken by rule)) (own, step) =
        let gives : decoder.GivesFault d new rule = step.step in (
          λ none.
              let two : (let o : Option ℕ = Some rule in o) ≡ None =
              sym (ap (λ (w : decoder.State). w.fault) gives.same) ∙ none in
              absurd cc,
          tt,
        )
    by_fault None is (Some next.Snapshot) step = absurd step

-- ---- one side's event is one of the streams

ends_of_side : (side : Side) (s : State) (e : decoder.State) (records : List Record) (given : Due)
    (raw : Raw) → e ≡ decoder_of side s → SideRaw side e given raw
    → EndsDue side e records (Some given) → EndsInLast s records raw
ends_of_side side s e records (next.Content by len) raw same (own, is) ends =
    subst (EndsInLast s records) (sym is)
    (subst (λ (d : decoder.State). (d.fault ≡ None)
    × ((last : List ℕ) × IsLastOf side records last × EndsIn d last)) same ends)
ends_of_side side s e records (next.Broken by rule) raw same (own, is) ends =
    subst (EndsInLast s records) (sym is) tt
ends_of_side side s e records next.Snapshot raw same is ends = absurd is

raw_of_side : (s : State) (side : Side) (given : Due) (raw : Raw)
    → SideRaw side (decoder_of side s) given raw → IsRaw s given raw
raw_of_side s side (next.Content by len) raw (own, is) =
    subst (λ (w : Side). raw ≡ content w (last_of (decoder_of w s).kept len)) (sym own) is
raw_of_side s side (next.Broken by rule) raw (own, is) =
    subst (λ (w : Side). raw ≡ broken w rule) (sym own) is
raw_of_side s side next.Snapshot raw is = absurd is

-- ---- the next event

abbrev pub StepGives : Bounds → State → List Record → List Raw → List Raw → Option Due → Type 0
StepGives limits new records given due None = (due ≡ []) × Stands limits new records given []
StepGives limits new records given due (Some step) =
    (raw : Raw) × IsRaw new step raw
    × ((later : List Raw) × (due ≡ raw ∷ later)
    × Stands limits new records (given ++ raw ∷ []) later × EndsInLast new records raw)

put_own : (side : Side) (e : decoder.State) (s : State) → e ≡ decoder_of side (put side e s)
put_own Editor e s = refl
put_own Server e s = refl

-- a side whose events these are, and the other, of which none is due
stood : (limits : Bounds) (side : Side) (s : State) (e : decoder.State) (records : List Record)
    (past left : List Raw) → IsInRange limits → Placed limits records (past ++ left)
    → ((by : Side) → (decoder_of by s).limits ≡ limits) → e.limits ≡ limits
    → IsDue side e (joined side records) left
    → IsDue (other_side side) (decoder_of (other_side side) s) (joined (other_side side) records) []
    → HoldsLastOf side e records
    → Stands limits (put side e (record s { turn = Some (turn.Bytes side) })) records past left
stood limits side s e records past left range placed own same due other holds = record {
  range = range;
  placed = placed;
  own = limits_are side same;
  sides = dues side due other;
  shows = tt;
  holds = subst (λ (d : decoder.State). HoldsLastOf side d records)
      (put_own side e (record s { turn = Some (turn.Bytes side) })) holds;
}
  where
    limits_are : (side : Side) → e.limits ≡ limits
        → (by : Side) → (decoder_of by (put side e s)).limits ≡ limits
    limits_are Editor same Server = own Server
    limits_are Server same Editor = own Editor
    limits_are _ same _ = same

    dues : (side : Side) → IsDue side e (joined side records) left
        → IsDue (other_side side) (decoder_of (other_side side) s) (joined (other_side side) records) []
        → (by : Side) → IsDue by (decoder_of by (put side e s)) (joined by records)
        (due_of by (Some (turn.Bytes side)) left)
    dues Editor due other Server = other
    dues Server due other Editor = other
    dues _ due other _ = due

module _ (limits : Bounds) (records : List Record) (given due : List Raw) where
  side_stepped : (side : Side) (s : State) (e : decoder.State) (o : Option Due)
      → StepsSide side (decoder_of side s) e o → Stands limits s records given due
      → IsDue side (decoder_of side s) (joined side records) due
      → IsDue (other_side side) (decoder_of (other_side side) s) (joined (other_side side) records)
      [] → HoldsLastOf side (decoder_of side s) records
      → StepGives limits (put side e (record s { turn = Some (turn.Bytes side) })) records given
      due o
  side_stepped side s e o steps h is_due other was =
      let one = side_gives side (decoder_of side s) e (joined side records) due o steps is_due in
      let held = side_holds side (decoder_of side s) e records o steps was in
      by_next o one.0 (one.1 ∙ h.own side) held.0 held.1
    where
      new : State
      new = put side e (record s { turn = Some (turn.Bytes side) })

      by_next : (o : Option Due) → SideGives side e (joined side records) due o
          → e.limits ≡ limits → HoldsLastOf side e records → EndsDue side e records o
          → StepGives limits new records given due o
      by_next None (none, ends) same holds last = (
        none,
        stood limits side s e records given [] h.range
            (subst (λ (w : List Raw). Placed limits records (given ++ w)) none h.placed)
            h.own same ends other holds,
      )
      by_next (Some step) (raw, is, (later, first, left)) same holds last = (
        raw,
        raw_of_side new side step raw
            (subst (λ (d : decoder.State). SideRaw side d step raw) (put_own side e s) is),
        (
          later,
          first,
          stood limits side s e records (given ++ raw ∷ []) later h.range
              (placed_next limits records given due later raw first h.placed) h.own same left other
              holds,
          ends_of_side side new e records step raw (put_own side e s) is last,
        ),
      )

  shown_stepped : (s : State) → IsSome s.snapshot
      → Stands limits (record s { turn = Some turn.Snapshot }) records given due
      → StepGives limits (record s { turn = None }) records given due (Some next.Snapshot)
  shown_stepped s held h = by_snapshot s.snapshot refl held
    where
      by_snapshot : (o : Option Snapshot) → s.snapshot ≡ o → IsSome o
          → StepGives limits (record s { turn = None }) records given due (Some next.Snapshot)
      by_snapshot None is some = absurd cc
      by_snapshot (Some x) is some =
          let raw : Raw = show x.version (string_bytes x.uri) (string_bytes x.text) in
          let first : due ≡ raw ∷ [] = h.shows ∙ ap streams.shown is in (
            raw,
            ap streams.shown is,
            (
              [],
              first,
              record {
                range = h.range;
                placed = placed_next limits records given due [] raw first h.placed;
                own = h.own;
                sides = h.sides;
                shows = refl;
                holds = tt;
              },
              tt,
            ),
          )

  idle_stepped : (s : State) → Stands limits (record s { turn = None }) records given due
      → StepGives limits (record s {
        snapshot = None;
        turn = None;
      }) records given due None
  idle_stepped s h = (
    h.shows,
    record {
      range = h.range;
      placed = subst (λ (w : List Raw). Placed limits records (given ++ w)) h.shows h.placed;
      own = h.own;
      sides = h.sides;
      shows = refl;
      holds = tt;
    },
  )

  pub stepped : (old new : State) (o : Option Due) → Steps old new o
      → Stands limits old records given due → StepGives limits new records given due o
  stepped old new o steps h = by_turn old.turn refl steps h
    where
      along : (s : State) (p : Option Due) → new ≡ s → StepGives limits s records given due p
          → StepGives limits new records given due p
      along s p same gives = subst (λ (w : State). StepGives limits w records given due p)
          (sym same) gives

      by_turn : (t : Option PendingEvents) → old.turn ≡ t → StepsAt t old new o
          → Stands limits (record old { turn = t }) records given due
          → StepGives limits new records given due o
      by_turn None own (none, same) h =
          subst (StepGives limits new records given due) (sym none) (along (record old {
            snapshot = None;
            turn = None;
          }) None (same ∙ ap (λ (t : Option PendingEvents). record old {
            snapshot = None;
            turn = t;
          }) own) (idle_stepped old h))
      by_turn (Some (turn.Bytes Editor)) own (steps, same) h =
          along (put Editor new.editor (record old { turn = Some (turn.Bytes Editor) })) o
          (same ∙ ap (λ (t : Option PendingEvents). put Editor new.editor (record old { turn = t }))
          own) (side_stepped Editor (record old { turn = Some (turn.Bytes Editor) }) new.editor o
          steps h (h.sides Editor) (h.sides Server) h.holds)
      by_turn (Some (turn.Bytes Server)) own (steps, same) h =
          along (put Server new.server (record old { turn = Some (turn.Bytes Server) })) o
          (same ∙ ap (λ (t : Option PendingEvents). put Server new.server (record old { turn = t }))
          own) (side_stepped Server (record old { turn = Some (turn.Bytes Server) }) new.server o
          steps h (h.sides Server) (h.sides Editor) h.holds)
      by_turn (Some turn.Snapshot) own (is, same, held) h =
          subst (StepGives limits new records given due) (sym is)
          (along (record old {
            turn = None;
          }) (Some next.Snapshot) same
          (shown_stepped old (subst (λ (w : State). IsSome w.snapshot) same held) h))

-- what was gone past is one event
pub one_raw : (s : State) (step : Due) (a b : Raw) → IsRaw s step a → IsRaw s step b → a ≡ b
one_raw s next.Snapshot a b p q = let same : a ∷ [] ≡ b ∷ [] = sym p ∙ q in cc
one_raw s _ a b p q = p ∙ sym q

-- and it is lent
pub lent : (limits : Bounds) (new : State) (records : List Record) (given due : List Raw)
    (step : Due) (raw : Raw) → IsRaw new step raw
    → StepGives limits new records given due (Some step)
    → (later : List Raw) × (due ≡ raw ∷ later) × Stands limits new records (given ++ raw ∷ []) later
lent limits new records given due step raw is gives =
    subst (λ (w : Raw). (later : List Raw) × (due ≡ w ∷ later)
    × Stands limits new records (given ++ w ∷ []) later)
    (one_raw new step gives.0 raw gives.1 is) (gives.2.0, gives.2.1, gives.2.2)

-- ---- one more record

module _ (limits : Bounds) (records : List Record) (given : List Raw) where
  pub own_due : (side : Side) (s : State) → Stands limits s records given []
      → IsDue side (decoder_of side s) (joined side records) []
  own_due side s h =
      subst (IsDue side (decoder_of side s) (joined side records)) (none side s.turn) (h.sides side)
    where
      none : (side : Side) (t : Option PendingEvents) → due_of side t [] ≡ []
      none side (Some (turn.Bytes by)) = by_test (same_side side by)
        where
          by_test : (b : Bool) → (let rs : List Raw = if b then [] else [] in rs) ≡ []
          by_test true = refl
          by_test false = refl
      none side _ = refl

  joined_other : (side : Side) (bytes : List ℕ)
      → joined (other_side side) (records ++ chunk side bytes ∷ [])
      ≡ joined (other_side side) records
  joined_other Editor bytes = joined_server records bytes
  joined_other Server bytes = joined_editor records bytes

  pub side_pushed : (side : Side) (s : State) (e : decoder.State) (bytes : List ℕ)
      → e.limits ≡ (decoder_of side s).limits → e.fault ≡ (decoder_of side s).fault
      → ((decoder_of side s).fault ≡ None → e.rest ≡ (decoder_of side s).rest ++ bytes)
      → ((sent : List ℕ) (contents : List (List ℕ))
      → decoder.StandsFor (decoder_of side s) sent contents
      → decoder.StandsFor e (sent ++ bytes) contents)
      → Stands limits s records given []
      → (due : List Raw) × Stands limits (put side e (record s { turn = Some (turn.Bytes side) }))
      (records ++ chunk side bytes ∷ []) given due
  side_pushed side s e bytes same fault behind stands h =
      let p = pushed_due limits side (decoder_of side s) e (joined side records) bytes (h.own side)
      same fault (own_due side s h) stands in (
        p.0,
        stood limits side s e (records ++ chunk side bytes ∷ []) given p.0 h.range
            (placed-snoc limits [] [] records (chunk side bytes) given p.0
            (placed_whole limits records given [] refl h.placed)
            (placed_one limits side records bytes p.0 p.1))
            h.own (same ∙ h.own side)
            (subst (λ (w : List ℕ). IsDue side e w p.0) (sym (joined_own side records bytes)) p.2)
            (subst (λ (w : List ℕ). IsDue (other_side side) (decoder_of (other_side side) s) w [])
            (sym (joined_other side bytes)) (own_due (other_side side) s h))
            (λ none.
            let whole = sym fault ∙ none in
            (bytes, (records, refl), inl ((decoder_of side s).rest, behind whole, none_begun whole))),
      )
    where
      -- what was held begins with no frame
      none_begun : (decoder_of side s).fault ≡ None
          → (content after : List ℕ) → Begins e.limits (decoder_of side s).rest content after → ⊥
      none_begun whole = subst (λ (b : Bounds).
          (content after : List ℕ) → Begins b (decoder_of side s).rest content after → ⊥) (sym same)
          (due_rest side (decoder_of side s) (joined side records) (own_due side s h) whole).no_more

  pub shown_pushed : (s : State) (x : Snapshot) (number : ℤ) → x.version ≡ number
      → Stands limits s records given []
      → (due : List Raw) × Stands limits (record s {
        snapshot = Some x;
        turn = Some turn.Snapshot;
      }) (records ++ shown number (string_bytes x.uri) (string_bytes x.text) ∷ []) given due
  shown_pushed s x number same h =
      let uri = string_bytes x.uri in
      let text = string_bytes x.text in (
        show x.version uri text ∷ [],
        record {
          range = h.range;
          placed = placed-snoc limits [] [] records (shown number uri text) given
              (show x.version uri text ∷ []) (placed_whole limits records given [] refl h.placed)
              ([], ap (λ n. show n uri text ∷ []) same, refl);
          own = h.own;
          sides = λ side. subst (λ (w : List ℕ). IsDue side (decoder_of side s) w [])
              (sym (joined_shown side records number uri text)) (own_due side s h);
          shows = refl;
          holds = tt;
        },
      )

pub pushed_fault : (s : decoder.State) (piece : List ℕ) → (decoder.pushed s piece).fault ≡ s.fault
pushed_fault s piece = by_fault s.fault
  where
    by_fault : (o : Option ℕ) → (decoder.taken_at o s (length piece) piece).fault ≡ s.fault
    by_fault None = refl
    by_fault (Some rule) = refl

pub pushed_rest : (s new : decoder.State) (piece : List ℕ)
    → decoder.FitsIn new (decoder.pushed s piece) → s.fault ≡ None → new.rest ≡ s.rest ++ piece
pushed_rest s new piece fits whole =
    ap (λ (w : decoder.State). w.rest) fits.same
    ∙ ap (λ (o : Option ℕ). (decoder.taken_at o s (length piece) piece).rest) whole

pub pushed_limits : (s : decoder.State) (piece : List ℕ)
    → (decoder.pushed s piece).limits ≡ s.limits
pushed_limits s piece = by_fault s.fault
  where
    by_fault : (o : Option ℕ) → (decoder.taken_at o s (length piece) piece).limits ≡ s.limits
    by_fault None = refl
    by_fault (Some rule) = refl
