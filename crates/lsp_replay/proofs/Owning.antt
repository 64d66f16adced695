-- Which of the events given are a side's, and what its decoder holds where its frames have a fault.
use Rattle.std.specs.Prelude.{map, filter, if◌then◌else◌}
use Rattle.std.proofs.Common.{◌≡◌, ℕ, Bool, true, false, List, [], ◌∷◌, ◌++◌, Option, Some, None}
use Rattle.std.proofs.Common.{IsSome, refl, sym, ap, subst, ◌∙◌, append-nil, append_assoc}
use Rattle.std.proofs.lemmas.List.{append_cancel_right, map-append}
use Rattle.std.proofs.lemmas.List.Elements.{filter-append}
use Rattle.lsp_frame.specs.Bounds.{Bounds}
use Rattle.lsp_frame.specs.Decoder as decoder
use Rattle.lsp_frame.specs.Frame.{Breaks, IsStream}
use Rattle.lsp_log.specs.Log.{Record}
use Rattle.lsp_session.specs.Sent.{same_side}
use Rattle.lsp_session.proofs.LawLemmas.{same_side-refl}
use Rattle.lsp_replay.specs.Streams.{State, IsDue, ShowsDue, Stands, decoder_of, due_of, shown}
use Rattle.lsp_replay.specs.declared.streams.Snapshot.{Snapshot}
use Rattle.lsp_replay.specs.declared.streams.PendingEvents.{PendingEvents}
use Rattle.lsp_replay.specs.declared.streams.PendingEvents.TheVariants as turn
use Rattle.lsp_replay.proofs.Giving.{broken_stream, over}
use Rattle.lsp_types.specs.declared.side.Side.{Side}
use Rattle.lsp_verdict.specs.Placed.{Raw, content, broken, new_fault, joined}
use Rattle.lsp_verdict.proofs.Below.{one_stream}
use Rattle.lsp_verdict.proofs.Sessions.Joined.{all_own, is_own, none_own, own_is_stream}

-- ---- the events of a side

shown_own : (side : Side) (o : Option Snapshot) → filter (is_own side) (shown o) ≡ []
shown_own side None = refl
shown_own side (Some s) = refl

-- ---- those given

module _ (side : Side) (d : decoder.State) (bytes : List ℕ) (own due : List Raw)
    (h : IsDue side d bytes due)
    (whole : own ++ due ≡ map (content side) (h.given ++ h.left) ++ new_fault side None h.breaks)
  where
    given_open : d.fault ≡ None → own ≡ map (content side) h.given ++ new_fault side None d.fault
    given_open unbroken =
        let left = map (content side) h.left ++ new_fault side None h.breaks in
        let are : due ≡ left = h.are ∙ ap (λ f.
        map (content side) h.left ++ new_fault side f h.breaks) unbroken in
        let all : own ++ left ≡ map (content side) h.given ++ left =
        ap (λ w. own ++ w) (sym are) ∙ whole
        ∙ ap (λ w. w ++ new_fault side None h.breaks) (map-append (content side) h.given h.left)
        ∙ append_assoc (map (content side) h.given) (map (content side) h.left)
        (new_fault side None h.breaks) in
        append_cancel_right own (map (content side) h.given) left all
        ∙ sym (append-nil (map (content side) h.given))
        ∙ ap (λ f. map (content side) h.given ++ new_fault side None f) (sym unbroken)

    given_over : (rule : ℕ) → d.fault ≡ Some rule
        → own ≡ map (content side) h.given ++ new_fault side None d.fault
    given_over rule gave =
        let stream = broken_stream d bytes h.given rule gave h.stands in
        let one = one_stream d.limits bytes h.given (h.given ++ h.left) h.stands.rest h.rest
        (Some rule) h.breaks stream h.stream in
        sym (append-nil own)
        ∙ ap (λ w. own ++ w) (sym (over side d bytes due h rule gave).0)
        ∙ whole
        ∙ ap (λ w. map (content side) w ++ new_fault side None h.breaks) (sym one.contents)
        ∙ ap (λ f. map (content side) h.given ++ new_fault side None f) (sym one.fault ∙ sym gave)

    given_is : own ≡ map (content side) h.given ++ new_fault side None d.fault
    given_is = by_fault d.fault refl
      where
        by_fault : (f : Option ℕ) → d.fault ≡ f
            → own ≡ map (content side) h.given ++ new_fault side None d.fault
        by_fault None is = given_open is
        by_fault (Some rule) is = given_over rule is

-- contents are no fault
no_break : (side : Side) (own : List Raw) (rule : ℕ) (contents : List (List ℕ))
    → own ++ broken side rule ∷ [] ≡ map (content side) contents → ⊥
no_break side [] rule [] e = absurd cc
no_break side (raw ∷ own) rule (c ∷ contents) e = no_break side own rule contents (cc e)
no_break side _ rule _ e = absurd cc

one_own : (side : Side) (rule : ℕ) (b : Bool) → b ≡ true
    → (let rs : List Raw = if b then broken side rule ∷ [] else [] in rs) ≡ broken side rule ∷ []
one_own side rule true e = refl
one_own side rule false e = absurd cc

-- the frames of these bytes have a fault, and what the decoder holds after the last whole one goes
-- at least as far as that is seen
pub record AreBroken (limits : Bounds) (d : decoder.State) (bytes : List ℕ) (rule : ℕ) : Type 0
  where
    pub contents : List (List ℕ)
    pub more : List ℕ
    pub stream : IsStream limits bytes contents (d.rest ++ more) (Some rule)
    pub breaks : Breaks limits d.rest rule

module _ (limits : Bounds) (s : State) (records : List Record) (given due : List Raw)
    (h : Stands limits s records given due) where
  own_left : (side : Side) → filter (is_own side) due ≡ due_of side s.turn due
  own_left side = by_turn s.turn h.sides h.shows
    where
      by_turn : (t : Option PendingEvents) → ((by : Side)
          → IsDue by (decoder_of by s) (joined by records) (due_of by t due))
          → ShowsDue t s.snapshot due → filter (is_own side) due ≡ due_of side t due
      by_turn None sides shows = ap (filter (is_own side)) shows
      by_turn (Some (turn.Bytes by)) sides shows = by_test (same_side side by) refl
        where
          is : IsDue by (decoder_of by s) (joined by records) (due_of by (Some (turn.Bytes by)) due)
          is = sides by

          are : due ≡ map (content by) is.left ++ new_fault by (decoder_of by s).fault is.breaks
          are = sym (ap (λ b. let rs : List Raw = if b then due else [] in rs) (same_side-refl by))
              ∙ is.are

          by_test : (b : Bool) → same_side side by ≡ b
              → filter (is_own side) due ≡ (let rs : List Raw = if b then due else [] in rs)
          by_test true same = ap (filter (is_own side)) are
              ∙ all_own side by same is.left (decoder_of by s).fault is.breaks ∙ sym are
          by_test false other = ap (filter (is_own side)) are
              ∙ none_own side by other is.left (decoder_of by s).fault is.breaks
      by_turn (Some turn.Snapshot) sides shows =
          ap (filter (is_own side)) shows ∙ shown_own side s.snapshot

  -- of the events given, those of a side are the contents that its decoder gave, and after them the
  -- fault that it did
  pub given_are : (side : Side)
      → filter (is_own side) given
      ≡ map (content side) (h.sides side).given ++ new_fault side None (decoder_of side s).fault
  given_are side =
      let d = decoder_of side s in
      let is = h.sides side in
      let stream = subst (λ (b : Bounds). IsStream b (joined side records) (is.given ++ is.left)
      is.rest is.breaks) (h.own side) is.stream in
      let all = own_is_stream limits h.range side records (given ++ due) (is.given ++ is.left)
      is.rest is.breaks h.placed stream in
      let whole : filter (is_own side) given ++ due_of side s.turn due
      ≡ map (content side) (is.given ++ is.left) ++ new_fault side None is.breaks =
      ap (λ w. filter (is_own side) given ++ w) (sym (own_left side))
      ∙ sym (filter-append (is_own side) given due) ∙ all in
      given_is side d (joined side records) (filter (is_own side) given) (due_of side s.turn due) is
      whole

  -- **of the events given, those of a side are contents, and after them the fault that its decoder
  -- gave**
  pub given_own : (side : Side)
      → (contents : List (List ℕ))
      × (filter (is_own side) given
      ≡ map (content side) contents ++ new_fault side None (decoder_of side s).fault)
  given_own side = ((h.sides side).given, given_are side)

  -- a fault that was given last is its decoder's
  pub given_fault : (side : Side) (rule : ℕ) (before : List Raw)
      → given ≡ before ++ broken side rule ∷ [] → IsSome (decoder_of side s).fault
  given_fault side rule before last = by_fault (decoder_of side s).fault refl
    where
      by_fault : (f : Option ℕ) → (decoder_of side s).fault ≡ f → IsSome (decoder_of side s).fault
      by_fault (Some r) is = subst (λ (f : Option ℕ). IsSome f) (sym is) refl
      by_fault None is =
          let own = given_own side in
          let mine : filter (is_own side) (broken side rule ∷ []) ≡ broken side rule ∷ [] =
          one_own side rule (same_side side side) (same_side-refl side) in
          let ends : filter (is_own side) given
          ≡ filter (is_own side) before ++ broken side rule ∷ [] =
          ap (filter (is_own side)) last
          ∙ filter-append (is_own side) before (broken side rule ∷ [])
          ∙ ap (λ w. filter (is_own side) before ++ w) mine in
          absurd (no_break side (filter (is_own side) before) rule own.0
          (sym ends ∙ own.1 ∙ ap (λ f. map (content side) own.0 ++ new_fault side None f) is
          ∙ append-nil (map (content side) own.0)))

  -- **a decoder that gave a fault holds at least what has it**
  pub side_broken : (side : Side) (rule : ℕ) → (decoder_of side s).fault ≡ Some rule
      → AreBroken limits (decoder_of side s) (joined side records) rule
  side_broken side rule gave =
      let d = decoder_of side s in
      let is = h.sides side in
      let held = subst (λ (f : Option ℕ). decoder.RestAt f d is.stands.rest) gave is.stands.held in
      let stream = subst (λ (b : Bounds). IsStream b (joined side records) is.given is.stands.rest
      (Some rule)) (h.own side)
      (broken_stream d (joined side records) is.given rule gave is.stands) in
      record {
        contents = is.given;
        more = held.0;
        stream = subst (λ (w : List ℕ). IsStream limits (joined side records) is.given w
            (Some rule)) held.1 stream;
        breaks = subst (λ (b : Bounds). Breaks b d.rest rule) (h.own side) held.2;
      }
