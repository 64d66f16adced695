-- What is at hand behind a content that was given last is what the decoder of its side holds.
use Rattle.std.specs.Prelude.{filter, if◌then◌else◌, map, slice_get, unwrap_or}
use Rattle.std.proofs.Common.{◌≡◌, ◌+◌, ◌-◌, ℕ, Bool, true, false, List, [], ◌∷◌, ◌++◌, Option, None, Some}
use Rattle.std.proofs.Common.{refl, sym, ap, subst, ◌∙◌, append_assoc, append-nil, arith, length}
use Rattle.std.proofs.Common.{length-append}
use Rattle.std.proofs.lemmas.List.{length-map}
use Rattle.std.proofs.lemmas.List.Elements.{filter-append}
use Rattle.lsp_frame.specs.Bounds.{Bounds}
use Rattle.lsp_frame.specs.Decoder as decoder
use Rattle.lsp_frame.specs.Frame.{Frames}
use Rattle.lsp_frame.proofs.Frames.{frames_first, frames_more}
use Rattle.lsp_log.specs.Log.{Record, chunk}
use Rattle.lsp_session.proofs.LawLemmas.{same_side-refl}
use Rattle.lsp_session.specs.Sent.{same_side}
use Rattle.lsp_types.specs.declared.side.Side.{Side}
use Rattle.lsp_types.specs.declared.side.Side.TheVariants.{Editor, Server}
use Rattle.lsp_replay.specs.Streams.{EndsInLast, IsDue, Stands, State, decoder_of, due_of}
use Rattle.lsp_replay.proofs.FirstEvents.{AreNoted}
use Rattle.lsp_replay.proofs.Fronts.{joined-append}
use Rattle.lsp_replay.proofs.Owning.{given_are}
use Rattle.lsp_verdict.specs.Heard.{AreBehind, AreRests, HasBehind, Heard, Rests, after_byte}
use Rattle.lsp_verdict.specs.Heard.{behind_at, behind_of, heard_events, notes_of, raws_of}
use Rattle.lsp_verdict.specs.Placed.{Raw, content, joined, new_fault}
use Rattle.lsp_verdict.specs.Verdict.{count_of, is_of}
use Rattle.lsp_verdict.proofs.Behind.{at_hand, behind_last, own_count}
use Rattle.lsp_verdict.proofs.Sessions.{joined_own}
use Rattle.lsp_verdict.proofs.Sessions.Joined.{is_own}

one_own : (side : Side) (bytes : List ℕ) (b : Bool) → b ≡ true
    → (let rs : List Raw = if b then content side bytes ∷ [] else [] in rs)
    ≡ content side bytes ∷ []
one_own side bytes true e = refl
one_own side bytes false e = absurd cc

module _ (limits : Bounds) (s : State) (records : List Record) (before : List Heard) (side : Side)
    (bytes : List ℕ) (due : List Raw)
    (h : Stands limits s records (raws_of before ++ content side bytes ∷ []) due)
    (noted : AreNoted before) (ends : EndsInLast s records (content side bytes))
    (more : List Record) (rests : Rests) (are : AreRests limits (records ++ more) rests) where
  abbrev d : decoder.State
  d = decoder_of side s

  abbrev is : IsDue side d (joined side records) (due_of side s.turn due)
  is = h.sides side

  abbrev all : List Record
  all = records ++ more

  abbrev after : List ℕ
  after = d.rest ++ joined side more

  abbrev number : ℕ
  number = count_of (is_of side) (heard_events before)

  -- it is the next of its side's contents
  counted : length is.given ≡ number + 1
  counted =
      let past = raws_of before in
      let one : filter (is_own side) (content side bytes ∷ []) ≡ content side bytes ∷ [] =
      one_own side bytes (same_side side side) (same_side-refl side) in
      let own : filter (is_own side) past ++ content side bytes ∷ []
      ≡ map (content side) is.given ++ new_fault side None d.fault =
      ap (λ w. filter (is_own side) past ++ w) (sym one)
      ∙ sym (filter-append (is_own side) past (content side bytes ∷ []))
      ∙ given_are limits s records (past ++ content side bytes ∷ []) due h side in
      let whole : filter (is_own side) past ++ content side bytes ∷ []
      ≡ map (content side) is.given =
      own ∙ ap (λ f. map (content side) is.given ++ new_fault side None f) ends.0
      ∙ append-nil (map (content side) is.given) in
      omega (
        arith,
        ap length whole,
        length-append (filter (is_own side) past) (content side bytes ∷ []),
        length-map is.given (content side),
        own_count side past (notes_of before) noted,
      )

  frames : Frames limits (joined side all) is.given after
  frames =
      let held : is.stands.rest ≡ d.rest =
      subst (λ (f : Option ℕ). decoder.RestAt f d is.stands.rest) ends.0 is.stands.held in
      let own : Frames limits (joined side records) is.given d.rest =
      subst (λ w. Frames w (joined side records) is.given d.rest) (h.own side)
      (subst (λ (w : List ℕ). Frames d.limits (joined side records) is.given w) held
      is.stands.frames) in
      subst (λ (w : List ℕ). Frames limits w is.given after) (sym (joined-append side records more))
      (frames_more limits (joined side records) is.given d.rest (joined side more) own)

  has : HasBehind limits side all (behind_of rests side)
  has = by_side side
    where
      by_side : (w : Side) → HasBehind limits w all (behind_of rests w)
      by_side Editor = are.editor_behind
      by_side Server = are.server_behind

  found : slice_get (behind_of rests side) number
      ≡ Some (after_byte side (length (joined side all) - length after) all)
  found =
      let cut = frames_first limits (joined side all) is.given after has.0 has.1 has.2 frames has.3
      in
      behind_last limits side all (joined side all) is.given cut.0 after (behind_of rests side) number
      frames (subst (λ w. AreBehind limits side all (joined side all) w (behind_of rests side)) cut.1
      has.4) counted

  -- and it ended in the last record
  held : after_byte side (length (joined side all) - length after) all ≡ d.rest
  held =
      let (last, (first, split), (front, are_last, some)) = ends.1 in
      let records_are : all ≡ first ++ chunk side (front ++ d.rest) ∷ more =
      ap (λ w. w ++ more) (split ∙ ap (λ w. first ++ chunk side w ∷ []) are_last)
      ∙ append_assoc first (chunk side (front ++ d.rest) ∷ []) more in
      let bytes_are : joined side records ≡ joined side first ++ (front ++ d.rest) =
      ap (joined side) (split ∙ ap (λ w. first ++ chunk side w ∷ []) are_last)
      ∙ joined_own side first (front ++ d.rest) in
      let place : length (joined side all) - length after ≡ length (joined side first) + length front =
      omega (
        arith,
        ap length (joined-append side records more),
        length-append (joined side records) (joined side more),
        ap length bytes_are,
        length-append (joined side first) (front ++ d.rest),
        length-append front d.rest,
        length-append d.rest (joined side more),
      ) in
      ap (after_byte side (length (joined side all) - length after)) records_are
      ∙ at_hand side first more front d.rest (length (joined side all) - length after) some place

  pub behind_shown : behind_at rests (heard_events before) side ≡ d.rest
  behind_shown = ap (λ o. unwrap_or o []) found ∙ held
