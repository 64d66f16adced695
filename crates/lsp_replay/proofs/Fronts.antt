-- What is left of a side's bytes after its last whole frame.
use Rattle.std.specs.Prelude.{if◌then◌else◌, map, filter}
use Rattle.std.proofs.Common.{◌≡◌, ℕ, Bool, true, false, List, [], ◌∷◌, ◌++◌, Option, Some, None}
use Rattle.std.proofs.Common.{IsSome, refl, sym, ap, subst, ◌∙◌, append_assoc, ◌+◌, ◌≤◌, arith}
use Rattle.lsp_frame.specs.Bounds.{Bounds, IsInRange}
use Rattle.lsp_frame.specs.Decoder as decoder
use Rattle.lsp_frame.specs.Frame.{IsStream}
use Rattle.lsp_frame.specs.Front.{header_front}
use Rattle.lsp_log.specs.Log.{Record, chunk, shown}
use Rattle.lsp_session.specs.Sent.{same_side}
use Rattle.lsp_types.specs.declared.side.Side.{Side}
use Rattle.lsp_verdict.specs.Outcome.{HasRest, is_rest}
use Rattle.lsp_verdict.specs.Placed.{Raw, joined, content, broken, show, new_fault}
use Rattle.lsp_verdict.proofs.Below.{faulty_more, one_stream, shown_stays}
use Rattle.lsp_verdict.proofs.Sessions.Joined.{is_own}
use Rattle.lsp_replay.specs.Streams.{State, Stands, decoder_of, ends_at, ends_inside}
use Rattle.lsp_replay.proofs.Owning.{AreBroken, side_broken, given_own}
use Rattle.lsp_replay.proofs.Giving.{due_rest}
use Rattle.lsp_replay.proofs.Streaming.{own_due}

-- ---- the bytes of a side after its last whole frame, where its frames have a fault

-- the header part that has the fault is known
front_known : (limits : Bounds) → IsInRange limits
    → (d : decoder.State) (bytes more rest : List ℕ) (rule : ℕ) → AreBroken limits d bytes rule
    → HasRest limits (bytes ++ more) rest → header_front d.rest ≡ header_front rest
front_known limits sizes d bytes more rest rule b has =
    let later = subst (λ (w : List ℕ). IsStream limits (bytes ++ more) b.contents w (Some rule))
    (append_assoc d.rest b.more more)
    (faulty_more limits bytes b.contents (d.rest ++ b.more) rule more b.stream) in
    let one = one_stream limits (bytes ++ more) has.0 b.contents rest (d.rest ++ (b.more ++ more))
    has.1 (Some rule) has.2 later in
    sym (shown_stays limits sizes d.rest (b.more ++ more) rule b.breaks)
    ∙ ap header_front (sym one.rest)

pub joined-append : (side : Side) (rs more : List Record)
    → joined side (rs ++ more) ≡ joined side rs ++ joined side more
joined-append side [] more = refl
joined-append side (chunk by b ∷ rs) more = by_side (same_side side by) (joined-append side rs more)
  where
    by_side : (own : Bool) → joined side (rs ++ more) ≡ joined side rs ++ joined side more
        → (if own then b ++ joined side (rs ++ more) else joined side (rs ++ more))
        ≡ (if own then b ++ joined side rs else joined side rs) ++ joined side more
    by_side true e = ap (λ w. b ++ w) e ∙ sym (append_assoc b (joined side rs) (joined side more))
    by_side false e = e
joined-append side (shown n uri t ∷ rs) more = joined-append side rs more

-- **after a fault of a side's frames the header part that has it is known from what is held,
-- whatever records follow**
pub front_shown : (limits : Bounds) (s : State) (rs : List Record) (past due : List Raw)
    (side : Side) → Stands limits s rs past due → IsSome (decoder_of side s).fault
    → (more : List Record) (rest : List ℕ) → HasRest limits (joined side (rs ++ more)) rest
    → header_front (decoder_of side s).rest ≡ header_front rest
front_shown limits s rs past due side h has_fault more rest has =
    by_fault (decoder_of side s).fault refl has_fault
  where
    by_fault : (f : Option ℕ) → (decoder_of side s).fault ≡ f → IsSome f
        → header_front (decoder_of side s).rest ≡ header_front rest
    by_fault None is some = absurd cc
    by_fault (Some rule) is some =
        front_known limits h.range (decoder_of side s) (joined side rs) (joined side more) rest rule
        (side_broken limits s rs past due h side rule is)
        (subst (λ (w : List ℕ). HasRest limits w rest) (joined-append side rs more) has)

-- ---- faults of the frames

-- how many of the events are such
abbrev pub faults_in : List Raw → ℕ
faults_in [] = 0
faults_in (content side bytes ∷ raws) = faults_in raws
faults_in (broken side rule ∷ raws) = faults_in raws + 1
faults_in (show number uri text ∷ raws) = faults_in raws

own_faults : (side : Side) (raws : List Raw)
    → faults_in (filter (is_own side) raws) ≤ faults_in raws
own_faults side [] = omega arith
own_faults side (content by bytes ∷ raws) =
    by_test (is_own side (content by bytes)) (own_faults side raws)
  where
    by_test : (b : Bool) → faults_in (filter (is_own side) raws) ≤ faults_in raws
        → faults_in (if b then content by bytes ∷ filter (is_own side) raws else filter
        (is_own side) raws) ≤ faults_in raws
    by_test true rest = rest
    by_test false rest = rest
own_faults side (broken by rule ∷ raws) =
    by_test (is_own side (broken by rule)) (own_faults side raws)
  where
    by_test : (b : Bool) → faults_in (filter (is_own side) raws) ≤ faults_in raws
        → faults_in (if b then broken by rule ∷ filter (is_own side) raws else filter (is_own side)
        raws) ≤ faults_in raws + 1
    by_test true rest = omega (arith, rest)
    by_test false rest = omega (arith, rest)
own_faults side (show number uri text ∷ raws) = own_faults side raws

stream_faults : (side : Side) (contents : List (List ℕ)) (rule : ℕ)
    → faults_in (map (content side) contents ++ new_fault side None (Some rule)) ≡ 1
stream_faults side [] rule = refl
stream_faults side (c ∷ contents) rule = stream_faults side contents rule

-- ---- the rest

module _ (limits : Bounds) (s : State) (records : List Record) (given : List Raw)
    (h : Stands limits s records given []) where
  -- **where a side's frames have no fault, it is what the decoder holds**
  pub whole_rest : (side : Side) → (decoder_of side s).fault ≡ None
      → HasRest limits (joined side records) (decoder_of side s).rest
  whole_rest side whole =
      let own = own_due limits records given side s h in (
        own.given,
        None,
        subst (λ (b : Bounds).
            IsStream b (joined side records) own.given (decoder_of side s).rest None)
            (h.own side)
            (due_rest side (decoder_of side s) (joined side records) own whole),
      )

module _ (limits : Bounds) (s : State) (records : List Record) (given : List Raw)
    (h : Stands limits s records given []) (sound : faults_in given ≡ 0) where
  whole : (side : Side) → (decoder_of side s).fault ≡ None
  whole side = by_fault (decoder_of side s).fault refl
    where
      by_fault : (o : Option ℕ) → (decoder_of side s).fault ≡ o → (decoder_of side s).fault ≡ None
      by_fault None is = is
      by_fault (Some rule) is =
          let own = given_own limits s records given [] h side in
          let all : filter (is_own side) given
          ≡ map (content side) own.0 ++ new_fault side None (Some rule) =
          own.1 ∙ ap (λ f. map (content side) own.0 ++ new_fault side None f) is in
          let one : faults_in (filter (is_own side) given) ≡ 1 =
          ap faults_in all ∙ stream_faults side own.0 rule in
          absurd (omega (arith, own_faults side given, one, sound))

  -- so it is where no event given is such a fault
  pub side_rest : (side : Side) → HasRest limits (joined side records) (decoder_of side s).rest
  side_rest side = whole_rest limits s records given h side (whole side)

  pub side_ends : (side : Side) → ends_inside (decoder_of side s) ≡ is_rest (decoder_of side s).rest
  side_ends side = ap (λ (f : Option ℕ). ends_at f (decoder_of side s).rest) (whole side)
