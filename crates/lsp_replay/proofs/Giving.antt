-- What a side's decoder has still to give: its next event, and what more bytes bring.
use Rattle.std.specs.Prelude.{map}
use Rattle.std.proofs.Common.{◌≡◌, ℕ, List, [], ◌∷◌, ◌++◌, Option, Some, None, Ok, Err, refl, sym}
use Rattle.std.proofs.Common.{ap, subst, ◌∙◌, append_assoc, append-nil}
use Rattle.std.proofs.lemmas.List.{append_cancel_left}
use Rattle.lsp_frame.specs.Bounds.{Bounds, IsInRange}
use Rattle.lsp_frame.specs.Decoder as decoder
use Rattle.lsp_frame.specs.Decoder.{State}
use Rattle.lsp_frame.specs.Frame.{Breaks, Frames, IsStream}
use Rattle.lsp_frame.proofs.Frames.{breaks_no_frame, breaks_more, same_frame}
use Rattle.lsp_replay.specs.Streams.{IsDue}
use Rattle.lsp_types.specs.declared.side.Side.{Side}
use Rattle.lsp_verdict.specs.Placed.{Raw, content, broken, new_fault, Brings}
use Rattle.lsp_verdict.proofs.Below.{one_stream, faulty_more, frames_first, some_stream}
use Rattle.lsp_verdict.proofs.Finding.{cancel_all}
use Rattle.lsp_verdict.proofs.Sessions.{no_stream}

-- ---- the stream of bytes whose fault was given

pub broken_stream : (d : State) (bytes : List ℕ) (contents : List (List ℕ)) (rule : ℕ)
    → d.fault ≡ Some rule → (stands : decoder.StandsFor d bytes contents)
    → IsStream d.limits bytes contents stands.rest (Some rule)
broken_stream d bytes contents rule gave stands =
    let held = subst (λ (f : Option ℕ). decoder.RestAt f d stands.rest) gave stands.held in
    let breaks : Breaks d.limits stands.rest rule =
    subst (λ (w : List ℕ). Breaks d.limits w rule) (sym held.1)
    (breaks_more d.limits d.rest rule held.0 held.2) in
    record {
      frames = stands.frames;
      no_more = λ c after begins. breaks_no_frame d.limits stands.rest rule breaks c after begins;
      fault = breaks;
    }

-- ---- the next event

module _ (side : Side) (d : State) (bytes : List ℕ) (due : List Raw) (h : IsDue side d bytes due)
  where
    due_with : (left : List (List ℕ)) (breaks : Option ℕ) → h.left ≡ left → h.breaks ≡ breaks
        → due ≡ map (content side) left ++ new_fault side d.fault breaks
    due_with left breaks e f =
        h.are ∙ ap (λ w. map (content side) w ++ new_fault side d.fault h.breaks) e
        ∙ ap (λ o. map (content side) left ++ new_fault side d.fault o) f

    -- the stream has no more contents
    due_end : (rest : List ℕ) (breaks : Option ℕ) → IsStream d.limits bytes h.given rest breaks
        → due ≡ new_fault side d.fault breaks
    due_end rest breaks stream =
        let one = one_stream d.limits bytes h.given (h.given ++ h.left) rest h.rest breaks h.breaks
        stream h.stream in
        due_with [] breaks (cancel_all h.given h.left (sym one.contents)) (sym one.fault)

    -- the stream has this content next, and it was given
    due_given : (new : State) (c : List ℕ) → new.limits ≡ d.limits → new.fault ≡ d.fault
        → decoder.StandsFor new bytes (h.given ++ c ∷ [])
        → (later : List Raw) × (due ≡ content side c ∷ later) × IsDue side new bytes later
    due_given new c same fault stands =
        let frames = subst (λ (w : Bounds). Frames w bytes (h.given ++ c ∷ []) stands.rest) same
        stands.frames in
        let cut = frames_first d.limits bytes (h.given ++ c ∷ []) stands.rest (h.given ++ h.left)
        h.rest h.breaks frames h.stream in
        let left = append_cancel_left h.given h.left (c ∷ cut.0)
        (cut.1 ∙ append_assoc h.given (c ∷ []) cut.0) in (
          map (content side) cut.0 ++ new_fault side d.fault h.breaks,
          due_with (c ∷ cut.0) h.breaks left refl,
          record {
            given = h.given ++ c ∷ [];
            left = cut.0;
            rest = h.rest;
            breaks = h.breaks;
            stands = stands;
            stream = subst (λ (w : Bounds). IsStream w bytes ((h.given ++ c ∷ []) ++ cut.0) h.rest
                h.breaks) (sym same)
                (subst (λ (w : List (List ℕ)). IsStream d.limits bytes w h.rest h.breaks) cut.1
                h.stream);
            are = ap (λ o. map (content side) cut.0 ++ new_fault side o h.breaks) (sym fault);
          },
        )

    -- nothing is due
    nothing : (new : State) (rest : List ℕ) (breaks : Option ℕ) → new.limits ≡ d.limits
        → decoder.StandsFor new bytes h.given → IsStream d.limits bytes h.given rest breaks
        → new_fault side new.fault breaks ≡ [] → IsDue side new bytes []
    nothing new rest breaks same stands stream none = record {
      given = h.given;
      left = [];
      rest = rest;
      breaks = breaks;
      stands = stands;
      stream = subst (λ (w : Bounds). IsStream w bytes (h.given ++ []) rest breaks) (sym same)
          (subst (λ (w : List (List ℕ)). IsStream d.limits bytes w rest breaks)
          (sym (append-nil h.given)) stream);
      are = sym none;
    }

    -- after a fault that was given there is none
    pub over : (rule : ℕ) → d.fault ≡ Some rule → (due ≡ []) × IsDue side d bytes []
    over rule gave =
        let stream = broken_stream d bytes h.given rule gave h.stands in
        let none : new_fault side d.fault (Some rule) ≡ [] =
        ap (λ f. new_fault side f (Some rule)) gave in (
          due_end h.stands.rest (Some rule) stream ∙ none,
          nothing d h.stands.rest (Some rule) refl h.stands stream none,
        )

    -- all were given
    pub none_next : (new : State) → d.fault ≡ None → decoder.Next d new (Ok None)
        → (due ≡ []) × IsDue side new bytes []
    none_next new unbroken next =
        let told = next.stands bytes h.given h.stands in
        let same : new.limits ≡ d.limits = ap (λ (s : State). s.limits) next.step.same in
        let stream = subst (λ (b : Bounds). IsStream b bytes h.given new.rest None) same told.1.1 in
        let none : (f : Option ℕ) → f ≡ None → new_fault side f None ≡ [] =
        λ f e. ap (λ o. new_fault side o None) e in (
          due_end new.rest None stream ∙ none d.fault unbroken,
          nothing new new.rest None same told.0 stream (none new.fault told.1.0),
        )

    -- a content is next
    pub content_next : (new : State) (c : List ℕ) → decoder.Next d new (Ok (Some c))
        → (later : List Raw) × (due ≡ content side c ∷ later) × IsDue side new bytes later
    content_next new c next =
        let gives : decoder.GivesFrame d new c = next.step in
        due_given new c (ap (λ (s : State). s.limits) gives.same)
        (ap (λ (s : State). s.fault) gives.same) (next.stands bytes h.given h.stands)

    -- a fault is next
    pub fault_next : (new : State) (rule : ℕ) → d.fault ≡ None → decoder.Next d new (Err rule)
        → (due ≡ broken side rule ∷ []) × IsDue side new bytes []
    fault_next new rule unbroken next =
        let told = next.stands bytes h.given h.stands in
        let gives : decoder.GivesFault d new rule = next.step in
        let same : new.limits ≡ d.limits = ap (λ (s : State). s.limits) gives.same in
        let stream = subst (λ (b : Bounds). IsStream b bytes h.given told.1.0 (Some rule)) same
        told.1.1 in (
          due_end told.1.0 (Some rule) stream ∙ ap (λ f. new_fault side f (Some rule)) unbroken,
          nothing new told.1.0 (Some rule) same told.0 stream
              (ap (λ (s : State). new_fault side s.fault (Some rule)) gives.same),
        )

-- ---- more bytes

-- what they bring is due
pub none_due : (side : Side) (left : List (List ℕ)) (breaks : Option ℕ)
    → [] ≡ map (content side) left ++ new_fault side None breaks → (left ≡ []) × (breaks ≡ None)
none_due side [] None e = (refl, refl)
none_due side _ _ e = absurd cc

one_rest : (limits : Bounds) (bytes : List ℕ) (contents : List (List ℕ)) (r s : List ℕ)
    → Frames limits bytes contents r → Frames limits bytes contents s → r ≡ s
one_rest limits bytes [] r s a b = sym a ∙ b
one_rest limits bytes (c ∷ contents) r s (after, begins, frames) (other, starts, others) =
    one_rest limits after contents r s frames
    (subst (λ (w : List ℕ). Frames limits w contents s)
    (sym (same_frame limits bytes c c after other begins starts).1) others)

-- where nothing is due and there is no fault, the decoder holds the rest
module _ (side : Side) (d : State) (bytes : List ℕ) (h : IsDue side d bytes []) where
  pub due_rest : d.fault ≡ None → IsStream d.limits bytes h.given d.rest None
  due_rest whole =
      let none = none_due side h.left h.breaks
      (h.are ∙ ap (λ f. map (content side) h.left ++ new_fault side f h.breaks) whole) in
      let stream = subst (λ (f : Option ℕ). IsStream d.limits bytes h.given h.rest f) none.1
      (subst (λ (w : List (List ℕ)). IsStream d.limits bytes w h.rest h.breaks)
      (ap (λ w. h.given ++ w) none.0 ∙ append-nil h.given) h.stream) in
      let held : h.stands.rest ≡ d.rest =
      subst (λ (f : Option ℕ). decoder.RestAt f d h.stands.rest) whole h.stands.held in
      subst (λ (w : List ℕ). IsStream d.limits bytes h.given w None)
      (one_rest d.limits bytes h.given h.rest h.stands.rest stream.frames h.stands.frames
      ∙ held) stream

module _ (limits : Bounds) (side : Side) (d new : State) (sent more : List ℕ)
    (own : d.limits ≡ limits) (same_d : new.limits ≡ d.limits) (same_fault : new.fault ≡ d.fault)
    (h : IsDue side d sent [])
    (stands_all : (bytes : List ℕ) (contents : List (List ℕ)) → decoder.StandsFor d bytes contents
    → decoder.StandsFor new (bytes ++ more) contents) where
  due_open : d.fault ≡ None
      → (now : List Raw) × Brings limits side sent more now × IsDue side new (sent ++ more) now
  due_open unbroken =
      let none = none_due side h.left h.breaks
      (h.are ∙ ap (λ f. map (content side) h.left ++ new_fault side f h.breaks) unbroken) in
      let same : new.limits ≡ limits = same_d ∙ own in
      let stands = stands_all sent h.given h.stands in
      let all = some_stream limits (sent ++ more) in
      let frames = subst (λ (w : Bounds). Frames w (sent ++ more) h.given stands.rest) same
      stands.frames in
      let cut = frames_first limits (sent ++ more) h.given stands.rest all.0 all.1 all.2 frames
      all.3 in
      let stream = subst (λ (w : List (List ℕ)). IsStream limits (sent ++ more) w all.1 all.2) cut.1
      all.3 in (
        map (content side) cut.0 ++ new_fault side None all.2,
        record {
          contents = h.given;
          rest = h.rest;
          old_fault = None;
          stream = subst (λ (w : Bounds). IsStream w sent h.given h.rest None) own
              (subst (λ (f : Option ℕ). IsStream d.limits sent h.given h.rest f) none.1
              (subst (λ (w : List (List ℕ)). IsStream d.limits sent w h.rest h.breaks)
              (ap (λ w. h.given ++ w) none.0 ∙ append-nil h.given) h.stream));
          new_contents = cut.0;
          new_rest = all.1;
          last_fault = all.2;
          new_stream = stream;
          brought = refl;
        },
        record {
          given = h.given;
          left = cut.0;
          rest = all.1;
          breaks = all.2;
          stands = stands;
          stream = subst (λ (w : Bounds). IsStream w (sent ++ more) (h.given ++ cut.0) all.1 all.2)
              (sym same) stream;
          are = ap (λ f. map (content side) cut.0 ++ new_fault side f all.2)
              (sym (same_fault ∙ unbroken));
        },
      )

  due_over : (rule : ℕ) → d.fault ≡ Some rule
      → (now : List Raw) × Brings limits side sent more now × IsDue side new (sent ++ more) now
  due_over rule gave =
      let old = subst (λ (w : Bounds). IsStream w sent h.given h.stands.rest (Some rule)) own
      (broken_stream d sent h.given rule gave h.stands) in
      let later = faulty_more limits sent h.given h.stands.rest rule more old in
      let whole = subst (λ (cs : List (List ℕ)).
      IsStream limits (sent ++ more) cs (h.stands.rest ++ more) (Some rule))
      (sym (append-nil h.given)) later in (
        [],
        record {
          contents = h.given;
          rest = h.stands.rest;
          old_fault = Some rule;
          stream = old;
          new_contents = [];
          new_rest = h.stands.rest ++ more;
          last_fault = Some rule;
          new_stream = whole;
          brought = refl;
        },
        record {
          given = h.given;
          left = [];
          rest = h.stands.rest ++ more;
          breaks = Some rule;
          stands = stands_all sent h.given h.stands;
          stream = subst (λ (w : Bounds). IsStream w (sent ++ more) (h.given ++ [])
              (h.stands.rest ++ more) (Some rule)) (sym (same_d ∙ own)) whole;
          are = ap (λ f. new_fault side f (Some rule)) (sym (same_fault ∙ gave));
        },
      )

  pub pushed_due : (now : List Raw) × Brings limits side sent more now
      × IsDue side new (sent ++ more) now
  pushed_due = by_fault d.fault refl
    where
      by_fault : (f : Option ℕ) → d.fault ≡ f
          → (now : List Raw) × Brings limits side sent more now × IsDue side new (sent ++ more) now
      by_fault None is = due_open is
      by_fault (Some rule) is = due_over rule is

-- a decoder of which nothing was pushed
pub new_due : (limits : Bounds) → IsInRange limits → (side : Side) (d : State)
    → d ≡ decoder.empty limits → decoder.StandsFor d [] [] → IsDue side d [] []
new_due limits sizes side d is stands = record {
  given = [];
  left = [];
  rest = [];
  breaks = None;
  stands = stands;
  stream = subst (λ (w : Bounds). IsStream w [] [] [] None) (sym (ap (λ (s : State). s.limits) is))
      (no_stream limits sizes);
  are = sym (ap (λ (s : State). new_fault side s.fault None) is);
}
