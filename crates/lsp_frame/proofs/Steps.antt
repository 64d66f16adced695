-- One step of a decoder, over its buffer.
use Rattle.std.proofs.Common.{◌≡◌, ℕ, zero, suc, ◌+◌, ◌-◌, ◌≤◌, List, [], ◌∷◌, ◌++◌, length, take, drop, Option, None, Some, Result, Ok, Err, append_assoc, ◌<◌, refl, sym, ap, subst, ◌∙◌, arith}
use Rattle.std.proofs.lemmas.List.{length-append, take-append-drop, take-take, length-take, length-drop, drop-drop, drop_at, drop-take, append-nil}
use Rattle.std.proofs.lemmas.List.Edits.{take-paste}
use Rattle.std.specs.List.{copy_within}
use Rattle.std.specs.Prelude.{OnOk, IfSome}
use Rattle.std.proofs.Math.Seq.{take-nil, take-add}
use Rattle.lsp_frame.specs.declared.decoder.FrameFault.{FrameFault}
use Rattle.lsp_frame.specs.Bounds.{Bounds}
use Rattle.lsp_frame.specs.declared.start.FrameSize.{FrameSize}
use Rattle.lsp_frame.specs.Start.{StartsWithHeader}
use Rattle.lsp_frame.specs.Frame.{IsFrame, Begins, Frames, Breaks, IsStream}
use Rattle.lsp_frame.specs.Decoder.{State, GivesFrame, GivesNothing, GivesFault, finish_at, empty, taken, taken_at, pushed, StandsFor, RestAt, EndsWith, Step, StepOf, Next}
use Rattle.lsp_frame.specs.Buffer.{last_of}
use Rattle.lsp_frame.proofs.Starts.{front_of, unfinished_content}
use Rattle.lsp_frame.proofs.Readings.{rest_short}
use Rattle.lsp_frame.proofs.Frames.{frames_more, frames_push, breaks_more, breaks_no_frame}

pub drop_take : (start end : ℕ) (xs : List ℕ) → take (end - start) (drop start xs) ≡ drop start (take end xs)
drop_take zero end xs = ap (λ n. take n xs) (omega arith)
drop_take (suc start) zero xs = ap (λ n. take n (drop (suc start) xs)) (let e : zero - suc start ≡ zero = omega arith in e)
drop_take (suc start) (suc end) [] = take-nil (suc end - suc start)
drop_take (suc start) (suc end) (x ∷ xs) = ap (λ n. take n (drop start xs)) (let e : suc end - suc start ≡ end - start = omega arith in e) ∙ drop_take start end xs

last_is : (kept frame : List ℕ) (header content : ℕ) → length frame ≡ header + content → last_of (kept ++ frame) content ≡ drop header frame
last_is kept frame header content len =
    let at : length (kept ++ frame) - content ≡ length kept + header = omega (arith, length-append kept frame, len) in
    ap (λ (k : ℕ). drop k (kept ++ frame)) at ∙ sym (drop-drop header (length kept) (kept ++ frame)) ∙ ap (drop header) (drop_at kept frame (length kept) refl)

-- start and end: where the bytes begin that belong to no frame given, and where those pushed end
abbrev pub state_at : Bounds → List ℕ → ℕ → ℕ → Option ℕ → State
state_at limits items start end fault = record { limits = limits; kept = take start items; rest = drop start (take end items); fault = fault; room = length items }

front_on : (items : List ℕ) (start end n : ℕ) → start ≤ end → n ≤ length (drop start (take end items)) → take n (drop start items) ≡ take n (drop start (take end items))
front_on items start end n from inside =
    let within : start + n ≤ end = omega (arith, length-drop start (take end items), length-take end items, inside) in
    sym (drop-take start n items) ∙ ap (drop start) (sym (take-take (start + n) end items within)) ∙ drop-take start n (take end items)

pub gives_frame : (limits : Bounds) (items : List ℕ) (start end header content : ℕ) (fault : Option ℕ) → fault ≡ None → start ≤ end → end ≤ length items → StartsWithHeader limits (drop start (take end items)) (record { header = header; content = content })
    → header + content ≤ length (drop start (take end items))
    → (content ≤ length (take (start + (header + content)) items)) × GivesFrame (state_at limits items start end fault) (state_at limits items (start + (header + content)) end fault) (last_of (take (start + (header + content)) items) content)
gives_frame limits items start end header content fault none from fits starts inside =
    let rest = drop start (take end items) in
    let n = header + content in
    let frame = take n rest in
    let front = front_of limits rest (record { header = header; content = content }) starts inside in
    let kept : take (start + n) items ≡ take start items ++ frame = take-add start n items ∙ ap (λ (w : List ℕ). take start items ++ w) (front_on items start end n from inside) in
    let last : last_of (take (start + n) items) content ≡ drop header frame = ap (λ (w : List ℕ). last_of w content) kept ∙ last_is (take start items) frame header content front.len in (
      omega (arith, length-take (start + n) items, length-drop start (take end items), length-take end items, inside, from, fits),
      record {
        open_before = none;
        frame = frame;
        is_frame = subst (λ (w : List ℕ). IsFrame limits frame w) (sym last) front.is_frame;
        rest = sym (take-append-drop n rest) ∙ ap (λ (w : List ℕ). frame ++ w) (drop-drop n start (take end items));
        same = ap (λ (w : List ℕ). record { limits = limits; kept = w; rest = drop (start + n) (take end items); fault = fault; room = length items }) kept;
      },
    )

pub unfinished_end : (fault : Option ℕ) (rest : List ℕ) → fault ≡ None → 0 < length rest → Err (record { rule = 107 }) ≡ finish_at fault rest
unfinished_end fault [] none some = absurd (omega arith)
unfinished_end fault (b ∷ rest) none some = ap (λ (f : Option ℕ). finish_at f (b ∷ rest)) (sym none)

-- the slice between two places
pub rest_slice : (xs items : List ℕ) (start end : ℕ) → xs ≡ items → take (end - start) (drop start xs) ≡ drop start (take end items)
rest_slice xs items start end same = drop_take start end xs ∙ ap (λ (w : List ℕ). drop start (take end w)) same

-- bytes that stand at the front already
pub front_stays : (xs : List ℕ) (start end : ℕ) → start ≡ 0 → take (end - start) xs ≡ drop start (take end xs)
front_stays xs start end none = subst (λ (n : ℕ). take (end - n) xs ≡ drop n (take end xs)) (sym none) (drop_take 0 end xs)

-- the bytes between two places, moved to the front
pub moved_down : (xs : List ℕ) (start end : ℕ) → start ≤ end → end ≤ length xs → take (end - start) (copy_within xs start end 0) ≡ drop start (take end xs)
moved_down xs start end from fits =
    subst (λ (n : ℕ). take n (copy_within xs start end 0) ≡ take (end - start) (drop start xs)) (let e : 0 + (end - start) ≡ end - start = omega arith in e)
    (take-paste xs 0 (drop start xs) (end - start) (omega arith) (omega (arith, length-drop start xs, from, fits)))
    ∙ drop_take start end xs

-- ---- the streams that a decoder stands for

pub new_stands : (limits : Bounds) → StandsFor (empty limits) [] []
new_stands limits = record { rest = []; frames = refl; held = refl }

rest_taken : (fault : Option ℕ) (s : State) (more : ℕ) (rest piece : List ℕ) → s.fault ≡ fault → RestAt fault s rest → RestAt fault (taken_at fault s more piece) (rest ++ piece)
rest_taken None s more rest piece is held = ap (λ (w : List ℕ). w ++ piece) held
rest_taken (Some rule) s more rest piece is held = (held.0 ++ piece, ap (λ (w : List ℕ). w ++ piece) held.1 ∙ append_assoc s.rest held.0 piece, held.2)

same_fault_kept : (fault : Option ℕ) (s : State) (more : ℕ) (piece : List ℕ) → (taken_at fault s more piece).fault ≡ s.fault
same_fault_kept None s more piece = refl
same_fault_kept (Some rule) s more piece = refl

same_limits_kept : (fault : Option ℕ) (s : State) (more : ℕ) (piece : List ℕ) → (taken_at fault s more piece).limits ≡ s.limits
same_limits_kept None s more piece = refl
same_limits_kept (Some rule) s more piece = refl

pub taken_stands : (s : State) (more : ℕ) (piece bytes : List ℕ) (contents : List (List ℕ)) → StandsFor s bytes contents → StandsFor (taken s more piece) (bytes ++ piece) contents
taken_stands s more piece bytes contents stands = record {
  rest = stands.rest ++ piece;
  frames = subst (λ (l : Bounds). Frames l (bytes ++ piece) contents (stands.rest ++ piece)) (sym (same_limits_kept s.fault s more piece)) (frames_more s.limits bytes contents stands.rest piece stands.frames);
  held = subst (λ (f : Option ℕ). RestAt f (taken s more piece) (stands.rest ++ piece)) (sym (same_fault_kept s.fault s more piece)) (rest_taken s.fault s more stands.rest piece refl stands.held);
}

pub push_stands : (s : State) (piece bytes : List ℕ) (contents : List (List ℕ)) → StandsFor s bytes contents → StandsFor (pushed s piece) (bytes ++ piece) contents
push_stands s piece = taken_stands s (length piece) piece

pub open_rest : (s : State) (rest : List ℕ) → s.fault ≡ None → RestAt s.fault s rest → rest ≡ s.rest
open_rest s rest none held = let at : RestAt None s rest = subst (λ (f : Option ℕ). RestAt f s rest) none held in at

frame_stands : (old new : State) (content bytes : List ℕ) (contents : List (List ℕ)) → GivesFrame old new content → StandsFor old bytes contents → StepOf new bytes contents (Ok (Some content))
frame_stands old new content bytes contents gives stands =
    let same_rest = open_rest old stands.rest gives.open_before stands.held in
    let begins : Begins old.limits stands.rest content new.rest = (gives.frame, same_rest ∙ gives.rest, gives.is_frame) in
    let frames = frames_push old.limits bytes contents stands.rest content new.rest stands.frames begins in
    let limits : new.limits ≡ old.limits = ap (λ (s : State). s.limits) gives.same in
    let fault : new.fault ≡ None = ap (λ (s : State). s.fault) gives.same ∙ gives.open_before in
    record {
      rest = new.rest;
      frames = subst (λ (l : Bounds). Frames l bytes (contents ++ content ∷ []) new.rest) (sym limits) frames;
      held = subst (λ (f : Option ℕ). RestAt f new new.rest) (sym fault) refl;
    }

nothing_stands : (old new : State) (bytes : List ℕ) (contents : List (List ℕ)) → GivesNothing old new → StandsFor old bytes contents → StepOf new bytes contents (Ok None)
nothing_stands old new bytes contents gives stands =
    let same_rest = open_rest old stands.rest gives.open_before stands.held in
    let stream : IsStream old.limits bytes contents old.rest None = record {
      frames = subst (λ (w : List ℕ). Frames old.limits bytes contents w) same_rest stands.frames;
      no_more = gives.no_frame;
      fault = gives.no_fault;
    } in
    subst (λ (s : State). StandsFor s bytes contents × EndsWith s bytes contents None) (sym gives.same) (stands, (gives.open_before, stream))

-- the rest of the stream goes on behind the decoder's
rest_goes_on : (fault : Option ℕ) (s : State) (rest : List ℕ) → RestAt fault s rest → (more : List ℕ) × (rest ≡ s.rest ++ more)
rest_goes_on None s rest held = ([], held ∙ sym (append-nil s.rest))
rest_goes_on (Some rule) s rest held = (held.0, held.1)

fault_stands : (old new : State) (rule : ℕ) (bytes : List ℕ) (contents : List (List ℕ)) → GivesFault old new rule → StandsFor old bytes contents → StepOf new bytes contents (Err rule)
fault_stands old new rule bytes contents gives stands =
    let goes = rest_goes_on old.fault old stands.rest stands.held in
    let breaks : Breaks old.limits stands.rest rule = subst (λ (w : List ℕ). Breaks old.limits w rule) (sym goes.1) (breaks_more old.limits old.rest rule goes.0 gives.breaks) in
    let stream : IsStream old.limits bytes contents stands.rest (Some rule) = record {
      frames = stands.frames;
      no_more = breaks_no_frame old.limits stands.rest rule breaks;
      fault = breaks;
    } in
    let kept : StandsFor (record old { fault = Some rule }) bytes contents = record {
      rest = stands.rest;
      frames = stands.frames;
      held = (goes.0, goes.1, gives.breaks);
    } in
    subst (λ (s : State). StandsFor s bytes contents × EndsWith s bytes contents (Some rule)) (sym gives.same) (kept, (stands.rest, stream))

pub next_of : (old new : State) (answer : Result (Option (List ℕ)) ℕ) → Step old new answer → Next old new answer
next_of old new (Ok (Some content)) step = record { step = step; stands = λ bytes contents. frame_stands old new content bytes contents step }
next_of old new (Ok None) step = record { step = step; stands = λ bytes contents. nothing_stands old new bytes contents step }
next_of old new (Err rule) step = record { step = step; stands = λ bytes contents. fault_stands old new rule bytes contents step }

-- the frame ahead is whole
pub frame_next : (limits : Bounds) (items : List ℕ) (start end : ℕ) (size : FrameSize) (fault : Option ℕ) (old : State) → state_at limits items start end fault ≡ old → old.fault ≡ None → start ≤ end → end ≤ length items → StartsWithHeader old.limits old.rest size
    → size.content ≤ end - start - size.header → (size.content ≤ length (take (start + (size.header + size.content)) items)) × Next old (state_at limits items (start + (size.header + size.content)) end fault) (Ok (Some (last_of (take (start + (size.header + size.content)) items) size.content)))
frame_next limits items start end size fault old is none from fits starts whole =
    let now = state_at limits items start end fault in
    let new = state_at limits items (start + (size.header + size.content)) end fault in
    let open_now : fault ≡ None = ap (λ (s : State). s.fault) is ∙ none in
    let starts_now : StartsWithHeader limits (drop start (take end items)) size = subst (λ (s : State). StartsWithHeader s.limits s.rest size) (sym is) starts in
    let header_fits = starts_now.fits in
    let gives = gives_frame limits items start end size.header size.content fault open_now from fits starts_now (omega (arith, length-drop start (take end items), length-take end items)) in
    (gives.0, subst (λ (s : State). Next s new (Ok (Some (last_of (take (start + (size.header + size.content)) items) size.content)))) is (next_of now new (Ok (Some (last_of (take (start + (size.header + size.content)) items) size.content))) gives.1))

-- the content ahead isn't whole yet
pub unfinished_next : (limits : Bounds) (items : List ℕ) (start end : ℕ) (size : FrameSize) (fault : Option ℕ) (old : State) → state_at limits items start end fault ≡ old → old.fault ≡ None → end ≤ length items → StartsWithHeader old.limits old.rest size
    → end - start - size.header < size.content → Next old (state_at limits items start end fault) (Ok None)
unfinished_next limits items start end size fault old is none fits starts short =
    let len : end - start ≡ length old.rest = omega (arith, length-drop start (take end items), length-take end items, fits, ap (λ (s : State). length s.rest) is) in
    let unfinished = unfinished_content old.limits old.rest size starts (omega (arith, len)) in
    next_of old (state_at limits items start end fault) (Ok None) (record { open_before = none; no_frame = unfinished.no_frame; no_fault = unfinished.no_fault; same = is })

pub push_stands_ok : {E : Type 0} (r : Result (Unit {0}) E) (old new : State) (piece : List ℕ) → OnOk r (new ≡ pushed old piece) → OnOk r ((bytes : List ℕ) (contents : List (List ℕ)) → StandsFor old bytes contents → StandsFor new (bytes ++ piece) contents)
push_stands_ok (Ok u) old new piece is = λ bytes contents stands. subst (λ (s : State). StandsFor s (bytes ++ piece) contents) (sym is) (push_stands old piece bytes contents stands)
push_stands_ok (Err e) old new piece is = tt

-- what is held after a piece, where all frames before it were given and there was no fault
held_within : (fault : Option ℕ) (s : State) (piece bytes : List ℕ) (contents : List (List ℕ)) → s.fault ≡ fault → StandsFor s bytes contents → IsStream s.limits bytes contents s.rest None
    → length (taken_at fault s (length piece) piece).kept + length (taken_at fault s (length piece) piece).rest ≤ s.limits.header + s.limits.content + length piece
held_within None s piece bytes contents is stands stream = omega (arith, rest_short s.limits bytes contents s.rest stream, length-append s.rest piece)
held_within (Some rule) s piece bytes contents is stands stream =
    let kept : RestAt (Some rule) s stands.rest = subst (λ (f : Option ℕ). RestAt f s stands.rest) is stands.held in
    absurd (stream.fault rule kept.2)

pub push_room_ok : {E : Type 0} (r : Result (Unit {0}) E) (old new : State) (piece : List ℕ) → OnOk r (new ≡ pushed old piece)
    → OnOk r ((bytes : List ℕ) (contents : List (List ℕ)) → StandsFor old bytes contents → IsStream old.limits bytes contents old.rest None → length new.kept + length new.rest ≤ old.limits.header + old.limits.content + length piece)
push_room_ok (Ok u) old new piece is = λ bytes contents stands stream.
    subst (λ (s : State). length s.kept + length s.rest ≤ old.limits.header + old.limits.content + length piece) (sym is) (held_within old.fault old piece bytes contents refl stands stream)
push_room_ok (Err e) old new piece is = tt

-- a fault that was given is the answer again
pub given_again : (old new : State) (rule : ℕ) (fault : FrameFault) → GivesFault old new fault.rule → old.fault ≡ Some rule → fault ≡ record { rule = rule }
given_again old new rule fault gives is =
    let again : fault.rule ≡ rule = sym (subst (λ (f : Option ℕ). IfSome f (λ before. before ≡ fault.rule)) is gives.again) in
    ap (λ (r : ℕ). record { rule = r }) again
