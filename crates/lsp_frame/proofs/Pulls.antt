-- A piece that a source put behind the bytes that a decoder holds.
use Rattle.std.proofs.Common.{◌≡◌, ℕ, ◌+◌, ◌-◌, ◌≤◌, List, [], ◌++◌, length, take, drop, Option, Some, None, refl, sym, ap, subst, ◌∙◌, append-nil, arith, true, false}
use Rattle.std.proofs.lemmas.List.{length-append, length-take, length-drop, nil_from_length, take_all, take-append-le, take-take}
use borrow.Rule.Slice.PartMut.{put_mid}
use Rattle.lsp_frame.specs.Bounds.{Bounds}
use Rattle.lsp_frame.specs.Told.{Told, Gave}
use Rattle.std.specs.Prelude.{is_some, max}
use Rattle.lsp_frame.proofs.Telling.{gave_nothing, take_written}
use Rattle.lsp_frame.specs.Decoder.{State, FitsIn, pushed, taken, taken_at, room_for}
use Rattle.lsp_frame.specs.Decoder.{StandsFor, RestAt}
use Rattle.lsp_frame.specs.Pulling.{Pulls}
use Rattle.lsp_frame.proofs.Steps.{state_at, taken_stands, push_stands}
use Rattle.lsp_frame.proofs.Starts.{header_stays}
use Rattle.lsp_frame.specs.Buffer.{AheadStands, FaultStands}
use Rattle.lsp_frame.specs.declared.start.FrameSize.{FrameSize}

pub taken_open : (fault : Option ℕ) (s : State) (more room : ℕ) (rest piece : List ℕ) → s.fault ≡ fault → fault ≡ None → rest ≡ s.rest ++ piece → room ≡ room_for s more → record s { kept = []; rest = rest; room = room } ≡ taken_at fault s more piece
taken_open None s more room rest piece is none same full = ap (λ (w : List ℕ). record s { kept = []; rest = w; room = room }) same ∙ ap (λ (n : ℕ). record s { kept = []; rest = s.rest ++ piece; room = n }) full
taken_open (Some rule) s more room rest piece is none same full = absurd cc

-- the bytes that are held behind such a piece
pub pulled_rest : (items moved slice buffer tail : List ℕ) (start end room len most n : ℕ) → take (end - start) moved ≡ drop start (take end items) → slice ≡ moved → end - start + most ≤ len → len ≡ length moved → n ≤ length buffer → n ≤ most
    → take (end - start + n) (take len (put_mid (end - start) room slice buffer ++ tail)) ≡ drop start (take end items) ++ take n buffer
pulled_rest items moved slice buffer tail start end room len most n front same fits full count within =
    let rest = end - start in
    let held : List ℕ = take rest slice in
    let held_is : held ≡ drop start (take end items) = ap (take rest) same ∙ front in
    let held_len : length held ≡ rest = omega (arith, length-take rest slice, ap length same, fits, full) in
    let behind : List ℕ = drop room (drop rest slice) in
    let written : List ℕ = put_mid rest room slice buffer in
    let all : length written ≡ length held + (length buffer + length behind) = omega (arith, length-append held (buffer ++ behind), length-append buffer behind) in
    take-take (rest + n) len (written ++ tail) (omega (arith, fits, within))
    ∙ take-append-le (rest + n) written tail (omega (arith, all, held_len, count))
    ∙ take_written held buffer behind rest n held_len count
    ∙ ap (λ (w : List ℕ). w ++ take n buffer) held_is

-- the buffer keeps its length
pub pulled_len : (moved slice buffer tail : List ℕ) (rest room len most : ℕ) → slice ≡ moved → len ≡ length moved → rest + most ≤ len → room ≡ most → length buffer ≡ most → length (take len (put_mid rest room slice buffer ++ tail)) ≡ len
pulled_len moved slice buffer tail rest room len most same full fits is all =
    let front : List ℕ = take rest slice in
    let behind : List ℕ = drop room (drop rest slice) in
    let slice_len = ap length same in
    let front_len : length front ≡ rest = omega (arith, length-take rest slice, slice_len, fits, full) in
    let behind_len : length behind ≡ len - rest - most = omega (arith, length-drop room (drop rest slice), length-drop rest slice, slice_len, full, is) in
    let written : List ℕ = put_mid rest room slice buffer in
    let written_len : length written ≡ len = omega (arith, length-append front (buffer ++ behind), length-append buffer behind, front_len, behind_len, all, fits) in
    omega (arith, length-take len (written ++ tail), length-append written tail, written_len)

-- how long the rest is in the buffer
pub room_is : (limits : Bounds) (items : List ℕ) (start end more len : ℕ) (fault : Option ℕ) → start ≤ end → end ≤ length items → len ≡ max (length items) (end - start + more) → len ≡ room_for (state_at limits items start end fault) more
room_is limits items start end more len fault from fits is =
    let rest : length (drop start (take end items)) ≡ end - start = omega (arith, length-drop start (take end items), length-take end items, from, fits) in
    is ∙ ap (λ (n : ℕ). max (length items) (n + more)) (sym rest)

pub pulled : (limits : Bounds) (items written : List ℕ) (start end n : ℕ) (piece : List ℕ) (fault : Option ℕ) (old : State) (before after : Told) (most : ℕ)
    → state_at limits items start end fault ≡ old → fault ≡ None → take (end - start + n) written ≡ drop start (take end items) ++ piece → length piece ≡ n → n ≤ most → length written ≡ room_for (state_at limits items start end fault) most → Gave before after piece → after.failures ≡ before.failures
    → Pulls old (state_at limits written 0 (end - start + n) fault) before after most n
pulled limits items written start end n piece fault old before after most is none whole len within full gave failures =
    let now = state_at limits items start end fault in
    let new = state_at limits written 0 (end - start + n) fault in
    let same : new ≡ taken now most piece = taken_open fault now most (length written) new.rest piece refl none whole full in
    subst (λ (s : State). Pulls s new before after most n) is
    (record {
      piece = piece;
      gave = gave;
      failures = failures;
      count = len;
      within = within;
      taken = same;
      stands = λ bytes contents stands. subst (λ (s : State). StandsFor s (bytes ++ piece) contents) (sym same) (taken_stands now most piece bytes contents stands);
    })

ahead_more : (limits : Bounds) (rest more : List ℕ) (ahead : Option FrameSize) → AheadStands limits rest ahead → AheadStands limits (rest ++ more) ahead
ahead_more limits rest more None stands = tt
ahead_more limits rest more (Some size) stands = header_stays limits rest more size stands

pub ahead_along : (limits : Bounds) (rest held more : List ℕ) (ahead : Option FrameSize) → rest ≡ held ++ more → AheadStands limits held ahead → AheadStands limits rest ahead
ahead_along limits rest held more ahead same stands = subst (λ (w : List ℕ). AheadStands limits w ahead) (sym same) (ahead_more limits held more ahead stands)

pub no_fault_stands : (limits : Bounds) (rest : List ℕ) (fault : Option ℕ) → fault ≡ None → FaultStands limits rest fault
no_fault_stands limits rest fault none = rw none tt

taken_shut : (fault : Option ℕ) (s : State) (more : ℕ) → is_some fault ≡ true → s ≡ taken_at fault s more []
taken_shut None s more some = absurd cc
taken_shut (Some rule) s more some = refl

-- nothing stands between two places that don't follow one another
pub none_between : (limits : Bounds) (items : List ℕ) (start end : ℕ) (fault : Option ℕ) (old : State) → state_at limits items start end fault ≡ old → end ≤ start → old.rest ≡ []
none_between limits items start end fault old is idle =
    ap (λ (s : State). s.rest) (sym is) ∙ nil_from_length (drop start (take end items)) (omega (arith, length-drop start (take end items), length-take end items, idle))

-- a decoder that holds nothing takes the piece's buffer
pub owned : (limits : Bounds) (items piece : List ℕ) (start end len : ℕ) (fault : Option ℕ) (old : State) → state_at limits items start end fault ≡ old → fault ≡ None → old.rest ≡ [] → len ≡ length piece → FitsIn (state_at limits piece 0 len fault) (pushed old piece)
owned limits items piece start end len fault old is none idle size =
    let now = state_at limits items start end fault in
    let new = state_at limits piece 0 len fault in
    let nothing : now.rest ≡ [] = ap (λ (s : State). s.rest) is ∙ idle in
    let whole : new.rest ≡ now.rest ++ piece = take_all len piece (omega (arith, size)) ∙ ap (λ (w : List ℕ). w ++ piece) (sym nothing) in
    let same = taken_open fault now (length piece) (room_for now (length piece)) new.rest piece refl none whole refl in
    subst (λ (s : State). FitsIn new (pushed s piece)) is (record {
      same = ap (λ (s : State). record s { room = length piece }) same;
      room = subst (λ (s : State). length piece ≤ s.room) same (omega arith);
    })

rest_in : (fault : Option ℕ) (s : State) (room : ℕ) (rest : List ℕ) → RestAt fault s rest → RestAt fault (record s { room = room }) rest
rest_in None s room rest held = held
rest_in (Some rule) s room rest held = held

-- what fits in less room stands for the same
pub fits_stands : (new old : State) (piece bytes : List ℕ) (contents : List (List ℕ)) → FitsIn new (pushed old piece) → StandsFor old bytes contents → StandsFor new (bytes ++ piece) contents
fits_stands new old piece bytes contents fits stands =
    let due = push_stands old piece bytes contents stands in
    subst (λ (s : State). StandsFor s (bytes ++ piece) contents) (sym fits.same) (record { rest = due.rest; frames = due.frames; held = rest_in (pushed old piece).fault (pushed old piece) new.room due.rest due.held })

-- a decoder that gave a fault takes nothing
pub pulled_shut : (s : State) (now : Told) (most : ℕ) → is_some s.fault ≡ true → Pulls s s now now most 0
pulled_shut s now most some = record {
  piece = [];
  gave = gave_nothing now;
  failures = refl;
  count = refl;
  within = omega arith;
  taken = taken_shut s.fault s most some;
  stands = λ bytes contents stands. subst (λ (w : List ℕ). StandsFor s w contents) (sym (append-nil bytes)) stands;
}

pub not_some : (fault : Option ℕ) → is_some fault ≡ false → fault ≡ None
not_some None none = refl
not_some (Some rule) none = absurd cc
