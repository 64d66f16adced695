-- A content whose last bytes a source gives, and that is let go.
use Rattle.std.proofs.Common.{◌≡◌, ℕ, ◌+◌, ◌-◌, ◌<◌, ◌≤◌, List, [], ◌∷◌, ◌++◌, length, take, drop}
use Rattle.std.proofs.Common.{get_or, replicate, Option, None, Ok, refl, sym, ap, subst, ◌∙◌, arith}
use Rattle.std.proofs.Common.{append-nil, inl, inr}
use Rattle.std.proofs.lemmas.Bool.{cases_lt}
use Rattle.std.proofs.lemmas.List.{length-append, length-take, length-drop, length-replicate, take_all, take_at, take-append-drop, get_or_append_left, get_or-append_right, get_or-append-add, get_or-replicate}
use Rattle.lsp_frame.specs.Bounds.{Bounds}
use Rattle.lsp_frame.specs.Header.{blank_line}
use Rattle.lsp_frame.specs.Frame.{IsHeader, IsFrame}
use Rattle.lsp_frame.specs.Start.{StartsWithHeader, StartsWithNone}
use Rattle.lsp_frame.specs.Told.{Told, Gave}
use Rattle.lsp_frame.specs.Decoder.{State, StandsFor, empty, room_for, taken}
use Rattle.lsp_frame.proofs.Pulls.{taken_open}
use Rattle.lsp_frame.specs.Pulling.{Misses, MissesNone, window_of, GavePast, PassesAll}
use Rattle.lsp_frame.specs.declared.decoder.Missing.{Missing}
use Rattle.lsp_frame.specs.declared.start.FrameSize.{FrameSize}
use Rattle.lsp_frame.proofs.Frames.{frames_more, frames_push, says_along}
use Rattle.lsp_frame.proofs.Splits.{split_front}
use Rattle.lsp_frame.proofs.Starts.{header_stays, front_of, unfinished_content}
use Rattle.lsp_frame.proofs.Steps.{drop_take, open_rest, state_at}
use Rattle.lsp_frame.proofs.Telling.{gave_nothing, gave_then}

-- ---- what is missing

-- a header part is not empty
begun : (limits : Bounds) (rest : List ℕ) (size : FrameSize) → StartsWithHeader limits rest size → 0 < length rest
begun limits rest size starts =
    let front = starts.part.ends in
    omega (arith, starts.fits, length-take size.header rest, ap length front.1, length-append front.0 blank_line)

pub misses : (s : State) (size : FrameSize) → s.fault ≡ None → StartsWithHeader s.limits s.rest size → length s.rest - size.header < size.content
    → Misses s (record { content = size.content; bytes = size.content - (length s.rest - size.header) })
misses s size none starts short =
    let fits = starts.fits in
    record {
      no_fault = none;
      begun = begun s.limits s.rest size starts;
      some = omega (arith, short);
      whole = λ piece is.
          let all = s.rest ++ piece in
          let len : length all ≡ size.header + size.content = omega (arith, is, length-append s.rest piece, fits, short) in
          let front = front_of s.limits all size (header_stays s.limits s.rest piece size starts) (omega (arith, len)) in
          let whole : take (size.header + size.content) all ≡ all = take_all (size.header + size.content) all (omega (arith, len)) in (
            drop size.header (take (size.header + size.content) all),
            subst (λ (w : List ℕ). IsFrame s.limits w (drop size.header (take (size.header + size.content) all))) whole front.is_frame,
            omega (arith, front.len, length-drop size.header (take (size.header + size.content) all)),
          );
      unfinished = λ piece fewer.
          unfinished_content s.limits (s.rest ++ piece) size (header_stays s.limits s.rest piece size starts) (omega (arith, fewer, fits, length-append s.rest piece));
    }

-- what stands behind n bytes is 0, where only zeros follow these
zero_behind : (rest header content : List ℕ) (n : ℕ) → rest ++ replicate n 0 ≡ header ++ content → (i : ℕ) → length rest ≤ i → i < length header → get_or header i 0 ≡ 0
zero_behind rest header content n whole i behind inside =
    let zeros : List ℕ = replicate n 0 in
    let len : length zeros ≡ n = length-replicate n _ in
    let fits : i - length rest < n = omega (arith, ap length whole, length-append rest zeros, length-append header content, len, behind, inside) in
    sym (get_or_append_left header content 0 i inside)
    ∙ ap (λ (w : List ℕ). get_or w i 0) (sym whole)
    ∙ get_or-append_right rest (replicate n 0) (length rest) i 0 refl behind
    ∙ get_or-replicate n (i - length rest) 0 0 fits

-- a header part ends with LF
ends_with_feed : (front : List ℕ) → get_or (front ++ blank_line) (length front + 3) 0 ≡ 10
ends_with_feed front = get_or-append-add front blank_line 3 0

-- no header part is whole, so none of its content can be missing
pub no_header_misses : (s : State) → StartsWithNone s.limits s.rest → MissesNone s
no_header_misses s none missing misses =
    let zeros : List ℕ = replicate missing.bytes 0 in
    let frame = misses.whole zeros (length-replicate missing.bytes 0) in
    let content = frame.0 in
    let header = frame.1.header in
    let part = frame.1.part in
    let whole : s.rest ++ zeros ≡ header ++ content = frame.1.whole in
    elim (cases_lt (length s.rest) (length header)) [
      | inl longer ↦
          let front = part.ends.0 in
          let len : length header ≡ length front + 4 = ap length part.ends.1 ∙ length-append front blank_line in
          let feed : get_or header (length front + 3) 0 ≡ 10 = ap (λ (w : List ℕ). get_or w (length front + 3) 0) part.ends.1 ∙ ends_with_feed front in
          let zero : get_or header (length front + 3) 0 ≡ 0 = zero_behind s.rest header content missing.bytes whole (length front + 3) (omega (arith, longer, len)) (omega (arith, len)) in
          absurd (omega (arith, feed, zero))
      | inr within ↦
          let cut = split_front header s.rest content zeros (sym whole) within in
          let same : take (length header) s.rest ≡ header = ap (take (length header)) cut.1 ∙ take_at header cut.0 (length header) refl in
          none (record { header = length header; content = length content }) (record {
            fits = within;
            part = subst (IsHeader s.limits) (sym same) part;
            says = says_along s.limits header (take (length header) s.rest) (Ok (length content)) (sym same) frame.1.says;
          })
    ]

-- the content is whole, so none of it is missing
pub whole_misses : (s : State) (size : FrameSize) → StartsWithHeader s.limits s.rest size → size.content ≤ length s.rest - size.header → MissesNone s
whole_misses s size starts whole missing misses =
    let n = size.header + size.content in
    let front = front_of s.limits s.rest size starts (omega (arith, starts.fits, whole)) in
    let unfinished = misses.unfinished [] misses.some in
    unfinished.no_frame (drop size.header (take n s.rest)) (drop n s.rest) (take n s.rest, append-nil s.rest ∙ sym (take-append-drop n s.rest), front.is_frame)

-- ---- what was given

pub gone_nothing : (now : Told) → GavePast now now 0
gone_nothing now = record { piece = []; gave = gave_nothing now; failures = refl; count = refl }

pub gone_more : (before middle after : Told) (n m : ℕ) (piece : List ℕ) → GavePast before middle n → Gave middle after piece → after.failures ≡ middle.failures → length piece ≡ m → GavePast before after (n + m)
gone_more before middle after n m piece past gave failures is =
    let count = past.count in
    record {
      piece = past.piece ++ piece;
      gave = gave_then before middle after past.piece piece past.gave gave;
      failures = failures ∙ past.failures;
      count = omega (arith, count, is, length-append past.piece piece);
    }

-- ---- the content

passed_stands : (s : State) (room : ℕ) (bytes piece : List ℕ) (contents : List (List ℕ)) (content : List ℕ) → s.fault ≡ None → IsFrame s.limits (s.rest ++ piece) content → StandsFor s bytes contents → StandsFor (record (empty s.limits) { room = room }) (bytes ++ piece) (contents ++ content ∷ [])
passed_stands s room bytes piece contents content none is stands =
    let same = open_rest s stands.rest none stands.held in
    record {
      rest = [];
      frames = frames_push s.limits (bytes ++ piece) contents (stands.rest ++ piece) content [] (frames_more s.limits bytes contents stands.rest piece stands.frames)
          (stands.rest ++ piece, sym (append-nil (stands.rest ++ piece)), subst (λ (w : List ℕ). IsFrame s.limits (w ++ piece) content) (sym same) is);
      held = refl;
    }

pub passed : (old new : State) (before after : Told) (missing : Missing) (n : ℕ) → Misses old missing → n ≡ missing.bytes → GavePast before after n → new ≡ record (empty old.limits) { room = room_for old (window_of missing) } → PassesAll old new before after missing
passed old new before after missing n misses same past let_go =
    let all : GavePast before after missing.bytes = subst (GavePast before after) same past in
    let frame = misses.whole all.piece all.count in
    record {
      past = all;
      content = frame.0;
      len = frame.2;
      let_go = let_go;
      stands = λ bytes contents stands. subst (λ (s : State). StandsFor s (bytes ++ all.piece) (contents ++ frame.0 ∷ [])) (sym let_go) (passed_stands old (room_for old (window_of missing)) bytes all.piece contents frame.0 misses.no_fault frame.1 stands);
    }

-- a decoder that holds nothing
pub emptied : (limits : Bounds) (items left : List ℕ) (start end more : ℕ) (fault : Option ℕ) (s : State) → state_at limits items start end fault ≡ s → s.fault ≡ None → length left ≡ room_for (state_at limits items start end fault) more
    → state_at limits left 0 0 fault ≡ record (empty s.limits) { room = room_for s more }
emptied limits items left start end more fault s is none full =
    ap (λ (f : Option ℕ). state_at limits left 0 0 f) (ap (λ (x : State). x.fault) is ∙ none)
    ∙ ap (λ (n : ℕ). record (empty limits) { room = n }) full
    ∙ ap (λ (x : State). record (empty x.limits) { room = room_for x more }) is

-- ---- a content that stays where it is

-- so much room is there already
room_same : (limits : Bounds) (items : List ℕ) (start end more : ℕ) (fault : Option ℕ) → more ≤ start
    → start ≤ end → end ≤ length items
    → room_for (state_at limits items start end fault) more ≡ length items
room_same limits items start end more fault room from fits =
    omega (arith, length-drop start (take end items), length-take end items, room, from, fits)

-- the same rest after other bytes
pub rest_same : (items left : List ℕ) (start end : ℕ) → drop start left ≡ drop start items
    → drop start (take end left) ≡ drop start (take end items)
rest_same items left start end same =
    sym (drop_take start end left) ∙ ap (take (end - start)) same ∙ drop_take start end items

-- a decoder that holds nothing, in the same room
pub emptied_in_place : (limits : Bounds) (items left : List ℕ) (start end more : ℕ)
    (fault : Option ℕ) (s : State) → state_at limits items start end fault ≡ s → s.fault ≡ None
    → more ≤ start → start ≤ end → end ≤ length items → length left ≡ length items
    → state_at limits left 0 0 fault ≡ record (empty s.limits) { room = room_for s more }
emptied_in_place limits items left start end more fault s is none room from fits len =
    emptied limits items left start end more fault s is none
    (len ∙ sym (room_same limits items start end more fault room from fits))

-- a decoder whose rest was moved to the front
pub settled : (limits : Bounds) (items left : List ℕ) (start end more : ℕ) (fault : Option ℕ)
    (old new : State) → state_at limits items start end fault ≡ old → old.fault ≡ None
    → more ≤ start → start ≤ end → end ≤ length items → drop start left ≡ drop start items
    → length left ≡ length items
    → new ≡ record (state_at limits left start end fault) { kept = [] } → new ≡ taken old more []
settled limits items left start end more fault old new is none room from fits same len moved =
    let now = state_at limits items start end fault in
    let rest : drop start (take end left) ≡ now.rest ++ [] =
    rest_same items left start end same ∙ sym (append-nil now.rest) in
    moved
    ∙ taken_open fault now more (length left) (drop start (take end left)) [] refl
    (ap (λ (x : State). x.fault) is ∙ none) rest
    (len ∙ sym (room_same limits items start end more fault room from fits))
    ∙ ap (λ (x : State). taken x more []) is
