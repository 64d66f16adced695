-- What is at hand behind the frames of a side: records have it once, and behind each content it is
-- found by those before it.
use Rattle.std.specs.Prelude.{if◌then◌else◌, drop, filter, nat_le, slice_get, suc}
use Rattle.std.specs.List.{AllZip}
use Rattle.std.proofs.Common.{◌≡◌, ◌+◌, ◌-◌, ◌<◌, ℕ, Bool, true, false, List, [], ◌∷◌, ◌++◌, Some}
use Rattle.std.proofs.Common.{refl, sym, ap, subst, ◌∙◌, arith, length, length-append, zero}
use Rattle.std.proofs.Math.Seq.{drop-append_seam}
use Rattle.std.proofs.lemmas.Bool.Decides.{nat_tests}
use Rattle.lsp_frame.specs.Bounds.{Bounds}
use Rattle.lsp_frame.specs.Frame.{Frames}
use Rattle.lsp_frame.proofs.Frames.{one_stream, same_frame}
use Rattle.lsp_log.specs.Log.{Record, chunk, shown}
use Rattle.lsp_session.proofs.LawLemmas.{same_side-refl}
use Rattle.lsp_session.specs.Sent.{same_side}
use Rattle.lsp_types.specs.declared.side.Side.{Side}
use Rattle.lsp_types.specs.declared.side.Side.TheVariants.{Editor, Server}
use Rattle.lsp_verdict.specs.Heard.{AreBehind, AreRests, HasBehind, Rests, after_byte}
use Rattle.lsp_verdict.specs.Offences.{IsNoted, Noted, events_of}
use Rattle.lsp_verdict.specs.Placed.{Raw, joined}
use Rattle.lsp_verdict.specs.Verdict.{count_of, is_of}
use Rattle.lsp_verdict.proofs.Below.{some_stream}
use Rattle.lsp_verdict.proofs.Outcomes.{one_rest}
use Rattle.lsp_verdict.proofs.Sessions.Joined.{is_own, own_read}

-- ---- it is there once

module _ (limits : Bounds) (side : Side) (records : List Record) where
  one_each : (bytes : List ℕ) (contents us vs : List (List ℕ))
      → AreBehind limits side records bytes contents us
      → AreBehind limits side records bytes contents vs → us ≡ vs
  one_each bytes [] us vs p q = p ∙ sym q
  one_each bytes (c ∷ contents) us vs (after, begins, (more, is, all))
      (other, starts, (rest, are, left)) =
      let same : after ≡ other = (same_frame limits bytes c c after other begins starts).1 in
      let tails : more ≡ rest = one_each other contents more rest
      (subst (λ (w : List ℕ). AreBehind limits side records w contents more) same all) left in
      is
      ∙ (λ i. after_byte side (length (joined side records) - length (same i)) records ∷ tails i)
      ∙ sym are

  some_each : (bytes : List ℕ) (contents : List (List ℕ)) (rest : List ℕ)
      → Frames limits bytes contents rest
      → (behind : List (List ℕ)) × AreBehind limits side records bytes contents behind
  some_each bytes [] rest frames = ([], refl)
  some_each bytes (c ∷ contents) rest (after, begins, frames) =
      let later = some_each after contents rest frames in (
        after_byte side (length (joined side records) - length after) records ∷ later.0,
        (after, begins, (later.0, refl, later.1)),
      )

  pub some_behind : (behind : List (List ℕ)) × HasBehind limits side records behind
  some_behind =
      let s = some_stream limits (joined side records) in
      let each = some_each (joined side records) s.0 s.1 s.3.frames in
      (each.0, (s.0, s.1, s.2, s.3, each.1))

  -- behind the last of these frames
  pub behind_last : (bytes : List ℕ) (first later : List (List ℕ)) (after : List ℕ)
      (behind : List (List ℕ)) (n : ℕ) → Frames limits bytes first after
      → AreBehind limits side records bytes (first ++ later) behind → length first ≡ n + 1
      → slice_get behind n
      ≡ Some (after_byte side (length (joined side records) - length after) records)
  behind_last bytes [] later after behind n frames are count = absurd (omega (arith, count))
  behind_last bytes (c ∷ []) later after behind zero (mid, begins, last) (own, starts, (more, is, all))
      count =
      let same : own ≡ after = (same_frame limits bytes c c own mid starts begins).1 ∙ last in
      ap (λ (w : List (List ℕ)). slice_get w 0) is
      ∙ ap (λ (w : List ℕ).
      Some (after_byte side (length (joined side records) - length w) records)) same
  behind_last bytes (c ∷ []) later after behind (suc n) frames are count =
      absurd (omega (arith, count))
  behind_last bytes (c ∷ d ∷ first) later after behind zero frames are count =
      absurd (omega (arith, count))
  behind_last bytes (c ∷ d ∷ first) later after behind (suc n) (mid, begins, frames)
      (own, starts, (more, is, all)) count =
      let same : own ≡ mid = (same_frame limits bytes c c own mid starts begins).1 in
      ap (λ (w : List (List ℕ)). slice_get w (suc n)) is
      ∙ behind_last mid (d ∷ first) later after more n frames
      (subst (λ (w : List ℕ). AreBehind limits side records w ((d ∷ first) ++ later) more) same all)
      (omega (arith, count))

pub one_behind : (limits : Bounds) (side : Side) (records others : List Record)
    (us vs : List (List ℕ)) → records ≡ others → HasBehind limits side records us
    → HasBehind limits side others vs → us ≡ vs
one_behind limits side records others us vs same p q =
    let own : HasBehind limits side others us =
    subst (λ (w : List Record). HasBehind limits side w us) same p in
    let one = one_stream limits (joined side others) own.0 q.0 own.1 q.1 own.2 q.2 own.3 q.3 in
    one_each limits side others (joined side others) q.0 us vs
    (subst (λ (w : List (List ℕ)). AreBehind limits side others (joined side others) w us)
    one.contents own.4) q.4

-- records leave one thing
pub one_rests : (limits : Bounds) (records others : List Record) (a b : Rests) → records ≡ others
    → AreRests limits records a → AreRests limits others b → a ≡ b
one_rests limits records others a b same p q =
    let editor : a.editor ≡ b.editor =
    one_rest limits (joined Editor records) (joined Editor others) a.editor b.editor
    (ap (joined Editor) same) p.editor q.editor in
    let server : a.server ≡ b.server =
    one_rest limits (joined Server records) (joined Server others) a.server b.server
    (ap (joined Server) same) p.server q.server in
    let by_editor : a.editor_behind ≡ b.editor_behind =
    one_behind limits Editor records others a.editor_behind b.editor_behind same p.editor_behind
    q.editor_behind in
    let by_server : a.server_behind ≡ b.server_behind =
    one_behind limits Server records others a.server_behind b.server_behind same p.server_behind
    q.server_behind in
    λ i. record {
      editor = editor i;
      server = server i;
      editor_behind = by_editor i;
      server_behind = by_server i;
    }

-- ---- the bytes at hand

-- a place in a record of the side, after at least one of its bytes
pub at_hand : (side : Side) (before more : List Record) (front rest : List ℕ) (n : ℕ)
    → 0 < length front → n ≡ length (joined side before) + length front
    → after_byte side n (before ++ chunk side (front ++ rest) ∷ more) ≡ rest
at_hand side [] more front rest n some is = by_side (same_side side side) (same_side-refl side)
  where
    at : n ≡ length front
    at = omega (arith, is)

    within : nat_le n (length (front ++ rest)) ≡ true
    within = let fits = length-append front rest in grind (arith, nat_tests)

    by_side : (own : Bool) → own ≡ true
        → (if own then (if nat_le n (length (front ++ rest)) then drop n (front ++ rest)
        else after_byte side (n - length (front ++ rest)) more) else after_byte side n more) ≡ rest
    by_side false same = absurd cc
    by_side true same =
        ap (λ (b : Bool). if b then drop n (front ++ rest)
        else after_byte side (n - length (front ++ rest)) more) within
        ∙ ap (λ (k : ℕ). drop k (front ++ rest)) at ∙ drop-append_seam front rest
at_hand side (chunk by b ∷ before) more front rest n some is =
    by_side (same_side side by) is (λ k at. at_hand side before more front rest k some at)
  where
    by_side : (own : Bool)
        → n ≡ length (if own then b ++ joined side before else joined side before) + length front
        → ((k : ℕ) → k ≡ length (joined side before) + length front
        → after_byte side k (before ++ chunk side (front ++ rest) ∷ more) ≡ rest)
        → (if own then (if nat_le n (length b) then drop n b
        else after_byte side (n - length b) (before ++ chunk side (front ++ rest) ∷ more))
        else after_byte side n (before ++ chunk side (front ++ rest) ∷ more)) ≡ rest
    by_side true at later =
        let size = length-append b (joined side before) in
        let past : length b < n = omega (arith, at, size, some) in
        let beyond : nat_le n (length b) ≡ false = grind (arith, nat_tests) in
        ap (λ (t : Bool). if t then drop n b
        else after_byte side (n - length b) (before ++ chunk side (front ++ rest) ∷ more)) beyond
        ∙ later (n - length b) (omega (arith, at, size))
    by_side false at later = later n at
at_hand side (shown number uri text ∷ before) more front rest n some is =
    at_hand side before more front rest n some is

-- ---- how many contents of a side come before one

pub own_count : (side : Side) (raws : List Raw) (notes : List Noted) → AllZip IsNoted raws notes
    → count_of (is_of side) (events_of notes) ≡ length (filter (is_own side) raws)
own_count side [] [] all = refl
own_count side (raw ∷ raws) (n ∷ notes) all =
    by_test (is_of side n.event) (is_own side raw) (own_read side raw n.event all.0.0)
    (own_count side raws notes all.1)
  where
    by_test : (b c : Bool) → b ≡ c
        → length (filter (is_of side) (events_of notes)) ≡ length (filter (is_own side) raws)
        → length (if b then n.event ∷ filter (is_of side) (events_of notes)
        else filter (is_of side) (events_of notes))
        ≡ length (if c then raw ∷ filter (is_own side) raws else filter (is_own side) raws)
    by_test true true same rest = ap suc rest
    by_test false false same rest = rest
    by_test _ _ same rest = absurd cc
own_count side _ _ all = absurd all
