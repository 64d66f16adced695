-- Which rules the frames and the contents of a side break.
use Rattle.std.specs.Prelude.{nat_le, not, ◌&&◌, ◌||◌, if◌then◌else◌, filter, is_some, map}
use Rattle.std.specs.List.{AllByRecursion, AllZip, list_any}
use Rattle.std.proofs.Common.{◌≡◌, ℕ, Bool, true, false, List, [], ◌∷◌, ◌++◌, Option, Some, None}
use Rattle.std.proofs.Common.{inl, inr, refl, sym, ap, ◌∙◌}
use Rattle.std.proofs.Math.Bool.{and-false}
use Rattle.lsp_frame.specs.Bounds.{Bounds}
use Rattle.lsp_frame.specs.Frame.{Breaks}
use Rattle.lsp_frame.proofs.FrameRules.{breaks_rule}
use Rattle.lsp_log.specs.Log.{Record}
use Rattle.lsp_rpc.specs.Params.{IsRefused}
use Rattle.lsp_rpc.specs.Reading.{least_broken, rules_on, parts_of}
use Rattle.lsp_rpc.specs.Shape.{is_object}
use Rattle.lsp_types.specs.declared.side.Side.{Side}
use Rattle.lsp_session.specs.Sent.{same_side}
use Rattle.lsp_session.proofs.LawLemmas.{same_side-refl}
use Rattle.lsp_replay.specs.Streams.{State, Stands, decoder_of}
use Rattle.lsp_replay.proofs.Owning.{given_own, side_broken}
use Rattle.lsp_verdict.specs.Placed.{ReadsAs, Raw, content, broken, show, new_fault, Reads}
use Rattle.lsp_verdict.specs.Event.{Event, message, fault, snapshot}
use Rattle.lsp_verdict.specs.Offences.{Noted, IsNoted, events_of, is_frame_fault}
use Rattle.lsp_verdict.proofs.Sessions.Joined.{is_own}

-- ---- frames: up to 106

breaks_low : (limits : Bounds) (bytes : List ℕ) (rule : ℕ) → Breaks limits bytes rule
    → nat_le rule 106 ≡ true
breaks_low = breaks_rule (λ (r : ℕ). nat_le r 106 ≡ true)
    (refl, (refl, (refl, (refl, (refl, (refl, tt))))))

-- ---- contents: from 201

abbrev IsHigh : ℕ → Type 0
IsHigh rule = nat_le rule 106 ≡ false

least_high : (rules : List (ℕ × Bool)) (rule : ℕ)
    → AllByRecursion (λ (r : ℕ × Bool). IsHigh r.0) rules → least_broken rules ≡ Some rule
    → IsHigh rule
least_high [] rule all e = absurd (cc e)
least_high (r ∷ rules) rule all e = by_test (least_high rules rule all.1) r.1 e
  where
    by_test : (least_broken rules ≡ Some rule → IsHigh rule) → (b : Bool)
        → (if b then Some r.0 else least_broken rules) ≡ Some rule → IsHigh rule
    by_test others true h = let same : r.0 ≡ rule =
        cc h in sym (ap (λ k. nat_le k 106) same) ∙ all.0
    by_test others false h = others h

refused_high : (side : Side) (bytes : List ℕ) (rule : ℕ) → IsRefused side bytes rule → IsHigh rule
refused_high side bytes rule (inl (inl (d, json, is))) =
    least_high ((202, not (is_object d)) ∷ rules_on (parts_of d)) rule
    (refl, (refl, (refl, (refl, (refl, (refl, (refl, tt))))))) is
refused_high side bytes rule (inl (inr (is, none))) = ap (λ k. nat_le k 106) is
refused_high side bytes rule (inr (is, bad)) = ap (λ k. nat_le k 106) is

-- ---- which events are faults of the frames of a side

content_no_fault : (own side : Side) (bytes : List ℕ) (e : Event) → ReadsAs side bytes e
    → is_frame_fault own e ≡ false
content_no_fault own side bytes (fault by rule) reads =
    ap (λ b. same_side own by && b) (refused_high side bytes rule reads.1)
    ∙ and-false (same_side own by)
content_no_fault own side bytes _ reads = refl

-- whether it is one of this side's, before it is read
abbrev is_break : Side → Raw → Bool
is_break side (broken by rule) = same_side side by && nat_le rule 106
is_break side _ = false

read_fault : (side : Side) (raw : Raw) (e : Event) → Reads raw e
    → is_frame_fault side e ≡ is_break side raw
read_fault side (content by bytes) e reads = content_no_fault side by bytes e reads
read_fault side _ e reads = ap (is_frame_fault side) reads

all_faults : (side : Side) (raws : List Raw) (notes : List Noted) → AllZip IsNoted raws notes
    → list_any (is_frame_fault side) (events_of notes) ≡ list_any (is_break side) raws
all_faults side [] [] all = refl
all_faults side (raw ∷ raws) (n ∷ notes) all =
    ap (λ b. b || list_any (is_frame_fault side) (events_of notes))
    (read_fault side raw n.event all.0.0)
    ∙ ap (λ b. is_break side raw || b) (all_faults side raws notes all.1)
all_faults side _ _ all = absurd all

-- those of a side are its own
own_breaks : (side : Side) (raws : List Raw)
    → list_any (is_break side) raws ≡ list_any (is_break side) (filter (is_own side) raws)
own_breaks side [] = refl
own_breaks side (content by bytes ∷ raws) = by_test (same_side side by) (own_breaks side raws)
  where
    by_test : (b : Bool) → list_any (is_break side) raws
        ≡ list_any (is_break side) (filter (is_own side) raws)
        → list_any (is_break side) raws
        ≡ list_any (is_break side)
        (if b then content by bytes ∷ filter (is_own side) raws else filter (is_own side) raws)
    by_test true rest = rest
    by_test false rest = rest
own_breaks side (broken by rule ∷ raws) = by_test (same_side side by) refl (own_breaks side raws)
  where
    by_test : (b : Bool) → same_side side by ≡ b
        → list_any (is_break side) raws ≡ list_any (is_break side) (filter (is_own side) raws)
        → (same_side side by && nat_le rule 106 || list_any (is_break side) raws)
        ≡ list_any (is_break side)
        (if b then broken by rule ∷ filter (is_own side) raws else filter (is_own side) raws)
    by_test true same rest = ap (λ b. same_side side by && nat_le rule 106 || b) rest
    by_test false same rest =
        ap (λ b. b && nat_le rule 106 || list_any (is_break side) raws) same ∙ rest
own_breaks side (show number uri text ∷ raws) = own_breaks side raws

stream_breaks : (side : Side) (contents : List (List ℕ)) (f : Option ℕ)
    → ((rule : ℕ) → f ≡ Some rule → nat_le rule 106 ≡ true)
    → list_any (is_break side) (map (content side) contents ++ new_fault side None f) ≡ is_some f
stream_breaks side [] None low = refl
stream_breaks side [] (Some rule) low =
    ap (λ b. b && nat_le rule 106 || false) (same_side-refl side)
    ∙ ap (λ b. b || false) (low rule refl)
stream_breaks side (c ∷ contents) f low = stream_breaks side contents f low

-- **a side's decoder has a fault just where such an event was given**
pub faults_are : (limits : Bounds) (s : State) (records : List Record) (given due : List Raw)
    (notes : List Noted) (side : Side) → Stands limits s records given due
    → AllZip IsNoted given notes
    → list_any (is_frame_fault side) (events_of notes) ≡ is_some (decoder_of side s).fault
faults_are limits s records given due notes side h all =
    let own = given_own limits s records given due h side in
    all_faults side given notes all
    ∙ own_breaks side given
    ∙ ap (list_any (is_break side)) own.1
    ∙ stream_breaks side own.0 (decoder_of side s).fault
    (λ rule is. breaks_low limits (decoder_of side s).rest rule
    (side_broken limits s records given due h side rule is).breaks)
