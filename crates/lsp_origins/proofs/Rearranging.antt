-- The suspects otherwise than they were sent, as the code has them.
use Rattle.std.specs.Prelude.{ℕ, ℤ, ◌+◌, ◌-◌, ◌<◌, min, map, slice_range}
use Rattle.std.specs.List.{fold, insert, prefix_len}
use Rattle.std.proofs.Common.{◌≡◌, List, [], ◌∷◌, ◌++◌, sym, ap, ◌∙◌, arith, drop, get_or, length}
use Rattle.std.proofs.Common.{take}
use Rattle.std.proofs.lemmas.List.{at_drop_more, drop-drop, drop-map, drop_min, map-append}
use Rattle.std.proofs.lemmas.List.{take-map, take_min}
use Rattle.lsp_trail.specs.Common.{Change, edits_of, sent_edits, SentEdits}
use Rattle.lsp_origins.specs.Fits.{suspect_view, suspects_view}
use Rattle.lsp_origins.specs.Rearranged.{alone, begins_behind, instead, put_in, rearranged, width}
use Rattle.lsp_origins.specs.declared.fits.Suspect.{Suspect}
use Rattle.lsp_origins.specs.declared.rearranged.Way.{Way}
use Rattle.lsp_origins.proofs.Fitting.{prefix_len-map}

-- ---- one of them taken otherwise

width_only : (i n : ℕ) → i + n - i ≡ n
width_only i n = omega arith

-- in front of it, in its place, and behind it
pub rearranged_so : (way : Way) (all front rest part after new : List Suspect) (i n : ℕ)
    → front ≡ take i all → rest ≡ drop i all → part ≡ take n rest → after ≡ drop n rest
    → n ≡ min (width way) (length rest)
    → suspects_view new ≡ suspects_view front ++ instead way (suspects_view part)
    → suspects_view (new ++ after) ≡ rearranged way i (suspects_view all)
rearranged_so way all front rest part after new i n is_front is_rest is_part is_after is_n made =
    let sent = suspects_view all in
    let w = width way in
    let one : take n rest ≡ take w rest = ap (λ k. take k rest) is_n ∙ take_min w rest in
    let others : drop n rest ≡ drop w rest = ap (λ k. drop k rest) is_n ∙ drop_min w rest in
    let in_front : suspects_view front ≡ take i sent =
    ap suspects_view is_front ∙ sym (take-map suspect_view i all) in
    let left : suspects_view rest ≡ drop i sent =
    ap suspects_view is_rest ∙ sym (drop-map suspect_view i all) in
    let there : suspects_view part ≡ slice_range sent i (i + w) =
    ap suspects_view (is_part ∙ one) ∙ sym (take-map suspect_view w rest)
    ∙ ap (λ l. take w l) left ∙ ap (λ k. take k (drop i sent)) (sym (width_only i w)) in
    let behind : suspects_view after ≡ drop (i + w) sent =
    ap suspects_view (is_after ∙ others) ∙ sym (drop-map suspect_view w rest)
    ∙ ap (λ l. drop w l) left ∙ drop-drop w i sent in
    map-append suspect_view new after
    ∙ ap (λ l. l ++ suspects_view after) made
    ∙ (λ j. (in_front j ++ instead way (there j)) ++ behind j)

-- ---- the changes of a message at once

-- one of them more
pub put_in-view : (parts : List Suspect) (part : Suspect) (n : ℕ)
    → n ≡ prefix_len (λ other. begins_behind (suspect_view other) (suspect_view part)) parts
    → suspects_view (insert parts n part) ≡ put_in (suspects_view parts) (suspect_view part)
put_in-view parts part n is =
    let test = λ (other : SentEdits). begins_behind other (suspect_view part) in
    insert-view n ∙ ap (λ k. insert (suspects_view parts) k (suspect_view part))
    (is ∙ sym (prefix_len-map suspect_view test parts))
  where
    insert-view : (k : ℕ) → suspects_view (insert parts k part)
        ≡ insert (suspects_view parts) k (suspect_view part)
    insert-view k =
        map-append suspect_view (take k parts) (part ∷ drop k parts)
        ∙ (λ j. sym (take-map suspect_view k parts) j
        ++ suspect_view part ∷ sym (drop-map suspect_view k parts) j)

-- a change alone
slice_one : {X : Type 0} (xs : List X) (i : ℕ) (d : X) → i < length xs
    → slice_range xs i (i + 1) ≡ get_or xs i d ∷ []
slice_one xs i d lt =
    ap (λ k. take k (drop i xs)) (width_only i 1)
    ∙ at_drop_more (λ l. take 1 l) xs i d lt

pub backwards_next : (number : ℤ) (changes : List Change) (done : List SentEdits) (i : ℕ)
    → i < length changes
    → fold put_in done (map (alone number) (edits_of (drop i changes)))
    ≡ fold put_in (put_in done (sent_edits number (edits_of (slice_range changes i (i + 1)))))
    (map (alone number) (edits_of (drop (i + 1) changes)))
backwards_next number [] done i lt = absurd (omega arith)
backwards_next number (d ∷ others) done i lt =
    let changes = d ∷ others in
    at_drop_more (λ l. fold put_in done (map (alone number) (edits_of l))) changes i d lt
    ∙ ap (λ l. fold put_in (put_in done (sent_edits number (edits_of l)))
    (map (alone number) (edits_of (drop (i + 1) changes)))) (sym (slice_one changes i d lt))
