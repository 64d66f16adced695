-- The records of events, after others and after a fault of the frames.
use Rattle.std.specs.Prelude.{map, filter}
use Rattle.std.specs.List.{flat_map}
use Rattle.std.proofs.Common.{◌≡◌, ℕ, suc, ◌+◌, List, [], ◌∷◌, ◌++◌, length, Option, Some, None}
use Rattle.std.proofs.Common.{refl, sym, ap, subst, ◌∙◌, append_assoc, append-nil}
use Rattle.std.proofs.lemmas.Grind.{flat_map-append}
use Rattle.std.specs.Option.{option_or}
use Rattle.lsp_replay.specs.Common.{AreCounts, as_given, broken, canonical, content, Counts, Event}
use Rattle.lsp_replay.specs.Common.{first_from, first_line, Format, no, show, shown, Side, spelling}
use Rattle.lsp_replay.specs.Common.{Who, who_of, whose}
use Rattle.lsp_types.specs.declared.side.Side.TheVariants.{Editor, Server}
use Rattle.lsp_log.specs.Log.{Record}
use Rattle.lsp_verdict.specs.Placed.{Raw}
use Rattle.lsp_extract.specs.Normal.{chunks, records_of, form_of, is_of, no_next, no_at, first_broken}
use Rattle.lsp_extract.specs.Normal.{mark, Counted, spelled}
use Rattle.std.proofs.lemmas.List.{length-map, map-append}
use Rattle.lsp_verdict.specs.Verdict as verdict
use Rattle.lsp_verdict.specs.Verdict.{Verdict, belongs_to, count_of}
use Rattle.lsp_verdict.proofs.LookBackLemmas.{first_of-snoc}

-- ---- events without a fault, and with one

records_from : (size : ℕ) (before raws more : List Raw) → first_from no_at before raws ≡ None
    → records_of size (raws ++ more) ≡ records_of size raws ++ records_of size more
records_from size before [] more sound = refl
records_from size before (content side bytes ∷ raws) more sound =
    ap (λ (w : List Record). chunks size side (canonical bytes) ++ w)
    (records_from size (before ++ content side bytes ∷ []) raws more sound)
    ∙ sym (append_assoc (chunks size side (canonical bytes)) (records_of size raws)
    (records_of size more))
records_from size before (broken side rule ∷ raws) more sound = absurd cc
records_from size before (show number uri text ∷ raws) more sound =
    ap (λ (w : List Record). shown number uri text ∷ w)
    (records_from size (before ++ show number uri text ∷ []) raws more sound)

stops_from : (size : ℕ) (before raws more : List Raw) (v : Verdict)
    → first_from no_at before raws ≡ Some v → records_of size (raws ++ more) ≡ records_of size raws
stops_from size before [] more v breaks = absurd cc
stops_from size before (content side bytes ∷ raws) more v breaks =
    ap (λ (w : List Record). chunks size side (canonical bytes) ++ w)
    (stops_from size (before ++ content side bytes ∷ []) raws more v breaks)
stops_from size before (broken side rule ∷ raws) more v breaks = refl
stops_from size before (show number uri text ∷ raws) more v breaks =
    ap (λ (w : List Record). shown number uri text ∷ w)
    (stops_from size (before ++ show number uri text ∷ []) raws more v breaks)

-- ---- what is written

pub spelled_behind : (size : ℕ) (raws more : List Raw) → first_broken raws ≡ None
    → spelled size (raws ++ more) ≡ spelled size raws ++ spelled size more
spelled_behind size raws more sound =
    ap (λ (rs : List Record). flat_map spelling rs) (records_from size [] raws more sound)
    ∙ flat_map-append spelling (records_of size raws) (records_of size more)

pub form_behind : (format : Format) (size : ℕ) (raws more : List Raw) → first_broken raws ≡ None
    → form_of format size (raws ++ more) ≡ form_of format size raws ++ spelled size more
form_behind format size raws more sound =
    ap (λ (w : List ℕ). first_line format ++ w) (spelled_behind size raws more sound)
    ∙ sym (append_assoc (first_line format) (spelled size raws) (spelled size more))

pub form_stops : (format : Format) (size : ℕ) (raws more : List Raw) (v : Verdict)
    → first_broken raws ≡ Some v → form_of format size (raws ++ more) ≡ form_of format size raws
form_stops format size raws more v breaks =
    ap (λ (rs : List Record). first_line format ++ flat_map spelling rs)
    (stops_from size [] raws more v breaks)

-- whatever follows, what is due begins with what is due for the first events
pub form_begins : (format : Format) (size : ℕ) (raws more : List Raw)
    → (left : List ℕ) × (form_of format size (raws ++ more) ≡ form_of format size raws ++ left)
form_begins format size raws more = by_fault (first_broken raws) refl
  where
    by_fault : (o : Option Verdict) → first_broken raws ≡ o
        → (left : List ℕ) × (form_of format size (raws ++ more) ≡ form_of format size raws ++ left)
    by_fault None e = (spelled size more, form_behind format size raws more e)
    by_fault (Some v) e = (
      [],
      form_stops format size raws more v e
          ∙ sym (append-nil (form_of format size raws)),
    )

-- ---- one event more

pub one_sound : (raw : Raw) (before : List Raw) → no_at before raw ≡ None
    → first_broken before ≡ None → first_broken (before ++ raw ∷ []) ≡ None
one_sound raw before none sound =
    first_of-snoc no_at before raw ∙ ap (λ o. option_or o (no_at before raw)) sound ∙ none

pub one_broken : (raw : Raw) (before : List Raw) (v : Verdict) → no_at before raw ≡ Some v
    → first_broken before ≡ None → first_broken (before ++ raw ∷ []) ≡ Some v
one_broken raw before v is sound =
    first_of-snoc no_at before raw ∙ ap (λ o. option_or o (no_at before raw)) sound ∙ is

-- a fault of the frames has no records
pub spelled_broken : (size : ℕ) (before : List Raw) (raw : Raw) (v : Verdict)
    → no_at before raw ≡ Some v → spelled size (raw ∷ []) ≡ []
spelled_broken size before (broken side rule) v is = refl
spelled_broken size before _ v is = absurd cc

-- ---- counts

-- one event more is counted
pub one_counted : (old new : Counts) (before : List Raw) (raw : Raw) (by : Who)
    → whose (mark raw) ≡ by
    → ((events : List Event) (event : Event) → AreCounts old events → whose event ≡ by
    → AreCounts new (events ++ event ∷ []))
    → Counted old before → Counted new (before ++ raw ∷ [])
one_counted old new before raw by is adds counted =
    subst (AreCounts new) (sym (map-append mark before (raw ∷ [])))
    (adds (map mark before) (mark raw) counted is)

pub marks : (side : Side) (raws : List Raw)
    → count_of (belongs_to (who_of side)) (map mark raws) ≡ length (filter (is_of side) raws)
marks side [] = refl
marks Editor (content Editor bytes ∷ raws) = ap suc (marks Editor raws)
marks Editor (content Server bytes ∷ raws) = marks Editor raws
marks Editor (broken Editor rule ∷ raws) = ap suc (marks Editor raws)
marks Editor (broken Server rule ∷ raws) = marks Editor raws
marks Editor (show number uri text ∷ raws) = marks Editor raws
marks Server (content Editor bytes ∷ raws) = marks Server raws
marks Server (content Server bytes ∷ raws) = ap suc (marks Server raws)
marks Server (broken Editor rule ∷ raws) = marks Server raws
marks Server (broken Server rule ∷ raws) = ap suc (marks Server raws)
marks Server (show number uri text ∷ raws) = marks Server raws

-- the No at the event that comes next, counted among the marks
marked_no : (rule : ℕ) (side : Side) (raws : List Raw)
    → as_given (no_next rule side raws)
    ≡ as_given (verdict.no_next rule (who_of side) (map mark raws))
marked_no rule side raws =
    ap (λ (n : ℕ). as_given (no rule (who_of side) (n + 1) (length raws + 1)))
    (sym (marks side raws))
    ∙ ap (λ (n : ℕ). as_given (no rule (who_of side)
    (count_of (belongs_to (who_of side)) (map mark raws) + 1) (n + 1))) (sym (length-map raws mark))

pub no_is : (rule : ℕ) (side : Side) (by : Who) (c : Counts) (number event : ℕ) (raws : List Raw)
    → Counted c raws → by ≡ who_of side
    → ((code : ℕ) (events : List Event) → AreCounts c events
    → no code by number event ≡ as_given (verdict.no_next code by events))
    → Some (as_given (no_next rule side raws)) ≡ Some (no rule by number event)
no_is rule side by c number event raws counted who_is told =
    ap Some (marked_no rule side raws ∙ ap (λ (w : Who).
    as_given (verdict.no_next rule w (map mark raws))) (sym who_is)
    ∙ sym (told rule (map mark raws) counted))
