-- What is marked of a document, and the marks by URI, with one step more.
use Rattle.std.specs.Prelude.{ℤ, int_lt, not, length, if◌then◌else◌, filter, option_map}
use Rattle.std.specs.Prelude.{slice_get, unwrap_or, String}
use Rattle.std.specs.List.{cons_option, filter_map, fold}
use Rattle.std.specs.Option.{option_or}
use Rattle.std.specs.Ordering.{int_eq}
use Rattle.std.proofs.Common.{◌≡◌, ℕ, Bool, true, false, List, [], ◌∷◌, ◌++◌, Option, Some, None}
use Rattle.std.proofs.Common.{refl, sym, ap, ◌∙◌, append-nil, arith}
use Rattle.std.proofs.lemmas.List.{length_push}
use Rattle.std.proofs.lemmas.List.Elements.{filter_map-append, filter-append}
use Rattle.std.proofs.lemmas.List.Sums.{fold_push}
use Rattle.std.specs.Global.{Global}
use Rattle.std.specs.Str.{bytes_eq}
use Rattle.lsp_replay.specs.Common.{capped, each_of, Equal, Match, Missed, Waits}
use Rattle.lsp_docs.proofs.Words.{capped-add, uri_is}
use Rattle.lsp_verdict.proofs.LookBackLemmas.{each_of-snoc}
use Rattle.lsp_replay.specs.declared.heard.EventPlace.{EventPlace}
use Rattle.lsp_uris.specs.Held.{held_by}
use Rattle.lsp_uris.proofs.Putting.{PutsUnder}
use Rattle.lsp_trail.specs.History.{KeptCall, is_closing, kept_call, last_ones, since_last}
use Rattle.lsp_trail.specs.History.{with_room}
use Rattle.lsp_trail.specs.Marking.{agreed, at_version, ends_waiting, found_at, last_shown}
use Rattle.lsp_trail.specs.Marking.{marked, most_setters, newer_of, next_rank, opened, rank_after}
use Rattle.lsp_trail.specs.Marking.{reached, recent, setter_at, setters, stepped, waiting_at}
use Rattle.lsp_trail.specs.Marking.{waiting_for, Marked, closes, is_about, unmarked, MarkedBy}
use Rattle.lsp_trail.specs.Marking.{StepsOn, mark_view, marked_in}
use Rattle.lsp_trail.specs.declared.mark.VersionEvent.{VersionEvent}
use Rattle.lsp_trail.specs.declared.step.Step.{Step}
use Rattle.lsp_trail.specs.declared.step.Step.TheVariants.{Reaches, Closes, Shows}
use Rattle.lsp_trail.proofs.History.{last_behind_all, since_last-push}
use Rattle.lsp_trail.specs.declared.mark.Mark.{Mark}

-- ---- the equal snapshot of the greatest version

pub newer_none : (best : Option VersionEvent) → newer_of best None ≡ best
newer_none None = refl
newer_none (Some s) = refl

pub agreed-push : (done : List KeptCall) (k : KeptCall)
    → agreed (done ++ k ∷ []) ≡ newer_of (agreed done) (found_at done k)
agreed-push done k =
    ap newest (each_of-snoc found_at done k) ∙ by_one (each_of found_at done) (found_at done k)
  where
    newest : List VersionEvent → Option VersionEvent
    newest found = fold (λ best s. newer_of best (Some s)) None found

    by_one : (found : List VersionEvent) (o : Option VersionEvent)
        → newest (found ++ cons_option o []) ≡ newer_of (newest found) o
    by_one found None = ap newest (append-nil found) ∙ sym (newer_none (newest found))
    by_one found (Some s) = fold_push (λ best s. newer_of best (Some s)) None found s

-- ---- a message that sets a version

abbrev first_place : List VersionEvent → Option EventPlace
first_place ss = option_map (λ (s : VersionEvent). s.place) (slice_get ss 0)

module _ (done : List KeptCall) (uri : List ℕ) (p : EventPlace) (own : ℤ) (first : Bool) where
  abbrev setting : KeptCall
  setting = kept_call uri p (Reaches own first)

  rank-more : rank_after (done ++ setting ∷ []) ≡ next_rank (rank_after done)
  rank-more =
      ap (λ (l : List ℤ). capped (length l))
      (filter_map-append (λ (k : KeptCall). reached k.step) done (setting ∷ []))
      ∙ ap capped (length_push (filter_map (λ (k : KeptCall). reached k.step) done) own)
      ∙ sym (capped-add (length (filter_map (λ (k : KeptCall). reached k.step) done)) 1)

  recent-more : recent (done ++ setting ∷ [])
      ≡ with_room most_setters (recent done) ++ at_version (next_rank (rank_after done)) p own ∷ []
  recent-more =
      ap (last_ones most_setters) (each_of-snoc setter_at done setting)
      ∙ last_behind_all most_setters (setters done)
      (at_version (rank_after (done ++ setting ∷ [])) p own) (omega arith)
      ∙ ap (λ (r : ℕ). with_room most_setters (recent done) ++ at_version r p own ∷ []) rank-more

  opened-more : opened (done ++ setting ∷ []) ≡ option_or (opened done) (Some p)
  opened-more =
      ap first_place (each_of-snoc setter_at done setting)
      ∙ by_first (setters done)
    where
      by_first : (ss : List VersionEvent)
          → first_place (ss ++ at_version (rank_after (done ++ setting ∷ [])) p own ∷ [])
          ≡ option_or (first_place ss) (Some p)
      by_first [] = refl
      by_first (s ∷ ss) = refl

  -- those of a greater version wait on
  waits_above : (number : ℤ) → waiting_for number (done ++ setting ∷ [])
      ≡ (if int_lt own number then waiting_for number done else [])
  waits_above number =
      ap (filter_map (waiting_at number)) (since_last-push (ends_waiting number) done setting)
      ∙ by_test (int_lt own number)
    where
      by_test : (b : Bool)
          → filter_map (waiting_at number) (if not b then [] else
          since_last (ends_waiting number) done ++ setting ∷ [])
          ≡ (if b then waiting_for number done else [])
      by_test true =
          filter_map-append (waiting_at number) (since_last (ends_waiting number) done)
          (setting ∷ [])
          ∙ append-nil (waiting_for number done)
      by_test false = refl

  reached-push : marked (done ++ setting ∷ []) ≡ stepped p (Reaches own first) (marked done)
  reached-push = λ i. record {
    setters = recent-more i;
    rank = rank-more i;
    opened = opened-more i;
    agreed = (agreed-push done setting
        ∙ ap (λ (r : ℕ). newer_of (agreed done) (last_shown own r (waiting_for own done)))
        rank-more) i;
    waiting = λ number. waits_above number i;
  }

-- ---- a snapshot

module _ (done : List KeptCall) (uri : List ℕ) (p : EventPlace) (own : ℤ) (answer : Match) where
  abbrev showing : KeptCall
  showing = kept_call uri p (Shows own answer)

  rank-same : rank_after (done ++ showing ∷ []) ≡ rank_after done
  rank-same = ap (λ (l : List ℤ). capped (length l))
      (filter_map-append (λ (k : KeptCall). reached k.step) done (showing ∷ [])
      ∙ append-nil (filter_map (λ (k : KeptCall). reached k.step) done))

  recent-same : recent (done ++ showing ∷ []) ≡ recent done
  recent-same = ap (last_ones most_setters)
      (each_of-snoc setter_at done showing ∙ append-nil (setters done))

  opened-same : opened (done ++ showing ∷ []) ≡ opened done
  opened-same =
      ap first_place (each_of-snoc setter_at done showing ∙ append-nil (setters done))

  waits-more : (number : ℤ) → waiting_for number (done ++ showing ∷ [])
      ≡ waiting_for number done ++ filter_map (waiting_at number) (showing ∷ [])
  waits-more number =
      ap (filter_map (waiting_at number)) (since_last-push (ends_waiting number) done showing)
      ∙ filter_map-append (waiting_at number) (since_last (ends_waiting number) done) (showing ∷ [])

awaited : (b : Bool) (p : EventPlace) → cons_option (if b then Some p else None) []
    ≡ (if b then p ∷ [] else [])
awaited true p = refl
awaited false p = refl

shown-push : (done : List KeptCall) (uri : List ℕ) (p : EventPlace) (own : ℤ) (answer : Match)
    → marked (done ++ kept_call uri p (Shows own answer) ∷ [])
    ≡ stepped p (Shows own answer) (marked done)
shown-push done uri p own Equal = λ i. record {
  setters = recent-same done uri p own Equal i;
  rank = rank-same done uri p own Equal i;
  opened = opened-same done uri p own Equal i;
  agreed = agreed-push done (kept_call uri p (Shows own Equal)) i;
  waiting = λ number. (waits-more done uri p own Equal number
      ∙ append-nil (waiting_for number done)) i;
}
shown-push done uri p own Waits = λ i. record {
  setters = recent-same done uri p own Waits i;
  rank = rank-same done uri p own Waits i;
  opened = opened-same done uri p own Waits i;
  agreed = (agreed-push done (kept_call uri p (Shows own Waits)) ∙ newer_none (agreed done)) i;
  waiting = λ number. (waits-more done uri p own Waits number
      ∙ ap (λ (l : List EventPlace). waiting_for number done ++ l) (awaited (int_eq own number) p))
      i;
}
shown-push done uri p own Missed = λ i. record {
  setters = recent-same done uri p own Missed i;
  rank = rank-same done uri p own Missed i;
  opened = opened-same done uri p own Missed i;
  agreed = (agreed-push done (kept_call uri p (Shows own Missed)) ∙ newer_none (agreed done)) i;
  waiting = λ number. (waits-more done uri p own Missed number
      ∙ append-nil (waiting_for number done)) i;
}

-- **what is marked of a document, with one step more**
pub marked-push : (done : List KeptCall) (uri : List ℕ) (p : EventPlace) (step : Step)
    → marked (if is_closing step then [] else done ++ kept_call uri p step ∷ [])
    ≡ stepped p step (marked done)
marked-push done uri p (Reaches own first) = reached-push done uri p own first
marked-push done uri p Closes = refl
marked-push done uri p (Shows own answer) = shown-push done uri p own answer

-- ---- the marks by URI

abbrev Entries : Type 0
Entries = List (String Global × Mark)

-- ---- the marks by URI: one document

chosen : (b : Bool) (o x : Option Marked)
    → unwrap_or (if b then o else x) unmarked
    ≡ (if b then unwrap_or o unmarked else unwrap_or x unmarked)
chosen true o x = refl
chosen false o x = refl

-- what is put under the URI is what the step makes of it
pub steps_on : (uri : List ℕ) (p : EventPlace) (step : Step) (o : Option Marked)
    (old new : Entries) → PutsUnder uri o (held_by mark_view old) (held_by mark_view new)
    → unwrap_or o unmarked ≡ stepped p step (marked_in old uri) → StepsOn uri p step old new
steps_on uri p step o old new put is u =
    ap (λ (x : Option Marked). unwrap_or x unmarked) (put u)
    ∙ chosen (bytes_eq uri u) o (held_by mark_view old u)
    ∙ by_test (bytes_eq uri u) refl
  where
    by_test : (b : Bool) → bytes_eq uri u ≡ b
        → (if b then unwrap_or o unmarked else marked_in old u)
        ≡ (if b then stepped p step (marked_in old u) else marked_in old u)
    by_test true own = is ∙ ap (λ (x : List ℕ). stepped p step (marked_in old x)) (uri_is uri u own)
    by_test false own = refl

-- a mark that was there was made anew by the step
pub step_there : (uri : List ℕ) (p : EventPlace) (step : Step) (was now : Mark)
    (old new : Entries) → held_by mark_view old uri ≡ Some (mark_view was)
    → mark_view now ≡ stepped p step (mark_view was)
    → PutsUnder uri (Some (mark_view now)) (held_by mark_view old) (held_by mark_view new)
    → StepsOn uri p step old new
step_there uri p step was now old new there is put =
    steps_on uri p step (Some (mark_view now)) old new put
    (is ∙ ap (stepped p step) (sym (ap (λ (o : Option Marked). unwrap_or o unmarked) there)))

-- ---- the marks by URI: all of them

-- **what is marked stands for one more kept call too**
pub marks_more : (old new : Entries) (calls : List KeptCall) (uri : List ℕ) (p : EventPlace)
    (step : Step) → MarkedBy old calls → StepsOn uri p step old new
    → MarkedBy new (calls ++ kept_call uri p step ∷ [])
marks_more old new calls uri p step are steps u =
    steps u
    ∙ by_test (bytes_eq uri u)
    ∙ ap (λ (l : List KeptCall). marked (since_last closes l))
    (sym (filter-append (is_about u) calls (kept_call uri p step ∷ [])))
  where
    mine : List KeptCall
    mine = filter (is_about u) calls

    by_test : (b : Bool)
        → (if b then stepped p step (marked_in old u) else marked_in old u)
        ≡ marked (since_last closes (mine ++ (if b then kept_call uri p step ∷ [] else [])))
    by_test true =
        ap (stepped p step) (are u)
        ∙ sym (ap marked (since_last-push closes mine (kept_call uri p step))
        ∙ marked-push (since_last closes mine) uri p step)
    by_test false = are u
        ∙ ap (λ (l : List KeptCall). marked (since_last closes l)) (sym (append-nil mine))
