-- What changes find that does not fit their text, with one event more.
use Rattle.std.specs.Borrow.{Bor}
use Rattle.std.specs.Prelude.{option_map, option_and_then, if◌then◌else◌, ◌&&◌, is_none, is_some, ℤ}
use Rattle.std.specs.List.{cons_option}
use Rattle.std.proofs.Common.{◌≡◌, ℕ, Bool, true, false, List, [], ◌∷◌, ◌++◌, Option, Some, None}
use Rattle.std.proofs.Common.{refl, sym, ap, ◌∙◌, append-nil, subst, Result, Ok, Err, arith}
use Rattle.lsp_trail.specs.Common.{applied, Call, call_view, Change, changes, closes, Edit}
use Rattle.lsp_trail.specs.Common.{Encoding, Event, EventPlace, Findings, findings, Heard}
use Rattle.lsp_trail.specs.Common.{heard_events, kept_as, kept_before, opens, place_of, rule_of}
use Rattle.lsp_trail.specs.Common.{saves, shows, SyncKind, Terms, Text, Version}
use Rattle.lsp_docs.specs.Rules.{change_rule, text_rule}
use Rattle.lsp_docs.specs.Taken.{found_on, took_by, took_found}
use Rattle.lsp_docs.specs.declared.call.Call as code
use Rattle.lsp_docs.specs.declared.call.Call.TheVariants.{Opens, Changes, Closes, Saves, Shows}
use Rattle.lsp_docs.specs.declared.call.Took.{Took}
use Rattle.lsp_docs.specs.declared.call.Took.TheVariants.{Done, Changed}
use Rattle.lsp_facts.proofs.DocumentRules.{not_this, same_number, text_breaks}
use Rattle.lsp_facts.proofs.FailingChanges.{fails_by}
use Rattle.lsp_text.specs.Findings.{nothing}
use Rattle.lsp_replay.specs.Telling.{took_of}
use Rattle.lsp_replay.proofs.Seeing.{events-push}
use Rattle.lsp_notes.specs.DocumentNotes.{notes_view, with_note}
use Rattle.lsp_notes.specs.Misfits.{AreMisfits, Found, MisfitsBy, call_found, event_found, finds}
use Rattle.lsp_notes.specs.Misfits.{findings_of, found_kept, found_refuted, kept_found}
use Rattle.lsp_notes.specs.Misfits.{past_end_in, range_length_in}
use Rattle.lsp_notes.specs.declared.misfits.Misfits.{Misfits}
use Rattle.lsp_notes.proofs.DocumentNoting.{first_notes_more}
use Rattle.lsp_verdict.proofs.LookBackLemmas.{each_of-snoc}

-- ---- one finding more, or none

-- **what is held stands for it too**
pub misfits_more : (old new : Misfits) (found : List Found) (more : Option Found)
    → AreMisfits old found → MisfitsBy more old new
    → AreMisfits new (found ++ cons_option more [])
misfits_more old new found more are by = record {
  past_ends_are =
      by.past_ends_more
      ∙ ap (λ l. with_note l (option_and_then past_end_in more)) are.past_ends_are
      ∙ sym (first_notes_more past_end_in found more);
  range_lengths_are =
      by.range_lengths_more
      ∙ ap (λ l. with_note l (option_and_then range_length_in more)) are.range_lengths_are
      ∙ sym (first_notes_more range_length_in found more);
}

-- nothing is noted of it
pub record IsQuiet (more : Option Found) : Type 0 where
  pub past_end : option_and_then past_end_in more ≡ None
  pub range_length : option_and_then range_length_in more ≡ None

pub quiet_by : (m : Misfits) (more : Option Found) → IsQuiet more → MisfitsBy more m m
quiet_by m more quiet = record {
  past_ends_more = sym (ap (with_note (notes_view m.past_ends.items)) quiet.past_end);
  range_lengths_more = sym (ap (with_note (notes_view m.range_lengths.items)) quiet.range_length);
}

pub none_quiet : IsQuiet None
none_quiet = record { past_end = refl; range_length = refl }

-- ---- what a kept call says

-- it says what it finds, if that is something
quiet_found : (f : Findings) (took : Took) → took_found f ≡ took
    → ((found : Findings) → took ≡ Changed found → ⊥)
    → (f.past_end ≡ None) × (f.range_length ≡ None)
quiet_found f took is not = by_parts f.past_end f.range_length refl refl
  where
    by_parts : (p : Option _) (l : Option _) → f.past_end ≡ p → f.range_length ≡ l
        → (p ≡ None) × (l ≡ None)
    by_parts None None at on = (refl, refl)
    by_parts (Some p) l at on = absurd (not f (sym is
        ∙ ap (λ o. if is_none o && is_none f.range_length then Done else Changed f) at))
    by_parts None (Some l) at on = absurd (not f (sym is
        ∙ (λ i. if is_none (at i) && is_none (on i) then Done else Changed f)))

module _ (terms : Terms) (before : List Call) (p : EventPlace) where
  -- one that says nothing of its changes is quiet
  pub quiet_call : (call : Call) (took : Took) → took ≡ took_by terms before call
      → ((found : Findings) → took ≡ Changed found → ⊥)
      → IsQuiet (finds p call (findings_of terms before call))
  quiet_call (changes enc kind uri number cs) took is not =
      let nothing = quiet_found (findings_of terms before (changes enc kind uri number cs)) took
      (sym is) not in
      record {
        past_end = ap (option_map _) nothing.0;
        range_length = ap (option_map _) nothing.1;
      }
  quiet_call _ took is not = none_quiet

  changed_is : (f found : Findings) → Changed found ≡ took_found f → found ≡ f
  changed_is f found is = by_test (is_none f.past_end && is_none f.range_length) is
    where
      by_test : (b : Bool) → Changed found ≡ (if b then Done else Changed f) → found ≡ f
      by_test true is = absurd (cc is)
      by_test false is = cc

  -- one that says something of them says what they find
  pub told_call : (call : Call) (found : Findings) → Changed found ≡ took_by terms before call
      → finds p call found ≡ finds p call (findings_of terms before call)
  told_call (changes enc kind uri number cs) found is =
      ap (finds p (changes enc kind uri number cs))
      (changed_is (findings_of terms before (changes enc kind uri number cs)) found is)
  told_call _ found is = refl

-- ---- an event

-- one that says nothing of its changes is quiet, whatever it is
pub quiet_said : (terms : Terms) (before : List Call) (p : EventPlace) (said : Option Call)
    (took : Took) → took ≡ took_of terms before said
    → ((found : Findings) → took ≡ Changed found → ⊥)
    → IsQuiet (option_and_then (call_found terms p before) said)
quiet_said terms before p None took is not = none_quiet
quiet_said terms before p (Some call) took is not = quiet_call terms before p call took is not

-- the findings of all kept events are those of the last one behind the others
pub found_kept-push : (terms : Terms) (before : List Heard) (h : Heard)
    → found_kept terms (heard_events (before ++ h ∷ []))
    ≡ found_kept terms (heard_events before)
    ++ kept_found terms (heard_events before) h.note.event
found_kept-push terms before h =
    ap (found_kept terms) (events-push before h)
    ∙ each_of-snoc (kept_as (event_found terms) terms) (heard_events before) h.note.event

module _ (terms : Terms) (before : List Heard) (h : Heard) (old : Misfits) (found : List Found)
    (are : AreMisfits old found) where
  abbrev events : List Event
  events = heard_events before

  abbrev e : Event
  e = h.note.event

  -- what the event finds of this place, where it breaks this rule or is kept
  abbrev finds_by : Option ℕ → EventPlace → List Found
  finds_by rule p =
      cons_option (if is_some rule then None
      else event_found terms p (kept_before terms before) e) []

  -- **what is held stands for the findings of one event more**, which is kept
  pub misfits_kept : (new : Misfits) (p : EventPlace) (more : Option Found)
      → rule_of terms before h ≡ None → p ≡ place_of events e
      → event_found terms p (kept_before terms before) e ≡ more → MisfitsBy more old new
      → AreMisfits new (found ++ kept_found terms events e)
  misfits_kept new p more kept at is by =
      subst (λ l. AreMisfits new (found ++ l))
      (sym (ap (λ (o : Option ℕ). finds_by o (place_of events e)) kept
      ∙ ap (finds_by None) (sym at) ∙ ap (λ (o : Option Found). cons_option o []) is))
      (misfits_more old new found more are by)

  -- and of one that offends
  pub misfits_past : (rule : ℕ) → rule_of terms before h ≡ Some rule
      → AreMisfits old (found ++ kept_found terms events e)
  misfits_past rule offends =
      subst (AreMisfits old)
      (sym (ap (λ (o : Option ℕ). found ++ finds_by o (place_of events e)) offends
      ∙ append-nil found)) are

  -- **and for those of changes that a snapshot refutes**
  pub misfits_refuted : (new : Misfits) (more : Option Found) (rule : ℕ) → rule ≡ 702
      → event_found terms (place_of events e) (kept_before terms before) e ≡ more
      → MisfitsBy more old new
      → AreMisfits new (found ++ found_refuted terms events e rule)
  misfits_refuted new more rule is finds_it by =
      subst (λ l. AreMisfits new (found ++ l))
      (sym (ap (found_refuted terms events e) is ∙ ap (λ o. cons_option o []) finds_it))
      (misfits_more old new found more are by)

-- ---- changes that a snapshot refutes

-- of what is held
pub found_held : (limit : ℕ) (enc : Encoding) (h : Option Version) (t : Text) (cs : List Edit)
    → Some t ≡ option_map (λ (v : Version). v.text) h
    → findings limit enc t cs ≡ found_on limit enc h cs
found_held limit enc None t cs holds = absurd cc
found_held limit enc (Some v) t cs holds =
    let same : t ≡ v.text = (let k : Some t ≡ Some v.text = holds in cc) in
    ap (λ (x : Text). findings limit enc x cs) same

pub found_unheld : (limit : ℕ) (enc : Encoding) (h : Option Version) (cs : List Edit)
    → None ≡ option_map (λ (v : Version). v.text) h → nothing ≡ found_on limit enc h cs
found_unheld limit enc None cs holds = refl
found_unheld limit enc (Some v) cs holds = absurd cc

-- they can be made
pub refuted_made : (terms : Terms) (ws : List Version) (enc : Encoding) (kind : SyncKind)
    (number : ℤ) (cs : List Edit) (h : Option Version) (t : Text)
    → Some t ≡ option_map (λ (v : Version). v.text) h
    → change_rule terms ws enc kind number cs h ≡ Some 702
    → (u : Text) × (applied terms.limit enc t cs ≡ Ok u)
refuted_made terms ws enc kind number cs h t holds breaks =
    by_text (applied terms.limit enc t cs) refl
    (text_breaks terms ws enc kind number cs 702 (λ is. not_this 702 603 refl is refl)
    (λ is. not_this 702 604 refl is refl) h t holds breaks)
  where
    by_text : (r : Result Text ℕ) → applied terms.limit enc t cs ≡ r
        → text_rule terms.line_ends ws number r ≡ Some 702
        → (u : Text) × (r ≡ Ok u)
    by_text (Err own) is broken =
        let fails = fails_by terms.limit enc t cs own is in
        let same : own ≡ 702 = same_number own 702 broken in
        absurd (omega (arith, fails.1, same))
    by_text (Ok u) is broken = (u, refl)

-- what they find of what is held, where it is this text and may have so many bytes
pub found_there : (terms : Terms) (ws : List Version) (enc : Encoding) (kind : SyncKind)
    (number : ℤ) (cs : List Edit) (h : Option Version) (t : Text) (limit : ℕ) (found : Findings)
    → limit ≡ terms.limit → Some t ≡ option_map (λ (v : Version). v.text) h
    → change_rule terms ws enc kind number cs h ≡ Some 702
    → ((u : Text) → applied limit enc t cs ≡ Ok u → found ≡ findings limit enc t cs)
    → found ≡ found_on terms.limit enc h cs
found_there terms ws enc kind number cs h t limit found same holds breaks are =
    let made = refuted_made terms ws enc kind number cs h t holds breaks in
    are made.0 (ap (λ l. applied l enc t cs) same ∙ made.1)
    ∙ ap (λ l. findings l enc t cs) same
    ∙ found_held terms.limit enc h t cs holds

-- ---- a call that is none of changes

module _ (c : code.Call) (not : (enc : Encoding) (kind : SyncKind) (uri : Bor (List ℕ)) (number : ℤ)
    (cs : Bor (List Change)) → c ≡ Changes enc kind uri number cs → ⊥) where
  pub finds_nothing : (terms : Terms) (before : List Call)
      → nothing ≡ findings_of terms before (call_view c)
  finds_nothing terms before = by_call c not
    where
      by_call : (c : code.Call) → ((enc : Encoding) (kind : SyncKind) (uri : Bor (List ℕ))
          (number : ℤ) (cs : Bor (List Change)) → c ≡ Changes enc kind uri number cs → ⊥)
          → nothing ≡ findings_of terms before (call_view c)
      by_call (Changes enc kind uri number cs) not = absurd (not enc kind uri number cs refl)
      by_call _ not = refl
