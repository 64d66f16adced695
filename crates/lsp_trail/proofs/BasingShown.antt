-- What is held of the texts from which documents may have drifted, with one snapshot more, and with
-- any call.
use Rattle.std.specs.Prelude.{ℤ, int_lt, ◌-◌, if◌then◌else◌, IfSome}
use Rattle.std.specs.List.{find, list_all}
use Rattle.std.specs.Str.{bytes_eq}
use Rattle.std.proofs.Common.{◌≡◌, ◌+◌, Bool, true, false, List, [], ◌∷◌, ◌++◌, Option, Some, None}
use Rattle.std.proofs.Common.{refl, sym, ap, ◌∙◌, subst, true≢false}
use Rattle.std.proofs.lemmas.Bool.{and_parts}
use Rattle.std.proofs.lemmas.Option.{none-some, same_Some}
use Rattle.lsp_docs.proofs.Past.{nothing-past, past-rises-to, reached-number}
use Rattle.lsp_docs.proofs.Rising.{last-empty, last-none}
use Rattle.lsp_docs.proofs.Words.{int_is, less_behind, uri_is, uri_same}
use Rattle.lsp_docs.specs.Calls.{Text}
use Rattle.lsp_replay.specs.Common.{AreAccepted, Bytes, Call, changes, closes, Equal, has_number}
use Rattle.lsp_replay.specs.Common.{held, is_after, is_at, Match, Missed, opens, past, rises, saves}
use Rattle.lsp_replay.specs.Common.{shows, Terms, took_by, uri_of, Version, Waits}
use Rattle.lsp_docs.specs.Rules.{text_at}
use Rattle.lsp_docs.specs.Snapshots.{is_ahead, kept, last_of}
use Rattle.lsp_docs.specs.Stored.{answer_of}
use Rattle.lsp_replay.specs.declared.heard.EventPlace.{EventPlace}
use Rattle.lsp_trail.specs.Bases.{BegunBy, HoldsAfter, HoldsFrom, HoldsOpen, base_in, held_of}
use Rattle.lsp_trail.specs.Bases.{later, numbered, sent_since}
use Rattle.lsp_trail.specs.Bases as spec
use Rattle.lsp_trail.specs.History.{KeptCall, kept_call, step_of}
use Rattle.lsp_trail.specs.Marking.{agreed, at_version, closes as closes_it, finds_equal}
use Rattle.lsp_trail.specs.Marking.{found_at, marked, newer_of, rank_of, recent, standing}
use Rattle.lsp_trail.specs.declared.base.Base.{Base}
use Rattle.lsp_trail.specs.declared.mark.VersionEvent.{VersionEvent}
use Rattle.lsp_trail.specs.declared.step.Step.{Step}
use Rattle.lsp_trail.specs.declared.step.Step.TheVariants.{Closes, Reaches, Shows}
use Rattle.lsp_trail.proofs.BaseSteps.{base_first, found_is, found_passes, held_moved}
use Rattle.lsp_trail.proofs.LaterChanges.{AreWithin, earlier, itself, later_later, later_none}
use Rattle.lsp_trail.proofs.Marking.{agreed-push, newer_none}
use Rattle.lsp_trail.proofs.ChangesSent.{Leaves, leaves_saved, leaves_shown, sent_rise}
use Rattle.lsp_trail.proofs.Basing.{Entries, HoldAll, VersionAt, at_held, begun_again}
use Rattle.lsp_trail.proofs.Basing.{begun_first, accepted_before, by_uri, changed_all, closed_all}
use Rattle.lsp_trail.proofs.Basing.{equal_base, from_held, leaves_held, newest, opened_all}
use Rattle.lsp_trail.proofs.Basing.{standing_other, standing_own, version_at}

-- ---- a snapshot

-- the first of the versions is the least
first_least : (v : Version) (vs : List Version) (n : ℤ) (w : Version)
    → rises (v ∷ vs) ≡ true → numbered (v ∷ vs) n ≡ Some w → w.number ≡ n
    → int_lt n v.number ≡ false
first_least v vs n w rise found own = by_test (is_at n v) refl
  where
    parts : (list_all (is_after v.number) vs ≡ true) × (rises vs ≡ true)
    parts = and_parts (list_all (is_after v.number) vs) (rises vs) rise

    by_test : (b : Bool) → is_at n v ≡ b → int_lt n v.number ≡ false
    by_test true here = ap (λ m. int_lt m v.number) (sym (int_is v.number n here)) ∙ itself v.number
    by_test false other =
        let behind : int_lt v.number w.number ≡ true =
        found_passes (is_after v.number) (is_at n) vs w parts.0
        (sym (ap (λ (b : Bool). if b then Some v else find (is_at n) vs) other) ∙ found) in
        ap (λ m. int_lt m v.number) (sym own) ∙ less_behind w.number v.number behind

module _ (terms : Terms) (before : List Call) (uri : Bytes) (n : ℤ) (shown : Text)
    (done : List KeptCall) (p : EventPlace) (old new : Entries)
    (accepted : AreAccepted terms (before ++ shows uri n shown ∷ []))
    (hold : HoldAll terms before done old) where
  abbrev snapshot : Call
  snapshot = shows uri n shown

  -- one that is not compared
  passed_all : (answer : Match) → found_at (standing uri done)
      (kept_call uri p (Shows n answer)) ≡ None → closes_it (kept_call uri p (Shows n answer))
      ≡ false → new ≡ old
      → HoldAll terms (before ++ snapshot ∷ []) (done ++ kept_call uri p (Shows n answer) ∷ []) new
  passed_all answer none open_still same u = by_test (bytes_eq uri u) refl
    where
      k : KeptCall
      k = kept_call uri p (Shows n answer)

      equal_same : (b : Bool) → bytes_eq uri u ≡ b
          → agreed (standing u (done ++ k ∷ [])) ≡ agreed (standing u done)
      equal_same true own =
          ap agreed (standing_own u done k own)
          ∙ agreed-push (standing u done) k
          ∙ ap (λ x. newer_of (agreed (standing u done)) (found_at (standing x done) k))
          (sym (uri_is uri u own))
          ∙ ap (newer_of (agreed (standing u done))) none
          ∙ newer_none (agreed (standing u done))
      equal_same false other = ap agreed (standing_other u done k other)

      by_test : (b : Bool) → bytes_eq uri u ≡ b
          → HoldsAfter terms u (before ++ snapshot ∷ []) (agreed (standing u (done ++ k ∷ [])))
          (held_of new u)
      by_test b own =
          leaves_held terms u before snapshot (agreed (standing u done)) _ (held_of old u)
          (held_of new u) (leaves_shown terms u before uri n shown) (equal_same b own)
          (ap (λ es. held_of es u) same) (hold u)

  -- one that is equal
  module _ (has : has_number n (kept terms uri before) (held terms uri before) ≡ true) where
    abbrev after_shown : List Call
    after_shown = before ++ snapshot ∷ []

    abbrev k_equal : KeptCall
    k_equal = kept_call uri p (Shows n Equal)

    abbrev equal_before : Option VersionEvent
    equal_before = agreed (standing uri done)

    abbrev equal_then : Option VersionEvent
    equal_then = agreed (standing uri (done ++ k_equal ∷ []))

    is_open : (v : Version) × (held terms uri before ≡ Some v)
    is_open = by_held (held terms uri before) refl
      where
        by_held : (h : Option Version) → held terms uri before ≡ h
            → (v : Version) × (held terms uri before ≡ Some v)
        by_held (Some v) now = (v, now)
        by_held None now =
            absurd (true≢false (sym has ∙ ap (has_number n (kept terms uri before)) now
            ∙ ap (λ ps. has_number n (last_of terms.kept ps) None)
            (nothing-past terms uri before now)
            ∙ ap (λ ks. has_number n ks None) (last-empty terms.kept)))

    abbrev v : Version
    v = is_open.0

    has_v : has_number n (kept terms uri before) (Some v) ≡ true
    has_v = ap (has_number n (kept terms uri before)) (sym is_open.1) ∙ has

    stood : HoldsOpen terms equal_before (past terms uri before ++ v ∷ []) (kept terms uri before) v
        (sent_since uri before) (held_of old uri)
    stood = from_held terms uri before equal_before (held_of old uri) (Some v) is_open.1 (hold uri)

    before_accepted : AreAccepted terms before
    before_accepted = accepted_before terms before snapshot accepted

    seen_at : VersionAt terms uri before v n
    seen_at = version_at terms uri before v n before_accepted is_open.1 has_v

    left : Leaves terms uri before snapshot
    left = leaves_shown terms uri before uri n shown

    text_after : text_at n (kept terms uri after_shown) (held terms uri after_shown)
        ≡ Some seen_at.version.text
    text_after = ap (λ ps. text_at n (last_of terms.kept ps) (held terms uri after_shown))
        left.past_same
        ∙ ap (text_at n (kept terms uri before)) left.held_same ∙ seen_at.text

    abbrev x : VersionEvent
    x = at_version (rank_of n (recent (standing uri done))) p n

    equal_then_is : equal_then ≡ newer_of equal_before (Some x)
    equal_then_is = ap agreed (standing_own uri done k_equal (uri_same uri))
        ∙ agreed-push (standing uri done) k_equal

    within_held : int_lt v.number n ≡ false
    within_held = ap (is_ahead n) (sym is_open.1)
        ∙ reached-number terms uri before n before_accepted has

    -- what holds of it, where the calls before are the same as those after
    abbrev HoldsThen : Option VersionEvent → Option Base → Type 0
    HoldsThen e b = HoldsOpen terms e (past terms uri before ++ v ∷ []) (kept terms uri before) v
        (sent_since uri before) b

    then_held : HoldsThen equal_then (held_of new uri)
        → HoldsAfter terms uri after_shown equal_then (held_of new uri)
    then_held holds =
        leaves_held terms uri before snapshot equal_then equal_then (held_of new uri)
        (held_of new uri) left refl refl
        (at_held terms uri before equal_then (held_of new uri) (Some v) is_open.1 holds)

    -- of a version before the base: all stays
    older : int_lt n stood.base.number ≡ true
        → BegunBy n seen_at.version.text (held_of old uri) (held_of new uri)
        → HoldsThen equal_then (held_of new uri)
    older less by = by_equal equal_before refl
      where
        stays : (b : Option Base) → held_of old uri ≡ b
            → HoldsFrom terms stood.base (kept terms uri before) v (sent_since uri before) b
            → BegunBy n seen_at.version.text b (held_of new uri)
            → HoldsFrom terms stood.base (kept terms uri before) v (sent_since uri before)
            (held_of new uri)
        stays None was holds by =
            let nothing : kept terms uri before ≡ [] =
            ap (λ m. last_of m (past terms uri before)) holds.none_kept
            ∙ last-none (past terms uri before) in
            let own : v.number ≡ n =
            int_is v.number n (sym (ap (λ ks. has_number n ks (Some v)) nothing) ∙ has_v) in
            absurd (true≢false (sym less ∙ ap (λ m. int_lt m stood.base.number) (sym own)
            ∙ stood.within))
        stays (Some o) was holds (own, same, begins) =
            let early : int_lt n o.since ≡ true =
            earlier n stood.base.number o.since less
            (base_first stood.base.number o.since (spec.text_in o) stood.base.text holds.text) in
            subst (HoldsFrom terms stood.base (kept terms uri before) v (sent_since uri before))
            (ap (λ b. Some b) (sym (begins.stays early)) ∙ sym same) holds

        same_base : HoldsThen equal_before (held_of new uri)
        same_base = record {
          base = stood.base;
          is = stood.is;
          within = stood.within;
          holds = stays (held_of old uri) refl stood.holds by;
        }

        by_equal : (e : Option VersionEvent) → equal_before ≡ e
            → HoldsThen equal_then (held_of new uri)
        by_equal (Some y) is =
            let number : stood.base.number ≡ y.version =
            equal_base (Some y) (past terms uri before ++ v ∷ []) stood.base
            (ap (λ e. base_in e (past terms uri before ++ v ∷ [])) (sym is) ∙ stood.is) in
            let kept_it : equal_then ≡ equal_before =
            equal_then_is ∙ ap (λ e. newer_of e (Some x)) is
            ∙ ap (λ (b : Bool). Some (if b then y else x))
            (ap (int_lt n) (sym number) ∙ less) ∙ sym is in
            subst (λ e. HoldsThen e (held_of new uri)) (sym kept_it) same_base
        by_equal None is =
            absurd (true≢false (sym less
            ∙ least_base (past terms uri before ++ v ∷ []) stood.base
            (ap (λ e. base_in e (past terms uri before ++ v ∷ [])) (sym is) ∙ stood.is)
            (past-rises-to terms uri before v before_accepted is_open.1) seen_at.is))
          where
            least_base : (vs : List Version) (base : Version) → base_in None vs ≡ Some base
                → rises vs ≡ true → numbered vs n ≡ Some seen_at.version
                → int_lt n base.number ≡ false
            least_base [] base b rise found = absurd (none-some base b)
            least_base (w ∷ vs) base b rise found =
                let own : base.number ≡ w.number =
                int_is base.number w.number (found_is (is_at w.number) (w ∷ vs) base b) in
                ap (int_lt n) own
                ∙ first_least w vs n seen_at.version rise found seen_at.number

    -- of the base's version, or a later one
    newer_one : int_lt n stood.base.number ≡ false
        → BegunBy n seen_at.version.text (held_of old uri) (held_of new uri)
        → HoldsThen equal_then (held_of new uri)
    newer_one less by = by_old (held_of old uri) stood.holds by
      where
        least : (e : Option VersionEvent) → IfSome e (λ y. stood.base.number ≡ y.version)
            → IfSome e (λ y. int_lt x.version y.version ≡ false)
        least None h = tt
        least (Some y) h = ap (int_lt n) (sym h) ∙ less

        is : base_in equal_then (past terms uri before ++ v ∷ []) ≡ Some seen_at.version
        is = ap (λ e. base_in e (past terms uri before ++ v ∷ []))
            (equal_then_is
            ∙ newest equal_before x (least equal_before
            (equal_base equal_before _ stood.base stood.is)))
            ∙ seen_at.is

        by_old : (b : Option Base)
            → HoldsFrom terms stood.base (kept terms uri before) v (sent_since uri before) b
            → BegunBy n seen_at.version.text b (held_of new uri)
            → HoldsThen equal_then (held_of new uri)
        by_old None holds by =
            let nothing : kept terms uri before ≡ [] =
            ap (λ m. last_of m (past terms uri before)) holds.none_kept
            ∙ last-none (past terms uri before) in
            let own : v.number ≡ n =
            int_is v.number n (sym (ap (λ ks. has_number n ks (Some v)) nothing) ∙ has_v) in
            begun_first terms equal_then _ _ v seen_at.version (sent_since uri before) n
            seen_at.version.text seen_at.number refl is within_held (held_of new uri)
            (later_none n (sent_since uri before)
            (subst (λ m. AreWithin m (sent_since uri before)) own
            (sent_rise terms uri before before_accepted v is_open.1).1)) by
        by_old (Some o) holds (own, same, begins) = by_since (int_lt n o.since) refl
          where
            by_since : (b : Bool) → int_lt n o.since ≡ b → HoldsThen equal_then (held_of new uri)
            by_since false behind =
                begun_again terms equal_then _ _ v seen_at.version (sent_since uri before) n
                seen_at.version.text seen_at.number refl is within_held o (held_of new uri) behind
                holds.few
                (ap (later n) holds.sent ∙ later_later o.since n (sent_since uri before) behind)
                (own, same, begins)
            by_since true early = record {
              base = seen_at.version;
              is = is;
              within = ap (int_lt v.number) seen_at.number ∙ within_held;
              holds = subst (HoldsFrom terms seen_at.version (kept terms uri before) v
                  (sent_since uri before))
                  (ap (λ b. Some b) (sym (begins.stays early)) ∙ sym same)
                  (held_moved stood.base seen_at.version v (kept terms uri before)
                  (sent_since uri before) o
                  (ap (λ m. int_lt m stood.base.number) seen_at.number ∙ less)
                  (ap (λ m. has_number m (kept terms uri before) (Some v)) seen_at.number ∙ has_v)
                  (ap (λ m. int_lt m o.since) seen_at.number ∙ early) holds);
            }

    shown_all : spec.Begun terms after_shown uri n old new
        → HoldAll terms after_shown (done ++ k_equal ∷ []) new
    shown_all begun =
        by_uri terms before snapshot done k_equal refl old new (BegunBy n seen_at.version.text)
        (begun seen_at.version.text text_after) hold
        (λ by. then_held (by_order (int_lt n stood.base.number) refl by))
      where
        by_order : (b : Bool) → int_lt n stood.base.number ≡ b
            → BegunBy n seen_at.version.text (held_of old uri) (held_of new uri)
            → HoldsThen equal_then (held_of new uri)
        by_order true less by = older less by
        by_order false less by = newer_one less by

-- ---- any call

answer_equal : (n : ℤ) (ks : List Version) (h : Option Version) → answer_of n ks h ≡ Equal
    → has_number n ks h ≡ true
answer_equal n ks h is = by_test (has_number n ks h) (is_ahead n h) is
  where
    by_test : (a b : Bool) → (if a then Equal else (if b then Waits else Missed)) ≡ Equal
        → a ≡ true
    by_test true b e = refl
    by_test false true e = absurd (cc e)
    by_test false false e = absurd (cc e)

-- **what is held, with one call more**
pub hold_more : (terms : Terms) (before : List Call) (c : Call) (done : List KeptCall)
    (p : EventPlace) (step : Step) (found : Bool) (old new : Entries)
    → AreAccepted terms (before ++ c ∷ []) → step_of c (took_by terms before c) ≡ Some step
    → found ≡ finds_equal step (marked (standing (uri_of c) done))
    → spec.KeepsBy terms (before ++ c ∷ []) c step found old new → HoldAll terms before done old
    → HoldAll terms (before ++ c ∷ []) (done ++ kept_call (uri_of c) p step ∷ []) new
hold_more terms before (opens uri n t) done p step found old new accepted is equal keeps hold =
    let own : Reaches n true ≡ step = same_Some (Reaches n true) step is in
    subst (λ s. HoldAll terms (before ++ opens uri n t ∷ []) (done ++ kept_call uri p s ∷ []) new)
    own
    (opened_all terms before uri n t done p old new accepted
    (subst (λ s. spec.KeepsBy terms (before ++ opens uri n t ∷ []) (opens uri n t) s found old new)
    (sym own) keeps) hold)
hold_more terms before (changes enc kind uri n cs) done p step found old new accepted is equal keeps
    hold =
    let own : Reaches n false ≡ step = same_Some (Reaches n false) step is in
    subst (λ s. HoldAll terms (before ++ changes enc kind uri n cs ∷ [])
    (done ++ kept_call uri p s ∷ []) new) own
    (changed_all terms before enc kind uri n cs done p old new accepted hold found
    (subst (λ s. found ≡ finds_equal s (marked (standing uri done))) (sym own) equal)
    (subst (λ s. spec.KeepsBy terms (before ++ changes enc kind uri n cs ∷ [])
    (changes enc kind uri n cs) s found old new) (sym own) keeps))
hold_more terms before (closes uri) done p step found old new accepted is equal keeps hold =
    let own : Closes ≡ step = same_Some Closes step is in
    subst (λ s. HoldAll terms (before ++ closes uri ∷ []) (done ++ kept_call uri p s ∷ []) new) own
    (closed_all terms before uri done p old new
    (subst (λ s. spec.KeepsBy terms (before ++ closes uri ∷ []) (closes uri) s found old new)
    (sym own) keeps) hold)
hold_more terms before (saves uri t) done p step found old new accepted is equal keeps hold =
    absurd (none-some step is)
hold_more terms before (shows uri n t) done p step found old new accepted is equal keeps hold =
    by_answer (answer_of n (kept terms uri before) (held terms uri before)) refl
  where
    after : List Call
    after = before ++ shows uri n t ∷ []

    by_answer : (answer : Match)
        → answer_of n (kept terms uri before) (held terms uri before) ≡ answer
        → HoldAll terms after (done ++ kept_call uri p step ∷ []) new
    by_answer answer says =
        let own : Shows n answer ≡ step =
        ap (Shows n) (sym says)
        ∙ same_Some (Shows n (answer_of n (kept terms uri before) (held terms uri before))) step is in
        subst (λ s. HoldAll terms after (done ++ kept_call uri p s ∷ []) new) own
        (by_kind answer says
        (subst (λ s. spec.KeepsBy terms after (shows uri n t) s found old new) (sym own) keeps))
      where
        by_kind : (answer : Match)
            → answer_of n (kept terms uri before) (held terms uri before) ≡ answer
            → spec.KeepsBy terms after (shows uri n t) (Shows n answer) found old new
            → HoldAll terms after (done ++ kept_call uri p (Shows n answer) ∷ []) new
        by_kind Equal says begun =
            shown_all terms before uri n t done p old new accepted hold
            (answer_equal n (kept terms uri before) (held terms uri before) says) begun
        by_kind Waits says same =
            passed_all terms before uri n t done p old new accepted hold Waits refl refl same
        by_kind Missed says same =
            passed_all terms before uri n t done p old new accepted hold Missed refl refl same

-- one that does nothing to its document
pub hold_same : (terms : Terms) (before : List Call) (c : Call) (done : List KeptCall)
    (es : Entries) → step_of c (took_by terms before c) ≡ None → HoldAll terms before done es
    → HoldAll terms (before ++ c ∷ []) done es
hold_same terms before (opens uri n t) done es is hold u = absurd (none-some (Reaches n true) (sym is))
hold_same terms before (changes enc kind uri n cs) done es is hold u =
    absurd (none-some (Reaches n false) (sym is))
hold_same terms before (closes uri) done es is hold u = absurd (none-some Closes (sym is))
hold_same terms before (saves uri t) done es is hold u =
    leaves_held terms u before (saves uri t) (agreed (standing u done)) (agreed (standing u done))
    (held_of es u) (held_of es u) (leaves_saved terms u before uri t) refl refl (hold u)
hold_same terms before (shows uri n t) done es is hold u = absurd (none-some _ (sym is))
