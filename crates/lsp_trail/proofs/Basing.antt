-- What is held of the texts from which documents may have drifted, with one call more.
use Rattle.std.specs.Prelude.{ℤ, int_lt, ◌||◌, ◌-◌, if◌then◌else◌, option_map, option_to_list}
use Rattle.std.specs.Prelude.{length, drop, filter, is_some, IfSome, String}
use Rattle.std.specs.Global.{Global}
use Rattle.std.specs.List.{find, list_any}
use Rattle.std.specs.Ordering.{int_eq}
use Rattle.std.specs.Str.{bytes_eq}
use Rattle.std.proofs.Common.{◌≡◌, ◌+◌, ◌⊎◌, ℕ, zero, suc, Bool, true, false, List, [], ◌∷◌, ◌++◌}
use Rattle.std.proofs.Common.{Option, Some, None, refl, sym, ap, ◌∙◌, arith, append-nil, inl, inr}
use Rattle.std.proofs.Common.{subst, append_assoc, take, true≢false}
use Rattle.std.proofs.Math.Bool.{or-true}
use Rattle.std.proofs.lemmas.Int.{ints}
use Rattle.std.proofs.lemmas.List.{length_push, length-drop, take-append-drop}
use Rattle.std.proofs.lemmas.List.Elements.{filter-append}
use Rattle.std.proofs.lemmas.List.Folds.{list_any-append}
use Rattle.lsp_docs.proofs.Accepted.{accepted-split}
use Rattle.lsp_docs.proofs.HeldSteps.{held-snoc, next_held}
use Rattle.lsp_docs.proofs.Past.{nothing-past, past-rises-to, past-same}
use Rattle.lsp_docs.proofs.Rising.{last-empty, last-snoc}
use Rattle.lsp_docs.proofs.WaitingSteps.{none_row}
use Rattle.lsp_docs.proofs.Words.{int_is, less_behind, no_some, uri_flip, uri_is, uri_same}
use Rattle.lsp_replay.specs.Common.{AreAccepted, Bytes, Call, call_rule, changes, closes, Edit}
use Rattle.lsp_replay.specs.Common.{Encoding, has_number, held, is_at, opens, past, rises, SyncKind}
use Rattle.lsp_replay.specs.Common.{Terms, uri_of, Version, versioned}
use Rattle.lsp_docs.specs.Calls.{Text}
use Rattle.lsp_docs.specs.Rules.{text_at}
use Rattle.lsp_docs.specs.Snapshots.{kept, last_of}
use Rattle.lsp_replay.specs.declared.heard.EventPlace.{EventPlace}
use Rattle.lsp_trail.specs.Bases.{AddedBy, BegunBy, ChangesOne, HoldsAfter, HoldsFrom, HoldsOpen}
use Rattle.lsp_trail.specs.Bases.{base_in, held_of, later, numbered, revisions, sent_since}
use Rattle.lsp_trail.specs.SentEdits.{SentEdits, are_few, sent_edits}
use Rattle.lsp_trail.specs.Bases as spec
use Rattle.lsp_trail.specs.History.{KeptCall, kept_call, since_last}
use Rattle.lsp_trail.specs.Marking.{agreed, at_version, closes as closes_it, finds_equal}
use Rattle.lsp_trail.specs.Marking.{found_at, is_about, marked, newer_of, standing}
use Rattle.lsp_trail.specs.declared.base.Base.{Base}
use Rattle.lsp_trail.specs.declared.mark.VersionEvent.{VersionEvent}
use Rattle.lsp_trail.specs.declared.step.Step.TheVariants.{Closes, Reaches}
use Rattle.lsp_trail.proofs.BaseSteps.{base_stays, found_is, held_again, held_changed, held_first}
use Rattle.lsp_trail.proofs.BaseSteps.{numbered-last}
use Rattle.lsp_trail.proofs.History.{since_last-push}
use Rattle.lsp_trail.proofs.LaterChanges.{AreRising, AreWithin, itself, later-append, later_later}
use Rattle.lsp_trail.proofs.LaterChanges.{later_none, not_before}
use Rattle.lsp_trail.proofs.Marking.{agreed-push, newer_none}
use Rattle.lsp_trail.proofs.ChangesSent.{IsChanged, Leaves, changed_so, leaves_other, sent_opened}
use Rattle.lsp_trail.proofs.ChangesSent.{sent_rise}

abbrev pub Entries : Type 0
Entries = List (String Global × Base)

-- ---- the snapshot that was found equal

-- with one step more of the document
pub standing_own : (uri : Bytes) (done : List KeptCall) (k : KeptCall) → is_about uri k ≡ true
    → standing uri (done ++ k ∷ [])
    ≡ (if closes_it k then [] else standing uri done ++ k ∷ [])
standing_own uri done k own =
    ap (since_last closes_it) (filter-append (is_about uri) done (k ∷ []))
    ∙ ap (λ (b : Bool). since_last closes_it
    (filter (is_about uri) done ++ (if b then k ∷ [] else []))) own
    ∙ since_last-push closes_it (filter (is_about uri) done) k

-- of another one
pub standing_other : (uri : Bytes) (done : List KeptCall) (k : KeptCall) → is_about uri k ≡ false
    → standing uri (done ++ k ∷ []) ≡ standing uri done
standing_other uri done k other =
    ap (since_last closes_it) (filter-append (is_about uri) done (k ∷ []))
    ∙ ap (λ (b : Bool). since_last closes_it
    (filter (is_about uri) done ++ (if b then k ∷ [] else []))) other
    ∙ ap (since_last closes_it) (append-nil (filter (is_about uri) done))

-- one of a version that is not below it
pub newest : (equal : Option VersionEvent) (s : VersionEvent)
    → IfSome equal (λ x. int_lt s.version x.version ≡ false) → newer_of equal (Some s) ≡ Some s
newest None s least = refl
newest (Some x) s least = ap (λ (b : Bool). Some (if b then x else s)) least

-- it is of the version of the base
pub equal_base : (equal : Option VersionEvent) (versions : List Version) (base : Version)
    → base_in equal versions ≡ Some base → IfSome equal (λ x. base.number ≡ x.version)
equal_base None versions base is = tt
equal_base (Some x) versions base is =
    int_is base.number x.version (found_is (is_at x.version) versions base is)

-- ---- versions

found_any : (p : Version → Bool) (vs : List Version) → list_any p vs ≡ true
    → (w : Version) × (find p vs ≡ Some w)
found_any p [] any = absurd (true≢false (sym any))
found_any p (v ∷ vs) any = by_test (p v) refl (found_any p vs)
  where
    by_test : (b : Bool) → p v ≡ b
        → (list_any p vs ≡ true → (w : Version) × (find p vs ≡ Some w))
        → (w : Version) × ((if b then Some v else find p vs) ≡ Some w)
    by_test true passes rest = (v, refl)
    by_test false fails rest =
        rest (sym (ap (λ (b : Bool). b || list_any p vs) fails) ∙ any)

-- the one that is held or kept
number_found : (n : ℤ) (kept : List Version) (v : Version) → has_number n kept (Some v) ≡ true
    → (w : Version) × (find (is_at n) (kept ++ v ∷ []) ≡ Some w)
number_found n kept v has =
    found_any (is_at n) (kept ++ v ∷ [])
    (list_any-append (is_at n) kept (v ∷ []) ∙ by_test (list_any (is_at n) kept) refl)
  where
    by_test : (b : Bool) → list_any (is_at n) kept ≡ b → (b || (is_at n v || false)) ≡ true
    by_test true p = refl
    by_test false p =
        let own : is_at n v ≡ true =
        sym (ap (λ (b : Bool). b || is_at n v) p) ∙ has in
        ap (λ (b : Bool). b || false) own

any-drop : (p : Version → Bool) (k : ℕ) (vs : List Version) → list_any p (drop k vs) ≡ true
    → list_any p vs ≡ true
any-drop p (suc k) (v ∷ vs) any =
    ap (λ (b : Bool). p v || b) (any-drop p k vs any) ∙ either (p v)
  where
    either : (b : Bool) → (b || true) ≡ true
    either true = refl
    either false = refl
any-drop p _ _ any = any

-- what is kept with one version more was kept or held
kept_less : (m : ℕ) (vs : List Version) (v w : Version) (n : ℤ)
    → has_number n (last_of m (vs ++ v ∷ [])) (Some w) ≡ true
    → (n ≡ w.number) ⊎ (has_number n (last_of m vs) (Some v) ≡ true)
kept_less m vs v w n has = by_test (list_any (is_at n) (last_of m (vs ++ v ∷ []))) refl
  where
    old_one : (a b : Bool) → (a || (b || false)) ≡ true → (a || b) ≡ true
    old_one false false p = p
    old_one _ _ p = refl

    by_test : (b : Bool) → list_any (is_at n) (last_of m (vs ++ v ∷ [])) ≡ b
        → (n ≡ w.number) ⊎ (has_number n (last_of m vs) (Some v) ≡ true)
    by_test false p =
        inl (sym (int_is w.number n (sym (ap (λ (b : Bool). b || int_eq w.number n) p) ∙ has)))
    by_test true p =
        let any : list_any (is_at n) (last_of m vs ++ v ∷ []) ≡ true =
        any-drop (is_at n) (length (last_of m vs ++ v ∷ []) - m) (last_of m vs ++ v ∷ [])
        (ap (list_any (is_at n)) (last-snoc m vs v) ∙ p) in
        inr (old_one (list_any (is_at n) (last_of m vs)) (is_at n v)
        (sym (list_any-append (is_at n) (last_of m vs) (v ∷ [])) ∙ any))

-- nothing is kept with one version more only where nothing ever is
none_kept : (m : ℕ) (vs : List Version) (v : Version) → last_of m (vs ++ v ∷ []) ≡ [] → m ≡ 0
none_kept m vs v empty =
    let none : length (vs ++ v ∷ []) - (length (vs ++ v ∷ []) - m) ≡ 0 =
    sym (length-drop (length (vs ++ v ∷ []) - m) (vs ++ v ∷ [])) ∙ ap length empty in
    omega (arith, none, length_push vs v)

-- ---- one document: it is opened, changed or shown

-- it begins with a text of this version
module _ (terms : Terms) (equal : Option VersionEvent) (versions kept_now : List Version)
    (v w : Version) (all : List SentEdits) (n : ℤ) (t : Text) (number : w.number ≡ n)
    (text : w.text ≡ t) (is : base_in equal versions ≡ Some w)
    (within : int_lt v.number n ≡ false) where
  reached_within : int_lt v.number w.number ≡ false
  reached_within = ap (int_lt v.number) number ∙ within

  -- for the first time
  pub begun_first : (b : Option Base) → later n all ≡ [] → BegunBy n t None b
      → HoldsOpen terms equal versions kept_now v all b
  begun_first b none (own, same, new) = record {
    base = w;
    is = is;
    within = reached_within;
    holds = subst (HoldsFrom terms w kept_now v all) (sym same)
        (held_first w w v kept_now all n t number text within own new none);
  }

  -- or again, where changes since an earlier one were held
  pub begun_again : (old : Base) (b : Option Base) → int_lt n old.since ≡ false
      → are_few (spec.sent_in old) ≡ true → later n (spec.sent_in old) ≡ later n all
      → BegunBy n t (Some old) b → HoldsOpen terms equal versions kept_now v all b
  begun_again old b held few same (own, alike, begins) = record {
    base = w;
    is = is;
    within = reached_within;
    holds = subst (HoldsFrom terms w kept_now v all) (sym alike)
        (held_again w w v kept_now all n t number text within old own few same
        (begins.begins held));
  }

-- ---- by URI

-- what is held of the documents is what these calls and steps left of them
abbrev pub HoldAll : Terms → List Call → List KeptCall → Entries → Type 0
HoldAll terms before done es =
    (u : Bytes) → HoldsAfter terms u before (agreed (standing u done)) (held_of es u)

-- a document that a call leaves is as it was
pub leaves_held : (terms : Terms) (u : Bytes) (before : List Call) (c : Call)
    (e f : Option VersionEvent) (a b : Option Base) → Leaves terms u before c → f ≡ e → b ≡ a
    → HoldsAfter terms u before e a → HoldsAfter terms u (before ++ c ∷ []) f b
leaves_held terms u before c e f a b leaves same alike holds =
    let now : HoldsAfter terms u before f b =
    subst (λ x. HoldsAfter terms u before x b) (sym same)
    (subst (HoldsAfter terms u before e) (sym alike) holds) in
    subst (λ h. spec.HoldsAny terms f (past terms u (before ++ c ∷ []) ++ option_to_list h)
    (kept terms u (before ++ c ∷ [])) h (sent_since u (before ++ c ∷ [])) b)
    (sym leaves.held_same)
    (subst (λ ps. spec.HoldsAny terms f (ps ++ option_to_list (held terms u before))
    (last_of terms.kept ps) (held terms u before) (sent_since u (before ++ c ∷ [])) b)
    (sym leaves.past_same)
    (subst (λ sent. spec.HoldsAny terms f (revisions terms u before) (kept terms u before)
    (held terms u before) sent b) (sym leaves.sent_alike) now))

module _ (terms : Terms) (before : List Call) (c : Call) (done : List KeptCall) (k : KeptCall)
    (about : k.on.uri ≡ uri_of c) (old new : Entries) where
  -- the document of the call, and all others, which it leaves
  pub by_uri : (How : Option Base → Option Base → Type 0) → ChangesOne (uri_of c) How old new
      → HoldAll terms before done old
      → (How (held_of old (uri_of c)) (held_of new (uri_of c))
      → HoldsAfter terms (uri_of c) (before ++ c ∷ [])
      (agreed (standing (uri_of c) (done ++ k ∷ []))) (held_of new (uri_of c)))
      → HoldAll terms (before ++ c ∷ []) (done ++ k ∷ []) new
  by_uri How changed hold own u = by_test (bytes_eq (uri_of c) u) refl
    where
      by_test : (b : Bool) → bytes_eq (uri_of c) u ≡ b
          → HoldsAfter terms u (before ++ c ∷ []) (agreed (standing u (done ++ k ∷ [])))
          (held_of new u)
      by_test true p =
          subst (λ x. HoldsAfter terms x (before ++ c ∷ []) (agreed (standing x (done ++ k ∷ [])))
          (held_of new x)) (uri_is (uri_of c) u p) (own changed.own)
      by_test false p =
          leaves_held terms u before c (agreed (standing u done)) _ (held_of old u) (held_of new u)
          (leaves_other terms u before c (uri_flip u (uri_of c) ∙ p))
          (ap agreed (standing_other u done k (ap (λ x. bytes_eq x u) about ∙ p)))
          (changed.others u p) (hold u)

-- ---- what is known of the document of a call

kept_rule : (terms : Terms) (before : List Call) (c : Call) → AreAccepted terms (before ++ c ∷ [])
    → call_rule terms before c ≡ None
kept_rule terms before c accepted = (accepted-split terms [] before (c ∷ []) accepted).1.0

pub accepted_before : (terms : Terms) (before : List Call) (c : Call)
    → AreAccepted terms (before ++ c ∷ []) → AreAccepted terms before
accepted_before terms before c accepted = (accepted-split terms [] before (c ∷ []) accepted).0

module _ (terms : Terms) (u : Bytes) (calls : List Call) (e : Option VersionEvent)
    (b : Option Base) (h : Option Version) (same : held terms u calls ≡ h) where
  abbrev pub HoldsAt : Option Version → Type 0
  HoldsAt o = spec.HoldsAny terms e (past terms u calls ++ option_to_list o) (kept terms u calls) o
      (sent_since u calls) b

  pub at_held : HoldsAt h → HoldsAfter terms u calls e b
  at_held holds = subst HoldsAt (sym same) holds

  pub from_held : HoldsAfter terms u calls e b → HoldsAt h
  from_held holds = subst HoldsAt same holds

int_same : (n : ℤ) → int_eq n n ≡ true
int_same n = grind (arith, ints)

-- the version of this number, which is held or kept
pub record VersionAt (terms : Terms) (u : Bytes) (calls : List Call) (v : Version) (n : ℤ) : Type 0
  where
    pub version : Version
    pub number : version.number ≡ n
    pub text : text_at n (kept terms u calls) (held terms u calls) ≡ Some version.text
    pub is : numbered (past terms u calls ++ v ∷ []) n ≡ Some version

pub version_at : (terms : Terms) (u : Bytes) (calls : List Call) (v : Version) (n : ℤ)
    → AreAccepted terms calls → held terms u calls ≡ Some v
    → has_number n (kept terms u calls) (Some v) ≡ true → VersionAt terms u calls v n
version_at terms u calls v n accepted now has =
    let found = number_found n (kept terms u calls) v has in
    let j = length (past terms u calls) - terms.kept in
    let cut : past terms u calls ++ v ∷ [] ≡ take j (past terms u calls)
    ++ (kept terms u calls ++ v ∷ []) =
    ap (λ ps. ps ++ v ∷ []) (sym (take-append-drop j (past terms u calls)))
    ∙ append_assoc (take j (past terms u calls)) (kept terms u calls) (v ∷ []) in
    record {
      version = found.0;
      number = int_is found.0.number n
          (found_is (is_at n) (kept terms u calls ++ v ∷ []) found.0 found.1);
      text = ap (text_at n (kept terms u calls)) now
          ∙ ap (option_map (λ (w : Version). w.text)) found.1;
      is = ap (λ vs. numbered vs n) cut
          ∙ numbered-last (take j (past terms u calls)) (kept terms u calls ++ v ∷ []) n found.0
          (ap rises (sym cut) ∙ past-rises-to terms u calls v accepted now) found.1;
    }

-- ---- a `didClose`

pub closed_all : (terms : Terms) (before : List Call) (uri : Bytes) (done : List KeptCall)
    (p : EventPlace) (old new : Entries) → ChangesOne uri (λ was now. now ≡ None) old new
    → HoldAll terms before done old
    → HoldAll terms (before ++ closes uri ∷ []) (done ++ kept_call uri p Closes ∷ []) new
closed_all terms before uri done p old new changed hold =
    by_uri terms before (closes uri) done (kept_call uri p Closes) refl old new
    (λ was now. now ≡ None) changed hold
    (λ gone. at_held terms uri (before ++ closes uri ∷ []) _ (held_of new uri) None
    (held-snoc terms uri before (closes uri) ∙ rw (uri_same uri) refl)
    (ap agreed (standing_own uri done (kept_call uri p Closes) (uri_same uri)), gone))

-- ---- a `didOpen`

opened_base : (v : Version) (n : ℤ) (rank : ℕ) (o : Option EventPlace) → v.number ≡ n
    → base_in (option_map (λ (p : EventPlace). at_version rank p n) o) (v ∷ []) ≡ Some v
opened_base v n rank None number = rw (int_same v.number) refl
opened_base v n rank (Some p) number =
    rw (ap (λ m. int_eq m n) number ∙ int_same n) refl

pub opened_all : (terms : Terms) (before : List Call) (uri : Bytes) (n : ℤ) (t : Text)
    (done : List KeptCall) (p : EventPlace) (old new : Entries)
    → AreAccepted terms (before ++ opens uri n t ∷ [])
    → spec.Begun terms (before ++ opens uri n t ∷ []) uri n old new
    → HoldAll terms before done old
    → HoldAll terms (before ++ opens uri n t ∷ []) (done ++ kept_call uri p (Reaches n true) ∷ [])
    new
opened_all terms before uri n t done p old new accepted begun hold =
    by_uri terms before c done k refl old new (BegunBy n t) (begun t text) hold own
  where
    c : Call
    c = opens uri n t

    k : KeptCall
    k = kept_call uri p (Reaches n true)

    v : Version
    v = versioned n t

    none : held terms uri before ≡ None
    none = no_some (held terms uri before)
        (none_row (is_some (held terms uri before)) 601 _ (kept_rule terms before c accepted)).0

    was : (agreed (standing uri done) ≡ None) × (held_of old uri ≡ None)
    was = from_held terms uri before (agreed (standing uri done)) (held_of old uri) None none
        (hold uri)

    now : held terms uri (before ++ c ∷ []) ≡ Some v
    now = held-snoc terms uri before c ∙ ap (λ h. next_held terms uri h c) none
        ∙ rw (uri_same uri) refl

    first : past terms uri (before ++ c ∷ []) ≡ []
    first = past-same terms uri before c refl refl ∙ nothing-past terms uri before none

    text : text_at n (kept terms uri (before ++ c ∷ [])) (held terms uri (before ++ c ∷ []))
        ≡ Some t
    text = ap (λ ps. text_at n (last_of terms.kept ps) (held terms uri (before ++ c ∷ []))) first
        ∙ ap (λ ks. text_at n ks (held terms uri (before ++ c ∷ []))) (last-empty terms.kept)
        ∙ ap (text_at n []) now ∙ rw (int_same n) refl

    base : base_in (agreed (standing uri (done ++ k ∷ []))) (past terms uri (before ++ c ∷ [])
        ++ v ∷ []) ≡ Some v
    base = ap (λ ps. base_in (agreed (standing uri (done ++ k ∷ []))) (ps ++ v ∷ [])) first
        ∙ ap (λ ks. base_in (agreed ks) (v ∷ [])) (standing_own uri done k (uri_same uri))
        ∙ ap (λ e. base_in e (v ∷ [])) (agreed-push (standing uri done) k)
        ∙ ap (λ e. base_in (newer_of e (found_at (standing uri done) k)) (v ∷ [])) was.0
        ∙ opened_base v n _ _ refl

    own : BegunBy n t (held_of old uri) (held_of new uri)
        → HoldsAfter terms uri (before ++ c ∷ []) (agreed (standing uri (done ++ k ∷ [])))
        (held_of new uri)
    own by = at_held terms uri (before ++ c ∷ []) _ (held_of new uri) (Some v) now
        (begun_first terms _ _ _ v v (sent_since uri (before ++ c ∷ [])) n t refl refl base
        (itself n) (held_of new uri)
        (ap (later n) (sent_opened uri before c (rw (uri_same uri) refl)))
        (subst (λ o. BegunBy n t o (held_of new uri)) was.1 by))

-- ---- a `didChange`

shown_none : (n : ℤ) (r s : ℕ) (o : Option EventPlace)
    → is_some (option_map (λ (p : EventPlace). at_version r p n) o) ≡ false
    → option_map (λ (p : EventPlace). at_version s p n) o ≡ None
shown_none n r s None h = refl
shown_none n r s (Some p) h = absurd (true≢false h)

shown_some : (n : ℤ) (r s : ℕ) (o : Option EventPlace)
    → is_some (option_map (λ (p : EventPlace). at_version r p n) o) ≡ true
    → (x : VersionEvent) × (option_map (λ (p : EventPlace). at_version s p n) o ≡ Some x)
    × (x.version ≡ n)
shown_some n r s None h = absurd (true≢false (sym h))
shown_some n r s (Some p) h = (at_version s p n, refl, refl)

module _ (terms : Terms) (before : List Call) (enc : Encoding) (kind : SyncKind) (uri : Bytes)
    (n : ℤ) (cs : List Edit) (done : List KeptCall) (p : EventPlace) (old new : Entries)
    (accepted : AreAccepted terms (before ++ changes enc kind uri n cs ∷ []))
    (hold : HoldAll terms before done old) where
  abbrev call : Call
  call = changes enc kind uri n cs

  abbrev after : List Call
  after = before ++ call ∷ []

  abbrev more : SentEdits
  more = sent_edits n cs

  abbrev k : KeptCall
  k = kept_call uri p (Reaches n false)

  abbrev equal : Option VersionEvent
  equal = agreed (standing uri done)

  abbrev equal_now : Option VersionEvent
  equal_now = agreed (standing uri (done ++ k ∷ []))

  change : IsChanged terms uri before call n more
  change = changed_so terms uri before enc kind uri n cs (uri_same uri)
      (kept_rule terms before call accepted)

  was : HoldsOpen terms equal (past terms uri before ++ change.old ∷ []) (kept terms uri before)
      change.old (sent_since uri before) (held_of old uri)
  was = from_held terms uri before equal (held_of old uri) (Some change.old) change.was (hold uri)

  rise : AreRising (sent_since uri after) × AreWithin change.new.number (sent_since uri after)
  rise = sent_rise terms uri after accepted change.new change.is

  equal_is : equal_now ≡ newer_of equal (found_at (standing uri done) k)
  equal_is = ap agreed (standing_own uri done k (uri_same uri))
      ∙ agreed-push (standing uri done) k

  -- the base is before it
  base_less : int_lt was.base.number n ≡ true
  base_less = not_before was.base.number change.old.number n was.within change.rises

  added : found_at (standing uri done) k ≡ None
      → AddedBy more (kept terms uri after) (held_of old uri) (held_of new uri)
      → HoldsAfter terms uri after equal_now (held_of new uri)
  added none adds =
      let same : equal_now ≡ equal = equal_is ∙ ap (newer_of equal) none ∙ newer_none equal in
      let kept_is : kept terms uri after ≡ last_of terms.kept (past terms uri before
      ++ change.old ∷ []) = ap (last_of terms.kept) change.past_more in
      at_held terms uri after equal_now (held_of new uri) (Some change.new) change.is (record {
        base = was.base;
        is = ap (λ e. base_in e (past terms uri after ++ change.new ∷ [])) same
            ∙ ap (λ ps. base_in equal (ps ++ change.new ∷ [])) change.past_more
            ∙ base_stays equal (past terms uri before ++ change.old ∷ []) change.new was.base was.is;
        within = ap (λ m. int_lt m was.base.number) change.number
            ∙ less_behind n was.base.number base_less;
        holds = subst (λ sent. HoldsFrom terms was.base (kept terms uri after) change.new sent
            (held_of new uri)) (sym change.sent_more)
            (held_changed terms was.base change.old change.new (kept terms uri before)
            (kept terms uri after) (sent_since uri before) more
            (subst AreRising change.sent_more rise.0) change.number
            (subst (AreWithin change.new.number) change.sent_more rise.1) change.rises
            (λ m has. by_kept m (kept_less terms.kept (past terms uri before) change.old change.new m
            (subst (λ ks. has_number m ks (Some change.new) ≡ true) kept_is has)))
            (held_of old uri) (held_of new uri)
            (λ empty. none_kept terms.kept (past terms uri before) change.old (sym kept_is ∙ empty))
            was.holds adds);
      })
    where
      by_kept : (m : ℤ)
          → (m ≡ change.new.number) ⊎ (has_number m (kept terms uri before) (Some change.old) ≡ true)
          → (m ≡ n) ⊎ (has_number m (kept terms uri before) (Some change.old) ≡ true)
      by_kept m (inl own) = inl (own ∙ change.number)
      by_kept m (inr has) = inr has

  has_new : has_number n (kept terms uri after) (Some change.new) ≡ true
  has_new = ap (λ b. list_any (is_at n) (kept terms uri after) || b)
      (ap (λ m. int_eq m n) change.number ∙ int_same n)
      ∙ or-true (list_any (is_at n) (kept terms uri after))

  -- a snapshot that waited was equal
  known : VersionAt terms uri after change.new n
  known = version_at terms uri after change.new n accepted change.is has_new

  none_later : later n (sent_since uri after) ≡ []
  none_later = later_none n (sent_since uri after)
      (subst (λ m. AreWithin m (sent_since uri after)) change.number rise.1)

  met : (x : VersionEvent) → found_at (standing uri done) k ≡ Some x → x.version ≡ n
      → BegunBy n known.version.text (held_of old uri) (held_of new uri)
      → HoldsAfter terms uri after equal_now (held_of new uri)
  met x found own by =
      at_held terms uri after equal_now (held_of new uri) (Some change.new) change.is
      (by_old (held_of old uri) was.holds by)
    where
      least : (e : Option VersionEvent) → IfSome e (λ y. was.base.number ≡ y.version)
          → IfSome e (λ y. int_lt x.version y.version ≡ false)
      least None h = tt
      least (Some y) h =
          ap (λ m. int_lt m y.version) own ∙ ap (int_lt n) (sym h)
          ∙ less_behind n was.base.number base_less

      is : base_in equal_now (past terms uri after ++ change.new ∷ []) ≡ Some known.version
      is = ap (λ e. base_in e (past terms uri after ++ change.new ∷ []))
          (equal_is ∙ ap (newer_of equal) found
          ∙ newest equal x (least equal (equal_base equal _ was.base was.is)))
          ∙ ap (numbered (past terms uri after ++ change.new ∷ [])) own ∙ known.is

      last : int_lt change.new.number n ≡ false
      last = ap (λ m. int_lt m n) change.number ∙ itself n

      by_old : (b : Option Base)
          → HoldsFrom terms was.base (kept terms uri before) change.old (sent_since uri before) b
          → BegunBy n known.version.text b (held_of new uri)
          → HoldsOpen terms equal_now (past terms uri after ++ change.new ∷ [])
          (kept terms uri after) change.new (sent_since uri after) (held_of new uri)
      by_old None holds by =
          begun_first terms equal_now _ _ change.new known.version (sent_since uri after) n
          known.version.text known.number refl is last (held_of new uri) none_later by
      by_old (Some o) holds by =
          let less : int_lt n o.since ≡ false =
          less_behind n o.since (not_before o.since change.old.number n holds.within change.rises) in
          begun_again terms equal_now _ _ change.new known.version (sent_since uri after) n
          known.version.text known.number refl is last o (held_of new uri) less holds.few
          (ap (later n) holds.sent ∙ later_later o.since n (sent_since uri before) less
          ∙ sym (append-nil (later n (sent_since uri before)))
          ∙ ap (λ l. later n (sent_since uri before) ++ l)
          (sym (later_none n (more ∷ []) (itself n, tt)))
          ∙ sym (later-append n (sent_since uri before) (more ∷ []))
          ∙ ap (later n) (sym change.sent_more)) by

  pub changed_all : (found : Bool) → found ≡ finds_equal (Reaches n false) (marked (standing uri done))
      → spec.KeepsBy terms after call (Reaches n false) found old new
      → HoldAll terms after (done ++ k ∷ []) new
  changed_all true found keeps =
      let x = shown_some n _ _ _ (sym found) in
      by_uri terms before call done k refl old new (BegunBy n known.version.text)
      (keeps known.version.text known.text) hold (met x.0 x.1 x.2)
  changed_all false found keeps =
      by_uri terms before call done k refl old new (AddedBy more (kept terms uri after))
      (keeps more (rw (uri_same uri) refl)) hold (added (shown_none n _ _ _ (sym found)))
