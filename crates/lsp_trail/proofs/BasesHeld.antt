-- What is held under a URI, with something put there.
use Rattle.std.specs.Borrow.{Bor}
use Rattle.std.specs.Prelude.{ℕ, ℤ, ◌||◌, if◌then◌else◌, length, map, option_map, String, MatchBool}
use Rattle.std.specs.Global.{Global}
use Rattle.std.proofs.Common.{◌≡◌, Bool, true, false, List, [], ◌∷◌, Option, Some, None, refl, sym}
use Rattle.std.proofs.Common.{ap, ◌∙◌, arith, inl, inr, subst}
use Rattle.std.proofs.lemmas.Option.{none-some, same_Some}
use Rattle.lsp_replay.specs.Common.{Bytes, Call, call_view, Change, changes, Edit, Encoding}
use Rattle.lsp_replay.specs.Common.{SyncKind, Terms, uri_of, Version}
use Rattle.lsp_docs.specs.Snapshots.{kept}
use Rattle.lsp_docs.specs.declared.call.Call as code
use Rattle.lsp_docs.specs.declared.call.Call.TheVariants.{Opens, Changes, Closes, Saves, Shows}
use Rattle.lsp_docs.proofs.Words.{uri_same}
use Rattle.lsp_uris.proofs.Putting.{PutsUnder}
use Rattle.lsp_trail.specs.Bases.{AddedAt, AddedBy, Begun, ChangesOne, ClosedBy, KeepsBy, held_of}
use Rattle.lsp_trail.specs.Bases.{sent_by}
use Rattle.lsp_trail.specs.SentEdits.{SentEdits, sent_edits}
use Rattle.lsp_trail.specs.declared.base.Base.{Base}
use Rattle.lsp_trail.specs.declared.step.Step.TheVariants.{Reaches}

abbrev pub Entries : Type 0
Entries = List (String Global × Base)

pub map_same : {X : Type 0} (o : Option X) → option_map (λ (x : X). x) o ≡ o
map_same None = refl
map_same (Some x) = refl

-- one document alone is changed
pub put_one : (uri : Bytes) (How : Option Base → Option Base → Type 0) (w : Option Base)
    (old new : Entries) → PutsUnder uri w (held_of old) (held_of new)
    → How (held_of old uri) w → ChangesOne uri How old new
put_one uri How w old new put how = record {
  own = subst (How (held_of old uri)) (sym (put uri
      ∙ ap (λ (b : Bool). if b then w else held_of old uri) (uri_same uri))) how;
  others = λ u p. put u ∙ ap (λ (b : Bool). if b then w else held_of old u) p;
}

-- of one of which nothing is held, nothing is added
pub none_added : (uri : Bytes) (more : SentEdits) (kept : List Version) (es : Entries)
    → held_of es uri ≡ None → ChangesOne uri (AddedBy more kept) es es
none_added uri more kept es none = record {
  own = subst (λ o. AddedBy more kept o o) (sym none) refl;
  others = λ u p. refl;
}

-- changes are added to those that are held of one
pub added_there : (uri : Bytes) (more : SentEdits) (kept : List Version) (lost : Bool)
    (old new : Entries) → ChangesOne uri (AddedAt more lost) old new
    → ChangesOne uri (AddedBy more kept) old new
added_there uri more kept lost old new added = record {
  own = by_old (held_of old uri) (held_of new uri) added.own;
  others = added.others;
}
  where
    by_old : (o n : Option Base) → AddedAt more lost o n → AddedBy more kept o n
    by_old None n own = absurd own
    by_old (Some b) n (one, adds, is, gone) = (one, adds, inl is)

-- of which nothing is held any longer
pub added_closed : (uri : Bytes) (more : SentEdits) (kept : List Version) (old mid new : Entries)
    → ChangesOne uri (AddedAt more true) old mid → ChangesOne uri (ClosedBy kept) mid new
    → ChangesOne uri (AddedBy more kept) old new
added_closed uri more kept old mid new added closed = record {
  own = by_old (held_of old uri) (held_of mid uri) (held_of new uri) added.own closed.own;
  others = λ u p. closed.others u p ∙ added.others u p;
}
  where
    by_old : (o m n : Option Base) → AddedAt more true o m → ClosedBy kept m n
        → AddedBy more kept o n
    by_old None m n own after = absurd own
    by_old (Some b) m n (one, adds, is, gone) (inl same) = (one, adds, inl (same ∙ is))
    by_old (Some b) m n (one, adds, is, gone) (inr (none, empty)) =
        (one, adds, inr (none, gone refl, empty))

-- nothing is changed
pub none_closed : (uri : Bytes) (kept : List Version) (es : Entries)
    → ChangesOne uri (ClosedBy kept) es es
none_closed uri kept es = record { own = inl refl; others = λ u p. refl }

-- nothing is held any longer of one of which no version is kept
pub closed_now : (uri : Bytes) (kept : List Version) (old new : Entries) → kept ≡ []
    → ChangesOne uri (λ was now. now ≡ None) old new → ChangesOne uri (ClosedBy kept) old new
closed_now uri kept old new empty closed = record {
  own = inr (closed.own, empty);
  others = closed.others;
}

pub none_numbered : (vs : List Version) → length (map (λ (v : Version). v.number) vs) ≡ 0 → vs ≡ []
none_numbered [] none = refl
none_numbered (v ∷ vs) none = absurd (omega arith)

-- the changes that a call sends of its document
pub sends_own : (uri : Bytes) (enc : Encoding) (kind : SyncKind) (n : ℤ) (cs : List Edit)
    (more : SentEdits) → sent_by uri (changes enc kind uri n cs) ≡ Some more
    → sent_edits n cs ≡ more
sends_own uri enc kind n cs more is =
    same_Some (sent_edits n cs) more
    (sym (ap (λ (b : Bool). if b then Some (sent_edits n cs) else None) (uri_same uri)) ∙ is)

-- a message begins with a text that is known
pub keeps_known : (terms : Terms) (after : List Call) (call : Call) (n : ℤ) (opens equal : Bool)
    (old new : Entries) → (opens || equal) ≡ true → Begun terms after (uri_of call) n old new
    → KeepsBy terms after call (Reaches n opens) equal old new
keeps_known terms after call n opens equal old new is begun =
    subst (λ (b : Bool). MatchBool b (Begun terms after (uri_of call) n old new)
    ((more : SentEdits) → sent_by (uri_of call) call ≡ Some more
    → ChangesOne (uri_of call) (AddedBy more (kept terms (uri_of call) after)) old new)) (sym is) begun

-- or adds its changes
pub keeps_added : (terms : Terms) (after : List Call) (call : Call) (n : ℤ) (opens equal : Bool)
    (old new : Entries) → (opens || equal) ≡ false
    → ((more : SentEdits) → sent_by (uri_of call) call ≡ Some more
    → ChangesOne (uri_of call) (AddedBy more (kept terms (uri_of call) after)) old new)
    → KeepsBy terms after call (Reaches n opens) equal old new
keeps_added terms after call n opens equal old new is added =
    subst (λ (b : Bool). MatchBool b (Begun terms after (uri_of call) n old new)
    ((more : SentEdits) → sent_by (uri_of call) call ≡ Some more
    → ChangesOne (uri_of call) (AddedBy more (kept terms (uri_of call) after)) old new)) (sym is) added

-- a call that changes nothing sends no changes
pub sends_none : (uri : Bytes) (c : code.Call) (more : SentEdits)
    → ((encoding : Encoding) (kind : SyncKind) (u : Bor (List ℕ)) (number : ℤ)
    (cs : Bor (List Change)) → c ≡ Changes encoding kind u number cs → ⊥)
    → sent_by uri (call_view c) ≡ Some more → ⊥
sends_none uri (Changes encoding kind u number cs) more not is =
    not encoding kind u number cs refl
sends_none uri _ more not is = none-some more is
