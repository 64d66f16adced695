-- What suspects make of a text, and in which encodings, as the code finds it.
use Rattle.std.specs.Borrow.{Bor}
use Rattle.std.specs.Prelude.{nat_lt, not, filter, if◌then◌else◌, length, map, MatchOption}
use Rattle.std.specs.Prelude.{option_and_then, is_some, ℤ, Result, Ok, Err}
use Rattle.std.specs.List.{prefix_len}
use Rattle.std.specs.Result.{result_ok}
use Rattle.std.proofs.Common.{◌≡◌, ◌≤◌, ◌<◌, ◌+◌, ℕ, Bool, true, false, List, [], ◌∷◌, ◌++◌, Option}
use Rattle.std.proofs.Common.{Some, None, refl, sym, ap, ◌∙◌, append-nil, append_assoc, arith, drop}
use Rattle.std.proofs.Common.{get_or, subst, suc, take}
use Rattle.std.proofs.lemmas.Bool.Decides.{nat_tests}
use Rattle.std.proofs.lemmas.List.{at_drop_more, map-append, take-map}
use Rattle.lsp_trail.specs.Common.{are_few, Call, call_view, Change, Encoding, Findings, same_text}
use Rattle.lsp_trail.specs.Common.{sent_view, SentEdits, sents_view, SyncKind, Terms, Text}
use Rattle.lsp_docs.specs.declared.call.Call as code
use Rattle.lsp_docs.specs.declared.call.Call.TheVariants.{Opens, Changes, Closes, Saves, Shows}
use Rattle.lsp_origins.specs.Fits.{AreNamed, AreSuspects, both, held_reached, if_given, if_named}
use Rattle.lsp_origins.specs.Fits.{is_given, is_given_by, is_made, is_reached, made, made_by}
use Rattle.lsp_origins.specs.Fits.{most_named, own_edits, reached, suspect_view, suspected_view}
use Rattle.lsp_origins.specs.Fits.{suspects_in, suspects_view, text_if}
use Rattle.lsp_origins.specs.declared.fits.Suspect.{Suspect}
use Rattle.lsp_origins.specs.declared.fits.Suspected.{Suspected}
use Rattle.lsp_origins.specs.declared.fits.Trial.{Trial}
use Rattle.lsp_origins.specs.declared.suspects.Until.{Until}
use Rattle.lsp_trail.specs.declared.base.SentChanges.{SentChanges}

-- ---- two encodings

given_two : (p : Encoding → Bool) (a b : Encoding)
    → (if p a then a ∷ [] else []) ++ (if p b then b ∷ [] else []) ≡ filter p (a ∷ b ∷ [])
given_two p a b = by_tests (p a) (p b)
  where
    by_tests : (x y : Bool)
        → (if x then a ∷ [] else []) ++ (if y then b ∷ [] else [])
        ≡ (if x then a ∷ (if y then b ∷ [] else []) else (if y then b ∷ [] else []))
    by_tests true y = refl
    by_tests false y = refl

-- those of two in which the suspects make a text
pub fitting_two : (trial : Trial) (sent : List SentEdits) (p : Encoding × Encoding)
    → [] ++ if_given trial sent p.0 ++ if_given trial sent p.1
    ≡ filter (is_given_by trial sent) (both p)
fitting_two trial sent p = given_two (is_given_by trial sent) p.0 p.1

-- ---- what changes make

pub made_ok : (f : Findings) (r : Result Text ℕ) (b : Bool) (u : Text) → is_some f.past_end ≡ not b
    → r ≡ Ok u → text_if b u ≡ (if is_some f.past_end then None else result_ok r)
made_ok f r b u is ok =
    by_test b (is_some f.past_end) is
    ∙ ap (λ (x : Result Text ℕ). if is_some f.past_end then None else result_ok x) (sym ok)
  where
    by_test : (x e : Bool) → e ≡ not x → text_if x u ≡ (if e then None else Some u)
    by_test true e same = sym (ap (λ (y : Bool). if y then None else Some u) same)
    by_test false e same = sym (ap (λ (y : Bool). if y then None else Some u) same)

pub made_not : (f : Findings) (r : Result Text ℕ) (u : Text) (rule : ℕ) → r ≡ Err rule
    → text_if false u ≡ (if is_some f.past_end then None else result_ok r)
made_not f r u rule fails =
    by_end (is_some f.past_end)
    ∙ ap (λ (x : Result Text ℕ). if is_some f.past_end then None else result_ok x) (sym fails)
  where
    by_end : (b : Bool) → text_if false u ≡ (if b then None else result_ok {T = Text} {E = ℕ} (Err rule))
    by_end true = refl
    by_end false = refl

-- the changes of the first one could not all be made, or not be made at all
pub made_none : (limit : ℕ) (enc : Encoding) (t u : Text) (s : SentEdits)
    (more : List SentEdits) → text_if false u ≡ made limit enc t s.edits
    → text_if false u ≡ made_by limit enc t (s ∷ more)
made_none limit enc t u s more none =
    ap (option_and_then (λ (w : Text). made_by limit enc w more)) none

-- they could be made
pub made_some : (limit : ℕ) (enc : Encoding) (t u : Text) (s : SentEdits)
    (more : List SentEdits) → text_if true u ≡ made limit enc t s.edits
    → made_by limit enc t (s ∷ more) ≡ made_by limit enc u more
made_some limit enc t u s more some =
    sym (ap (option_and_then (λ (w : Text). made_by limit enc w more)) some)

-- the text that they make is the other one, or they make none
pub given_so : (terms : Terms) (t u other : Text) (sent : List SentEdits) (enc : Encoding)
    → text_if true u ≡ made_by terms.limit enc t sent
    → same_text terms.line_ends u other ≡ is_given terms t sent other enc
given_so terms t u other sent enc some = ap (is_made terms.line_ends other) some

pub given_not : (terms : Terms) (t u other : Text) (sent : List SentEdits) (enc : Encoding)
    → text_if false u ≡ made_by terms.limit enc t sent
    → false ≡ is_given terms t sent other enc
given_not terms t u other sent enc none = ap (is_made terms.line_ends other) none

-- ---- which suspects there are

-- more than are named
too_many : (sent : List SentEdits) → 17 < length sent → if_named sent ≡ []
too_many sent many =
    ap (λ (b : Bool). if b then [] else sent) (more_so (length sent) many)
  where
    more_so : (n : ℕ) → 17 < n → nat_lt most_named n ≡ true
    more_so n many = grind (arith, nat_tests)

not_too_many : (sent : List SentEdits) → length sent ≤ 17 → if_named sent ≡ sent
not_too_many sent some =
    ap (λ (b : Bool). if b then [] else sent) (less_so (length sent) some)
  where
    less_so : (n : ℕ) → n ≤ 17 → nat_lt most_named n ≡ false
    less_so n some = grind (arith, nat_tests)

none_either : (b : Bool) (sent : List SentEdits) → sent ≡ []
    → (if b then sent else []) ≡ []
none_either true sent none = none
none_either false sent none = refl

-- there are more than are named
pub many_named : (few : Bool) (sent : List SentEdits) → 17 < length sent → AreNamed few sent None
many_named few sent many = record { is = none_either few (if_named sent) (too_many sent many) }

-- there are none, or they are not few
pub none_named : (sent : List SentEdits) → sent ≡ [] → AreNamed true sent None
none_named sent none = record { is = ap if_named none }

pub large_named : (few : Bool) (sent : List SentEdits) → few ≡ false → AreNamed few sent None
large_named few sent large = record {
  is = ap (λ (b : Bool). if b then if_named sent else []) large;
}

-- these
pub are_named : (few : Bool) (sent : List SentEdits) (s : Suspected) → few ≡ true
    → length sent ≤ 17 → (sent ≡ [] → ⊥) → suspected_view s ≡ sent → AreNamed few sent (Some s)
are_named few sent s all short some are =
    let same : (if few then if_named sent else []) ≡ sent =
    ap (λ (b : Bool). if b then if_named sent else []) all ∙ not_too_many sent short in
    record {
      is = record { are = are ∙ sym same; some = λ none. some (sym same ∙ none) };
    }

pub sents-length : (sent : List SentChanges) → length (sents_view sent) ≡ length sent
sents-length [] = refl
sents-length (s ∷ sent) = ap suc (sents-length sent)

pub not_empty : (xs : List SentEdits) (x : SentEdits) → xs ++ x ∷ [] ≡ [] → ⊥
not_empty [] x is = cc is
not_empty (y ∷ xs) x is = cc is

-- a call that changes nothing has no changes
pub own_none : (c : code.Call)
    → ((encoding : Encoding) (kind : SyncKind) (u : Bor (List ℕ)) (number : ℤ)
    (cs : Bor (List Change)) → c ≡ Changes encoding kind u number cs → ⊥)
    → own_edits (call_view c) ≡ []
own_none (Opens u number text) not = refl
own_none (Changes encoding kind u number cs) not = absurd (not encoding kind u number cs refl)
own_none (Closes u) not = refl
own_none (Saves u text) not = refl
own_none (Shows u number text) not = refl

-- those of earlier messages alone
pub suspects_alone : (limit : Until) (sent : List SentEdits) (call : Call) (o : Option Suspected)
    → own_edits call ≡ [] → are_few sent ≡ true → AreNamed true (reached limit sent) o
    → MatchOption o (suspects_in limit sent call ≡ []) (AreSuspects (suspects_in limit sent call))
suspects_alone limit sent call o none few named =
    let same : if_named (reached limit sent) ≡ suspects_in limit sent call =
    sym (ap (λ (es : List SentEdits). if are_few (sent ++ es)
    then if_named (reached limit sent ++ es) else []) none
    ∙ ap (λ (es : List SentEdits). if are_few es
    then if_named (reached limit sent ++ []) else []) (append-nil sent)
    ∙ ap (λ (b : Bool). if b then if_named (reached limit sent ++ []) else []) few
    ∙ ap if_named (append-nil (reached limit sent))) in
    subst (λ (es : List SentEdits). MatchOption o (es ≡ []) (AreSuspects es)) same named.is

-- from this one on
pub suspects_from : (suspects : List Suspect) (i : ℕ) (s : Suspect) → i < length suspects
    → s ≡ get_or suspects i s
    → suspects_view (drop i suspects) ≡ suspect_view s ∷ suspects_view (drop (i + 1) suspects)
suspects_from suspects i s lt is =
    at_drop_more (λ (l : List Suspect). suspects_view l) suspects i s lt
    ∙ ap (λ (x : Suspect). suspect_view x ∷ suspects_view (drop (i + 1) suspects)) (sym is)

pub sents_from : (sent : List SentChanges) (i : ℕ) (s : SentChanges) → i < length sent
    → s ≡ get_or sent i s
    → sents_view (drop i sent) ≡ sent_view s ∷ sents_view (drop (i + 1) sent)
sents_from sent i s lt is =
    at_drop_more (λ (l : List SentChanges). sents_view l) sent i s lt
    ∙ ap (λ (x : SentChanges). sent_view x ∷ sents_view (drop (i + 1) sent)) (sym is)

-- one more of them, as it is listed
pub one_listed : (done : List Suspect) (s : Suspect) (all here more : List SentEdits)
    → suspects_view done ++ here ≡ all → here ≡ suspect_view s ∷ more
    → suspects_view (done ++ s ∷ []) ++ more ≡ all
one_listed done s all here more is next =
    ap (λ (l : List SentEdits). l ++ more) (map-append suspect_view done (s ∷ []))
    ∙ append_assoc (suspects_view done) (suspect_view s ∷ []) more
    ∙ ap (λ (l : List SentEdits). suspects_view done ++ l) (sym next) ∙ is

pub prefix_len-map : {X Y : Type 0} (f : X → Y) (p : Y → Bool) (xs : List X)
    → prefix_len p (map f xs) ≡ prefix_len (λ x. p (f x)) xs
prefix_len-map f p [] = refl
prefix_len-map f p (x ∷ xs) = ap (λ n. if p (f x) then 1 + n else 0) (prefix_len-map f p xs)

-- those up to a version
pub reached_view : (limit : Until) (sent : List SentChanges)
    → sents_view (held_reached limit sent) ≡ reached limit (sents_view sent)
reached_view limit sent =
    sym (take-map sent_view (prefix_len (λ (s : SentChanges). is_reached limit (sent_view s)) sent) sent)
    ∙ ap (λ n. take n (sents_view sent)) (sym (prefix_len-map sent_view (is_reached limit) sent))

-- none or some
pub no_sents : (sent : List SentChanges) → length sent ≡ 0 → sents_view sent ≡ []
no_sents [] none = refl
no_sents (s ∷ sent) none = absurd (omega arith)

pub some_sents : (sent : List SentChanges) → 0 < length sent → sents_view sent ≡ [] → ⊥
some_sents [] some none = omega arith
some_sents (s ∷ sent) some none = cc none
