-- What one more call does to what is held.
use Rattle.std.proofs.Common.{◌≡◌, ℕ, Bool, true, false, ◌||◌, List, [], ◌∷◌, ◌++◌, refl, ap, ◌∙◌}
use Rattle.std.proofs.Common.{Option, Some, None}
use Rattle.std.specs.Prelude.{if◌then◌else◌, option_map, ℤ}
use Rattle.std.specs.Str.{bytes_eq}
use Rattle.std.specs.Option.{option_or}
use Rattle.std.specs.List.{list_any}
use Rattle.std.proofs.lemmas.List.Folds.{list_any-append}
use Rattle.lsp_docs.specs.Documents.{Terms, Version, versioned, opening, revised, revised_by}
use Rattle.lsp_docs.specs.Documents.{held_since, held}
use Rattle.lsp_docs.specs.Calls.{Bytes, Call, opens, changes, closes, saves, shows, is_close}

-- what is held after one more call
abbrev pub next_held : Terms → Bytes → Option Version → Call → Option Version
next_held terms uri h c =
    if is_close uri c then None else option_or (option_map (λ v. revised terms uri v c) h)
    (opening uri c)

revised_by-snoc : (terms : Terms) (uri : Bytes) (v : Version) (cs : List Call) (c : Call)
    → revised_by terms uri v (cs ++ c ∷ []) ≡ revised terms uri (revised_by terms uri v cs) c
revised_by-snoc terms uri v [] c = refl
revised_by-snoc terms uri v (d ∷ cs) c = revised_by-snoc terms uri (revised terms uri v d) cs c

-- an opening's version after one more call, which may close it
abbrev pub since : Terms → Bytes → Option Version → Bool → Call → Option Version
since terms uri h close c = if close then None else option_map (λ v. revised terms uri v c) h

since_one : (terms : Terms) (uri : Bytes) (v : Version) (after : List Call) (c : Call)
    (closed close : Bool)
    → (if closed || (close || false) then None else Some (revised_by terms uri v (after ++ c ∷ [])))
    ≡ since terms uri (if closed then None else Some (revised_by terms uri v after)) close c
since_one terms uri v after c true true = refl
since_one terms uri v after c false false = ap (λ w. Some w) (revised_by-snoc terms uri v after c)
since_one terms uri v after c _ _ = refl

pub held_since-snoc : (terms : Terms) (uri : Bytes) (after : List Call) (c : Call)
    (o : Option Version) → held_since terms uri (after ++ c ∷ []) o
    ≡ since terms uri (held_since terms uri after o) (is_close uri c) c
held_since-snoc terms uri after c None = none_since (is_close uri c)
  where
    none_since : (b : Bool) → None ≡ since terms uri None b c
    none_since true = refl
    none_since false = refl
held_since-snoc terms uri after c (Some v) =
    ap (λ b. if b then None else Some (revised_by terms uri v (after ++ c ∷ [])))
    (list_any-append (is_close uri) after (c ∷ []))
    ∙ since_one terms uri v after c (list_any (is_close uri) after) (is_close uri c)

joins : (terms : Terms) (uri : Bytes) (a b o : Option Version) (close : Bool) (c : Call)
    → option_or (since terms uri a close c)
    (if close then None else option_or (option_map (λ v. revised terms uri v c) b) o)
    ≡ (if close then None else option_or (option_map (λ v. revised terms uri v c) (option_or a b))
    o)
joins terms uri None b o true c = refl
joins terms uri (Some v) b o true c = refl
joins terms uri None b o false c = refl
joins terms uri (Some v) b o false c = refl

either : (b : Bool) (o : Option Version) → o ≡ (if b then o else o)
either true o = refl
either false o = refl

no_close : (terms : Terms) (uri : Bytes) (c : Call)
    → option_or (held_since terms uri [] (opening uri c)) None ≡ next_held terms uri None c
no_close terms uri (opens u n t) = same (bytes_eq uri u) n t
  where
    same : (b : Bool) (n : ℤ) (t : List ℕ)
        → option_or (held_since terms uri [] (if b then Some (versioned n t) else None)) None
        ≡ option_or None (if b then Some (versioned n t) else None)
    same true n t = refl
    same false n t = refl
no_close terms uri (closes u) = either (bytes_eq uri u) None
no_close terms uri _ = refl

-- **One more call** opens, changes or closes
pub held-snoc : (terms : Terms) (uri : Bytes) (cs : List Call) (c : Call)
    → held terms uri (cs ++ c ∷ []) ≡ next_held terms uri (held terms uri cs) c
held-snoc terms uri [] c = no_close terms uri c
held-snoc terms uri (d ∷ cs) c =
    ap (λ o. option_or o (held terms uri (cs ++ c ∷ [])))
    (held_since-snoc terms uri cs c (opening uri d))
    ∙ ap (option_or (since terms uri (held_since terms uri cs (opening uri d)) (is_close uri c) c))
    (held-snoc terms uri cs c)
    ∙ joins terms uri (held_since terms uri cs (opening uri d)) (held terms uri cs) (opening uri c)
    (is_close uri c) c
