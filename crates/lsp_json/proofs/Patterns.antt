-- The first field of a pattern, and the fields behind it.
use Rattle.std.specs.Prelude.{◌&&◌, flat_map}
use Rattle.std.specs.Borrow.{Bor}
use Rattle.std.proofs.Common.{◌≡◌, ◌∙◌, ◌==◌, ℕ, Bool, true, false, List, [], ◌∷◌, ◌++◌, length, map}
use Rattle.std.proofs.Common.{append_assoc, append-nil, ap, arith, refl, sym}
use Rattle.std.proofs.lemmas.Bool.{eqb-true}
use Rattle.std.proofs.lemmas.Grind.{flat_map-append}
use Rattle.lsp_json.specs.Fields.{Field, behind, fit, is_none, own, suits, word_view}
use Rattle.lsp_json.specs.Members.{Member, member, members, members_of}
use Rattle.lsp_json.specs.Words.{Words}

-- whether words are left
pub none_left : (words : List (Bor (List ℕ)))
    → (length words == 0) ≡ is_none (map word_view words)
none_left [] = refl
none_left (word ∷ words) = by_test (length (word ∷ words) == 0) refl
  where
    by_test : (b : Bool) → (length (word ∷ words) == 0) ≡ b
        → (length (word ∷ words) == 0) ≡ false
    by_test true is =
        let none : length (word ∷ words) ≡ 0 = eqb-true (length (word ∷ words)) 0 is in
        absurd (omega (arith, none))
    by_test false is = is

-- of these fields the first one takes these words, and those are left
module _ (fields others : List Field) (field : Field) (words taken left : Words)
    (are : fields ≡ field ∷ others) (takes : taken ≡ own field words)
    (leaves : left ≡ behind field words) where
  -- whether they fit
  fit_first : (suited : Bool) → suited ≡ suits field taken
      → fit fields words ≡ (suited && fit others left)
  fit_first suited is =
      ap (λ (w : List Field). fit w words) are
      ∙ ap (λ (w : Words). suits field w && fit others (behind field words)) (sym takes)
      ∙ ap (λ (w : Words). suits field taken && fit others w) (sym leaves)
      ∙ ap (λ (b : Bool). b && fit others left) (sym is)

  pub fit_not : (suited : Bool) → suited ≡ suits field taken → suited ≡ false
      → false ≡ fit fields words
  fit_not suited is unfit =
      sym (fit_first suited is ∙ ap (λ (b : Bool). b && fit others left) unfit)

  pub fit_on : (suited : Bool) → suited ≡ suits field taken → suited ≡ true
      → fit others left ≡ fit fields words
  fit_on suited is well =
      sym (fit_first suited is ∙ ap (λ (b : Bool). b && fit others left) well)

  -- the members of them all
  members_first : members_of fields words ≡ members field taken ++ members_of others left
  members_first =
      ap (λ (w : List Field). members_of w words) are
      ∙ ap (λ (w : Words). members field w ++ members_of others (behind field words)) (sym takes)
      ∙ ap (λ (w : Words). members field taken ++ members_of others w) (sym leaves)

  pub members_on : (old mid new : List ℕ) → mid ≡ old ++ flat_map member (members field taken)
      → new ≡ mid ++ flat_map member (members_of others left)
      → new ≡ old ++ flat_map member (members_of fields words)
  members_on old mid new first later =
      let front = flat_map member (members field taken) in
      let back = flat_map member (members_of others left) in
      later ∙ ap (λ (w : List ℕ). w ++ back) first ∙ append_assoc old front back
      ∙ ap (λ (w : List ℕ). old ++ w)
      (sym (flat_map-append member (members field taken) (members_of others left)))
      ∙ ap (λ (w : List Member). old ++ flat_map member w) (sym members_first)

-- where there is no other field
pub members_last : (fields : List Field) (field : Field) (words taken : Words)
    → fields ≡ field ∷ [] → taken ≡ own field words
    → (old new : List ℕ) → new ≡ old ++ flat_map member (members field taken)
    → new ≡ old ++ flat_map member (members_of fields words)
members_last fields field words taken are takes old new added =
    members_on fields [] field words taken (behind field words) are takes refl old new new added
    (sym (append-nil new))
