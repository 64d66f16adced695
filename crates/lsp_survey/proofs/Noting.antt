-- Which documents are noted as lost, with one more of them, and after one more event.
use Rattle.std.proofs.Common.{◌≡◌, ℕ, Bool, true, false, List, Option, inl, inr, refl, sym, ap, ◌∙◌}
use Rattle.std.proofs.Common.{Global, Some, None, true≢false}
use Rattle.std.specs.Prelude.{if◌then◌else◌, unwrap_or, Vec, is_some}
use Rattle.std.specs.Str.{bytes_eq}
use Rattle.std.proofs.lemmas.Bool.{cases_Bool}
use Rattle.lsp_docs.proofs.Words.{uri_is, uri_same}
use Rattle.lsp_replay.specs.Common.{Call, folded, uri_of}
use Rattle.lsp_verdict.specs.Offences.{renews, left_lost}
use Rattle.lsp_survey.specs.Notes.{AreAfter, Leaves, PutsSpelling, Sets, is_noted}
use Rattle.lsp_survey.specs.Notes.{lost_among, spelling_in}
use Rattle.lsp_survey.specs.declared.notes.note.Spelling.{Spelling}

-- ---- choices

pub if_same : {A : Type 0} (b : Bool) (x : A) → (if b then x else x) ≡ x
if_same true x = refl
if_same false x = refl

pub if_some : (b : Bool) (n : ℕ) → is_some (if b then Some n else None) ≡ b
if_some true n = refl
if_some false n = refl

-- ---- what is noted of a spelling

module _ (uri : List ℕ) (lost : Bool) (key : List ℕ) (own : key ≡ folded uri)
    (old new : List (Vec ℕ Global × Spelling)) where
  -- what is noted of it is now so, and of all others as it was
  pub sets_by : (noted : Option Spelling)
      → ((u : List ℕ) → lost_among noted u
      ≡ (if bytes_eq uri u then lost else lost_among (spelling_in old key) u))
      → PutsSpelling key noted old new → Sets uri lost old new
  sets_by noted own_set put u =
      elim (cases_Bool (bytes_eq key (folded u))) [
        | inl p ↦
            ap (λ (o : Option Spelling). lost_among o u) (put (folded u)
            ∙ ap (λ (b : Bool). if b then noted else spelling_in old (folded u)) p)
            ∙ own_set u
            ∙ ap (λ (k : List ℕ). if bytes_eq uri u then lost
            else lost_among (spelling_in old k) u) (uri_is key (folded u) p)
        | inr p ↦
            ap (λ (o : Option Spelling). lost_among o u) (put (folded u)
            ∙ ap (λ (b : Bool). if b then noted else spelling_in old (folded u)) p)
            ∙ sym (ap (λ (b : Bool). if b then lost else is_noted old u) (other u p))
      ]
    where
      other : (u : List ℕ) → bytes_eq key (folded u) ≡ false → bytes_eq uri u ≡ false
      other u p =
          elim (cases_Bool (bytes_eq uri u)) [
            | inl q ↦ absurd (true≢false (sym (uri_same (folded u))
                ∙ ap (λ (k : List ℕ). bytes_eq k (folded u))
                (sym (own ∙ ap folded (uri_is uri u q))) ∙ p))
            | inr q ↦ q
          ]

-- what was taken away is put back
pub put_back : (key : List ℕ) (noted : Option Spelling)
    (old mid new : List (Vec ℕ Global × Spelling)) → PutsSpelling key None old mid
    → PutsSpelling key noted mid new → PutsSpelling key noted old new
put_back key noted old mid new taken put k =
    put k ∙ ap (λ (o : Option Spelling). if bytes_eq key k then noted else o) (taken k)
    ∙ by_test (bytes_eq key k)
  where
    by_test : (b : Bool) → (if b then noted else (if b then None else spelling_in old k))
        ≡ (if b then noted else spelling_in old k)
    by_test true = refl
    by_test false = refl

-- ---- one more event

-- it says nothing of a document
pub nothing_said : (rule : Option ℕ) (other : Bool) (notes : List (Vec ℕ Global × Spelling))
    → Leaves rule None other None notes notes
nothing_said rule other notes uri = refl

-- it leaves all notes as they are
pub notes_stay : (call : Call) (notes : List (Vec ℕ Global × Spelling))
    → left_lost None false call ≡ None → AreAfter (Some call) notes notes
notes_stay call notes stays uri =
    sym (ap (λ (o : Option Bool). unwrap_or (if bytes_eq uri (uri_of call) then o else None)
    (is_noted notes uri)) stays
    ∙ ap (λ o. unwrap_or o (is_noted notes uri)) (if_same (bytes_eq uri (uri_of call)) None))

pub kept_leaves : (call : Call) → renews call ≡ false → left_lost None false call ≡ None
kept_leaves call is = ap (λ (b : Bool). if b then Some false else None) is
