-- As many names as fit.
use Rattle.std.proofs.Common.{◌≡◌, ℕ, ◌-◌, [], ◌∷◌, ◌++◌, List, length, take, sym, ap, ◌∙◌, string_bytes}
use Rattle.std.specs.Prelude.{String, codes}
use Rattle.std.specs.Global.{Global}
use Rattle.std.specs.List.{flat_map}
use Rattle.std.proofs.lemmas.List.{length-map, take-map}
use Rattle.json.specs.Print.{quoted}
use Rattle.lsp_replay.specs.Common.{Text, texts_view}
use Rattle.lsp_facts.specs.Fact.{Fact, more_words, spaced}
use Rattle.lsp_facts.specs.EventFacts.{names_fitting, offer_fact, offered_bytes}

-- the first names, and how many more there are
abbrev pub offers : List Text → ℕ → Fact
offers names more =
    codes "offered" ++ flat_map (λ name. spaced (quoted name)) names ++ more_words more ++ 10 ∷ []

abbrev bytes_of : String Global → List ℕ
bytes_of s = string_bytes s

pub offer_is : (names : List (String Global)) (n : ℕ) (words : List ℕ)
    → n ≡ names_fitting offered_bytes (texts_view names)
    → words ≡ codes "offered" ++ flat_map (λ name. spaced (quoted name)) (texts_view (take n names))
    ++ more_words (length names - n)
    → words ++ 10 ∷ [] ≡ offer_fact (texts_view names)
offer_is names n words count is =
    ap (λ (w : List ℕ). w ++ 10 ∷ []) is
    ∙ ap (λ (l : List Text). offers l (length names - n)) (sym (take-map bytes_of n names))
    ∙ ap (λ (k : ℕ). offers (take n (texts_view names)) (k - n)) (sym (length-map names bytes_of))
    ∙ ap (λ (k : ℕ). offers (take k (texts_view names)) (length (texts_view names) - k)) count
