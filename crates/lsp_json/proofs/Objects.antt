-- Lines that become objects, one after another.
use Rattle.std.specs.Prelude.{not}
use Rattle.std.proofs.Common.{◌≡◌, ℕ, ◌+◌, ◌<◌, ◌≤◌, Bool, List, ◌∷◌, ◌++◌, length, drop, get_or, sym, ap}
use Rattle.std.proofs.Common.{◌∙◌, append_assoc}
use Rattle.std.proofs.lemmas.List.{at_drop_more, drop_all}
use Rattle.lsp_json.specs.Lines.{Row, awaits_text, end_unless, json_from, line_by}

-- one more of these lines
pub line_added : (table : List Row) (lines : List (List ℕ)) (n : ℕ) (line : List ℕ) (is_text awaits : Bool)
    (all old new : List ℕ) → n < length lines → line ≡ get_or lines n line
    → old ++ json_from table is_text (drop n lines) ≡ all
    → new ≡ old ++ line_by table is_text line → awaits ≡ awaits_text table is_text line
    → new ++ json_from table awaits (drop (n + 1) lines) ≡ all
line_added table lines n line is_text awaits all old new within is so_far added next =
    let rest = drop (n + 1) lines in
    let here : drop n lines ≡ line ∷ rest =
    at_drop_more (λ (w : List (List ℕ)). w) lines n line within
    ∙ ap (λ (w : List ℕ). w ∷ rest) (sym is) in
    ap (λ w. w ++ json_from table awaits rest) added
    ∙ append_assoc old (line_by table is_text line) (json_from table awaits rest)
    ∙ ap (λ (b : Bool). old ++ (line_by table is_text line ++ json_from table b rest)) next
    ∙ ap (λ (w : List (List ℕ)). old ++ json_from table is_text w) (sym here)
    ∙ so_far

-- and no more
pub lines_ended : (table : List Row) (lines : List (List ℕ)) (n : ℕ) (is_text : Bool) (all old new : List ℕ)
    → length lines ≤ n → old ++ json_from table is_text (drop n lines) ≡ all
    → new ≡ old ++ end_unless (not is_text) → new ≡ all
lines_ended table lines n is_text all old new past so_far added =
    added
    ∙ ap (λ (w : List (List ℕ)). old ++ json_from table is_text w) (sym (drop_all n lines past))
    ∙ so_far
