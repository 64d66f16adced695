-- Which snapshots were not compared, with one event more.
use Rattle.std.specs.Prelude.{if◌then◌else◌, option_and_then, reverse}
use Rattle.std.specs.List.{cons_option, find}
use Rattle.std.specs.Str.{bytes_eq}
use Rattle.std.proofs.Common.{◌≡◌, Bool, true, false, List, [], ◌∷◌, ◌++◌, Option, Some, None}
use Rattle.std.proofs.Common.{refl, ap, ◌∙◌, append-nil, sym}
use Rattle.std.proofs.lemmas.List.{reverse-append}
use Rattle.lsp_docs.specs.Calls.{Bytes}
use Rattle.lsp_trail.specs.Uncompared.{LeftOf, is_left_of, last_left, left_on}

-- this is left behind the others
pub left_more : (uri : Bytes) (all : List LeftOf) (o : Option LeftOf)
    → left_on o uri (last_left uri all) ≡ last_left uri (all ++ cons_option o [])
left_more uri all None = ap (last_left uri) (sym (append-nil all))
left_more uri all (Some l) =
    by_uri (bytes_eq l.uri uri)
    ∙ ap (λ xs. option_and_then (λ (m : LeftOf). m.shown) (find (is_left_of uri) xs))
    (sym (reverse-append all (l ∷ [])))
  where
    by_uri : (b : Bool)
        → (if b then l.shown else last_left uri all)
        ≡ option_and_then (λ (m : LeftOf). m.shown)
        (if b then Some l else find (is_left_of uri) (reverse all))
    by_uri true = refl
    by_uri false = refl
