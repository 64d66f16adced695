-- Words on lists whose elements are judged by what comes before them.
use Rattle.std.specs.Prelude.{List, [], ◌∷◌, ◌++◌, Option, None}
use Rattle.std.specs.Option.{option_or}
use Rattle.std.specs.List.{cons_option}

-- what `f` gives of an element and those before it, at the first element where it gives something
abbrev pub first_from : {A X : Type 0} → (List A → A → Option X) → List A → List A → Option X
first_from f before [] = None
first_from f before (x ∷ after) = option_or (f before x) (first_from f (before ++ x ∷ []) after)

abbrev pub first_of : {A X : Type 0} → (List A → A → Option X) → List A → Option X
first_of f xs = first_from f [] xs

-- what `f` gives of each element and those before it
abbrev pub each_from : {A X : Type 0} → (List A → A → Option X) → List A → List A → List X
each_from f before [] = []
each_from f before (x ∷ after) = cons_option (f before x) (each_from f (before ++ x ∷ []) after)

abbrev pub each_of : {A X : Type 0} → (List A → A → Option X) → List A → List X
each_of f xs = each_from f [] xs
