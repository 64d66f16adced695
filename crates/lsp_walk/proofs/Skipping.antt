-- JSON that was gone past, a value, an item or a member at a time.
use Rattle.std.proofs.Common.{◌≡◌, ℕ, ◌-◌, ◌<◌, ◌≤◌, List, [], ◌∷◌, length, Option, Some, None}
use Rattle.std.proofs.Common.{true, is_some, option_map, option_and_then, refl, ap, ◌∙◌}
use Rattle.std.specs.Prelude.{unwrap_or}
use Rattle.json.specs.Token.{Token}
use Rattle.json.specs.Lex.{tokens}
use Rattle.json.specs.Json as json
use Rattle.json.specs.Json.{Parse, parse_map, after_end_array, read_key, items, members, value}
use Rattle.json.specs.Json.{if_last}
use Rattle.json.proofs.Grammar.{value-begin_array, value-begin_object, items_end}
use Rattle.json.proofs.Grammar.{items_more, members_end, members_more}
use Rattle.serde_json.specs.Data.{Data, array, object, Items, no_items, item, Members}
use Rattle.serde_json.specs.Data.{no_members, put}
use Rattle.serde_json.specs.Read.{of_json, of_items, of_members, converted, max_depth, read}

pub some_of : {A : Type 0} (o : Option A) → is_some o ≡ true → (a : A) × (o ≡ Some a)
some_of None h = absurd (cc)
some_of (Some a) h = (a, refl)

found : {B : Type 0} (r s : List Token) (x : Option B) (b : B)
    → option_map {U = B × List Token} (λ y. (y, r)) x ≡ Some (b, s) → (r ≡ s) × (x ≡ Some b)
found r s None b e = absurd (cc)
found {B = B} r s (Some y) b e =
    let same = ap (λ (o : Option (B × List Token)). unwrap_or o (y, r)) e in
    (ap (λ p. p.1) same, ap (λ p. Some p.0) same)

pub converted_some : {A B : Type 0} (f : A → Option B) (o : Option (A × List Token)) (b : B)
    (r : List Token) → converted f o ≡ Some (b, r) → (a : A) × (o ≡ Some (a, r)) × (f a ≡ Some b)
converted_some f None b r e = absurd (cc)
converted_some f (Some p) b r e =
    let both = found p.1 r (f p.0) b e in (p.0, ap (λ s. Some (p.0, s)) both.0, both.1)

twice : {A B : Type 0} (g : A → B) (r : List Token) (x : Option A)
    → option_map (λ b. (b, r)) (option_map g x) ≡ parse_map g (option_map (λ a. (a, r)) x)
twice g r None = refl
twice g r (Some a) = refl

as_array : (o : Option (json.Items × List Token))
    → converted of_json (parse_map json.array o) ≡ parse_map array (converted of_items o)
as_array None = refl
as_array (Some p) = twice array p.1 (of_items p.0)

as_object : (o : Option (json.Members × List Token))
    → converted of_json (parse_map json.object o)
    ≡ parse_map object (converted (λ ms. of_members ms no_members) o)
as_object None = refl
as_object (Some p) = twice object p.1 (of_members p.0 no_members)

with_item : (j : json.Json) (d : Data) → of_json j ≡ Some d → (o : Option (json.Items × List Token))
    → converted of_items (parse_map (json.item j) o) ≡ parse_map (item d) (converted of_items o)
with_item j d e None = refl
with_item j d e (Some p) = rw e (twice (item d) p.1 (of_items p.0))

with_member : (k : List ℕ) (j : json.Json) (d : Data) (old : Members) → of_json j ≡ Some d
    → (o : Option (json.Members × List Token))
    → converted (λ ms. of_members ms old) (parse_map (json.member k j) o)
    ≡ converted (λ ms. of_members ms (put k d old)) o
with_member k j d old e None = refl
with_member k j d old e (Some p) = rw e

-- ---- values

pub array_passed : (depth : ℕ) (ts rest : List Token) (ds : Items) → 0 < depth
    → converted of_items (items (value (depth - 1)) (length ts) ts) ≡ Some (ds, rest)
    → converted of_json (value depth (Token.begin_array ∷ ts)) ≡ Some (array ds, rest)
array_passed depth ts rest ds some read =
    ap (converted of_json) (value-begin_array depth ts some)
    ∙ as_array (items (value (depth - 1)) (length ts) ts) ∙ ap (parse_map array) read

pub object_passed : (depth : ℕ) (ts rest : List Token) (ms : Members) → 0 < depth
    → converted (λ js. of_members js no_members) (members (value (depth - 1)) (length ts) ts)
    ≡ Some (ms, rest)
    → converted of_json (value depth (Token.begin_object ∷ ts)) ≡ Some (object ms, rest)
object_passed depth ts rest ms some read =
    ap (converted of_json) (value-begin_object depth ts some)
    ∙ as_object (members (value (depth - 1)) (length ts) ts) ∙ ap (parse_map object) read

-- ---- items and members

pub parse_map-twice : {A B C : Type 0} (f : B → C) (g : A → B) (o : Option (A × List Token))
    → parse_map f (parse_map g o) ≡ parse_map (λ a. f (g a)) o
parse_map-twice f g None = refl
parse_map-twice f g (Some p) = refl

pub nothing_before : {A : Type 0} (o : Option (A × List Token)) → o ≡ parse_map (λ a. a) o
nothing_before None = refl
nothing_before (Some p) = refl

module _ (p : Parse json.Json) where
  pub item_passed : (n : ℕ) (ts r : List Token) (d : Data) → 0 < n → after_end_array ts ≡ None
      → converted of_json (p ts) ≡ Some (d, r)
      → converted of_items (items p n ts)
      ≡ parse_map (item d) (converted of_items (items p (n - 1) r))
  item_passed n ts r d some going e =
      let j = converted_some of_json (p ts) d r e in ap (converted of_items)
      (items_more p n ts r j.0 some going j.1) ∙ with_item j.0 d j.2 _

  pub items_passed : (n : ℕ) (ts r : List Token) → length ts ≤ n → after_end_array ts ≡ Some r
      → converted of_items (items p n ts) ≡ Some (no_items, r)
  items_passed n ts r enough e = ap (converted of_items) (items_end p n ts r enough e)

  pub member_passed : (old : Members) (n : ℕ) (k : List ℕ) (ts s r : List Token) (d : Data) → 0 < n
      → read_key ts ≡ Some (Some k, s) → converted of_json (p s) ≡ Some (d, r)
      → converted (λ ms. of_members ms old) (members p n ts)
      ≡ converted (λ ms. of_members ms (put k d old)) (members p (n - 1) r)
  member_passed old n k ts s r d some key e =
      let j = converted_some of_json (p s) d r e in
      ap (converted (λ ms. of_members ms old)) (members_more p n k ts s r j.0 some key j.1)
      ∙ with_member k j.0 d old j.2 _

  pub members_passed : (old : Members) (n : ℕ) (ts r : List Token) → length ts ≤ n
      → read_key ts ≡ Some (None, r)
      → converted (λ ms. of_members ms old) (members p n ts) ≡ Some (old, r)
  members_passed old n ts r enough e =
      ap (converted (λ ms. of_members ms old)) (members_end p n ts r enough e)

-- ---- the whole text

abbrev whole : Option (json.Json × List Token) → Option Data
whole o = option_and_then of_json (option_and_then (λ p. if_last p.0 p.1) o)

pub whole_passed : (text : List ℕ) (d : Data)
    → converted of_json (value max_depth (tokens text)) ≡ Some (d, []) → read text ≡ Some d
whole_passed text d e = let j = converted_some of_json (value max_depth (tokens text)) d [] e in ap
    whole j.1 ∙ j.2
