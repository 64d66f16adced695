-- What is shown of lists, one item after another.
use Rattle.std.proofs.Common.{◌≡◌, ℕ, ◌+◌, ◌<◌, List, [], ◌∷◌, ◌++◌, map, length, take}
use Rattle.std.proofs.Common.{get_or, Option, Some, None, option_map, String, Global, string_bytes}
use Rattle.std.proofs.Common.{refl, rules, sym, ap, subst, ◌∙◌}
use Rattle.std.specs.Borrow.{Bor}
use Rattle.std.specs.Option.{option_copied}
use Rattle.std.specs.Prelude.{not}
use Rattle.std.proofs.lemmas.List.{map-append, take_more}
use Rattle.std.proofs.lemmas.List.Elements.{filter-append}
use Rattle.serde_json.specs.Data.{Data, null, string}
use Rattle.serde_json.specs.View.{view}
use Rattle.serde_json.specs.declared.value.Value.{Null, Value, the_lemmas}
use Rattle.lsp_rpc.specs.Act.{Text}
use Rattle.lsp_rpc.specs.View.{change_view, changes_view, texts_view}
use Rattle.lsp_types.specs.declared.change.Change as code
use Rattle.lsp_redact.specs.Messages.{change_data, encoding_data, registration_data}
use Rattle.lsp_redact.specs.Messages.{registration_of, text_data}
use Rattle.lsp_redact.specs.Names.{Names, encoding_names, is_encoding, is_known, joined, method_names}
use Rattle.lsp_redact.specs.Names.{no_names, shown_encoding, shown_method, written_encoding}
use Rattle.lsp_redact.specs.Names.{written_method}
use Rattle.lsp_redact.specs.Naming.{Shows, Writes}
use Rattle.lsp_redact.specs.Shown.{shown_change}
use Rattle.lsp_redact.specs.declared.names.Names as names
use Rattle.lsp_redact.specs.declared.redaction.Redaction.{Redaction}
use Rattle.lsp_redact.proofs.Showing.{shows_made, writes_both}

pub view-Null : view Null ≡ null
view-Null = search (rules, the_lemmas)

lent_read : {D R : Type 0} (f : D → R) (r : Option (Bor D))
    → option_map (λ x. f x.now) r ≡ option_map f (option_copied r)
lent_read f None = refl
lent_read f (Some x) = refl

-- what is lent is there
pub lent : {D R : Type 0} (f : D → R) (r : Option (Bor D)) (o : Option D) → option_copied r ≡ o
    → option_map (λ x. f x.now) r ≡ option_map f o
lent f r o is = lent_read f r ∙ ap (option_map f) is

-- ---- changes

pub changes_more : (apart : Option ℕ) (cs : List code.Change) (i : ℕ) (change : code.Change)
    (shown more : List Value) (value : Value) → i < length cs → change ≡ get_or cs i change
    → map view shown ≡ map change_data (map (shown_change apart) (changes_view (take i cs)))
    → more ≡ shown ++ value ∷ [] → view value ≡ change_data (shown_change apart (change_view change))
    → map view more
    ≡ map change_data (map (shown_change apart) (changes_view (take (i + 1) cs)))
changes_more apart cs i change shown more value lt is before added own =
    let all : List code.Change → List Data =
    λ xs. map change_data (map (shown_change apart) (changes_view xs)) in
    let one : code.Change → Data = λ x. change_data (shown_change apart (change_view x)) in
    let taken : take (i + 1) cs ≡ take i cs ++ change ∷ [] =
    take_more cs i change lt ∙ ap (λ (x : code.Change). take i cs ++ x ∷ []) (sym is) in
    let parts : all (take i cs ++ change ∷ []) ≡ all (take i cs) ++ one change ∷ [] =
    ap (λ ys. map change_data (map (shown_change apart) ys))
    (map-append change_view (take i cs) (change ∷ []))
    ∙ ap (map change_data) (map-append (shown_change apart) (changes_view (take i cs))
    (change_view change ∷ []))
    ∙ map-append change_data (map (shown_change apart) (changes_view (take i cs)))
    (shown_change apart (change_view change) ∷ []) in
    ap (map view) added ∙ map-append view shown (value ∷ [])
    ∙ (λ j. before j ++ own j ∷ [])
    ∙ sym (ap all taken ∙ parts)

-- ---- texts

texts_more : (texts : List (String Global)) (i : ℕ) (text : String Global) → i < length texts
    → text ≡ get_or texts i text
    → texts_view (take (i + 1) texts) ≡ texts_view (take i texts) ++ string_bytes text ∷ []
texts_more texts i text lt is =
    ap texts_view (take_more texts i text lt
    ∙ ap (λ (x : String Global). take i texts ++ x ∷ []) (sym is))
    ∙ map-append (λ s. string_bytes s) (take i texts) (text ∷ [])

-- ---- texts of one sort, as names and as values

module _ (of : List Text → Names) (made : Names → List Text → List Data) (one : Names → Text → Data)
    (of_more : (xs : List Text) (x : Text) → of (xs ++ x ∷ []) ≡ joined (of xs) (of (x ∷ [])))
    (made_more : (n : Names) (xs : List Text) (x : Text)
    → made n (xs ++ x ∷ []) ≡ made n xs ++ one n x ∷ []) where
  written_more : (texts : List (String Global)) (i : ℕ) (text : String Global)
      (old mid new : Redaction) (shown more : List Value) (value : Value) → i < length texts
      → text ≡ get_or texts i text
      → Writes old mid (of (texts_view (take i texts))) (λ n. made n (texts_view (take i texts)))
      (map view shown)
      → Writes mid new (of (string_bytes text ∷ [])) (λ n. one n (string_bytes text)) (view value)
      → more ≡ shown ++ value ∷ []
      → Writes old new (of (texts_view (take (i + 1) texts)))
      (λ n. made n (texts_view (take (i + 1) texts))) (map view more)
  written_more texts i text old mid new shown more value lt is before own added =
      let xs : List Text = texts_view (take i texts) in
      let x : Text = string_bytes text in
      let both : Writes old new (joined (of xs) (of (x ∷ [])))
      (λ n. made n xs ++ one n x ∷ []) (map view more) =
      writes_both (λ (ds : List Data) (d : Data). ds ++ d ∷ []) (map view more)
      (ap (map view) added ∙ map-append view shown (value ∷ [])) before own in
      let whole : Writes old new (of (xs ++ x ∷ [])) (λ n. made n (xs ++ x ∷ [])) (map view more) =
      subst (λ (f : Names → List Data). Writes old new (of (xs ++ x ∷ [])) f (map view more))
      (λ j n. sym (made_more n xs x) j)
      (subst (λ (a : Names). Writes old new a (λ n. made n xs ++ one n x ∷ []) (map view more))
      (sym (of_more xs x)) both) in
      subst (λ (ys : List Text). Writes old new (of ys) (λ n. made n ys) (map view more))
      (sym (texts_more texts i text lt is)) whole

-- ---- the names of encodings

encoding_names-more : (xs : List Text) (x : Text)
    → encoding_names (xs ++ x ∷ []) ≡ joined (encoding_names xs) (encoding_names (x ∷ []))
encoding_names-more xs x =
    ap (λ (ns : List Text). record no_names { encodings = ns })
    (filter-append (λ n. not (is_encoding n)) xs (x ∷ []))

encodings_made : (n : Names) (xs : List Text) (x : Text)
    → map encoding_data (map (shown_encoding n) (xs ++ x ∷ []))
    ≡ map encoding_data (map (shown_encoding n) xs) ++ encoding_data (shown_encoding n x) ∷ []
encodings_made n xs x =
    ap (map encoding_data) (map-append (shown_encoding n) xs (x ∷ []))
    ∙ map-append encoding_data (map (shown_encoding n) xs) (shown_encoding n x ∷ [])

pub encodings_more : (texts : List (String Global)) (i : ℕ) (text : String Global)
    (old mid : Redaction) (after : names.Names) (shown more : List Value) (name : String Global)
    (value : Value) → i < length texts → text ≡ get_or texts i text
    → Writes old mid (encoding_names (texts_view (take i texts)))
    (λ n. map encoding_data (map (shown_encoding n) (texts_view (take i texts)))) (map view shown)
    → Shows mid.names after (encoding_names (string_bytes text ∷ []))
    (λ n. written_encoding (shown_encoding n (string_bytes text))) (string_bytes name)
    → view value ≡ string (string_bytes name) → more ≡ shown ++ value ∷ []
    → Writes old (record mid { names = after }) (encoding_names (texts_view (take (i + 1) texts)))
    (λ n. map encoding_data (map (shown_encoding n) (texts_view (take (i + 1) texts))))
    (map view more)
encodings_more texts i text old mid after shown more name value lt is before own value_is added =
    written_more encoding_names (λ n xs. map encoding_data (map (shown_encoding n) xs))
    (λ n x. encoding_data (shown_encoding n x)) encoding_names-more encodings_made texts i text old mid
    (record mid { names = after }) shown more value lt is before
    (record { same = refl; shows = shows_made text_data (view value) value_is own }) added

-- ---- methods

method_names-more : (xs : List Text) (x : Text)
    → method_names (xs ++ x ∷ []) ≡ joined (method_names xs) (method_names (x ∷ []))
method_names-more xs x =
    ap (λ (ns : List Text). record no_names { methods = ns })
    (filter-append (λ m. not (is_known m)) xs (x ∷ []))

methods_made : (n : Names) (xs : List Text) (x : Text)
    → map registration_data (map (shown_method n) (xs ++ x ∷ []))
    ≡ map registration_data (map (shown_method n) xs) ++ registration_data (shown_method n x) ∷ []
methods_made n xs x =
    ap (map registration_data) (map-append (shown_method n) xs (x ∷ []))
    ∙ map-append registration_data (map (shown_method n) xs) (shown_method n x ∷ [])

pub registrations_more : (texts : List (String Global)) (i : ℕ) (text : String Global)
    (old mid : Redaction) (after : names.Names) (shown more : List Value) (name : String Global)
    (value : Value) → i < length texts → text ≡ get_or texts i text
    → Writes old mid (method_names (texts_view (take i texts)))
    (λ n. map registration_data (map (shown_method n) (texts_view (take i texts))))
    (map view shown)
    → Shows mid.names after (method_names (string_bytes text ∷ []))
    (λ n. written_method (shown_method n (string_bytes text))) (string_bytes name)
    → view value ≡ registration_of (string_bytes name) → more ≡ shown ++ value ∷ []
    → Writes old (record mid { names = after }) (method_names (texts_view (take (i + 1) texts)))
    (λ n. map registration_data (map (shown_method n) (texts_view (take (i + 1) texts))))
    (map view more)
registrations_more texts i text old mid after shown more name value lt is before own value_is added =
    written_more method_names (λ n xs. map registration_data (map (shown_method n) xs))
    (λ n x. registration_data (shown_method n x)) method_names-more methods_made texts i text old
    mid (record mid { names = after }) shown more value lt is before
    (record { same = refl; shows = shows_made registration_of (view value) value_is own }) added
