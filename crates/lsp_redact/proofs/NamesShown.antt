-- What one name is shown by: the number that is given to it.
use Rattle.std.proofs.Common.{◌≡◌, ℕ, ◌+◌, Bool, true, false, cond, List, [], ◌∷◌, ◌++◌, decimal, refl}
use Rattle.std.proofs.Common.{sym, ap, subst}
use Rattle.std.proofs.Common.{◌∙◌, get_or, true≢false, append_assoc, append-nil}
use Rattle.std.specs.List.{list_any}
use Rattle.std.specs.Prelude.{codes, if◌then◌else◌, not, suc, ◌||◌}
use Rattle.std.specs.Str.{bytes_eq}
use Rattle.std.proofs.lemmas.Slice.Eq.{bytes_eq-Decides}
use Rattle.lsp_rpc.specs.Act.{Text}
use Rattle.lsp_redact.specs.Names.{Names, distinct, known_encodings, known_methods, name_at, name_by}
use Rattle.lsp_redact.specs.Names.{no_names, number_of, place_in, uri_names, uri_of, written_encoding}
use Rattle.lsp_redact.specs.Names.{written_method, written_uri}
use Rattle.lsp_redact.specs.Naming.{Shows, Stands}
use Rattle.lsp_redact.specs.declared.names.Names as code
use Rattle.lsp_redact.proofs.Showing.{joined-none}

-- one more name of a sort was seen
abbrev HasSeen : List Text → List Text → Text → Type 0
HasSeen old new name =
    (names : List Text) → old ≡ distinct names → new ≡ distinct (names ++ name ∷ [])

-- and this is its number, whatever names come after it
abbrev HasNumber : List Text → Text → ℕ → Type 0
HasNumber old name number = (names more : List Text) → old ≡ distinct names
    → number ≡ number_of (names ++ name ∷ more) name

number_in : (old : List Text) (name : Text) (number : ℕ) (names more whole : List Text)
    → HasNumber old name number → old ≡ distinct names → whole ≡ (names ++ name ∷ []) ++ more
    → number ≡ number_of whole name
number_in old name number names more whole counts stands is =
    counts names more stands
    ∙ ap (λ (ns : List Text). number_of ns name) (sym (is ∙ append_assoc names (name ∷ []) more))

unchanged : (old names : List Text) → old ≡ distinct names → old ≡ distinct (names ++ [])
unchanged old names is = is ∙ ap distinct (sym (append-nil names))

pub uri_named : (old : code.Names) (after : List Text) (uri : Text) (number : ℕ) (text : List ℕ)
    → HasSeen old.uris after uri → HasNumber old.uris uri number → text ≡ written_uri number
    → Shows old (record old { uris = after }) (uri_names uri) (λ n. written_uri (uri_of n uri)) text
uri_named old after uri number text seen counts is = record {
  stands = λ before s. record {
    uris = seen before.uris s.uris;
    ids = unchanged old.ids before.ids s.ids;
    methods = unchanged old.methods before.methods s.methods;
    encodings = unchanged old.encodings before.encodings s.encodings;
  };
  value = λ before whole s begins. is
      ∙ ap written_uri
      (number_in old.uris uri number before.uris begins.0.uris whole.uris counts s.uris
      (ap (λ (n : Names). n.uris) begins.1));
}

-- the text of an id
pub id_named : (old : code.Names) (after : List Text) (id : Text) (number : ℕ)
    → HasSeen old.ids after id → HasNumber old.ids id number
    → Shows old (record old { ids = after }) (record no_names { ids = id ∷ [] })
    (λ n. number_of n.ids id) number
id_named old after id number seen counts = record {
  stands = λ before s. record {
    uris = unchanged old.uris before.uris s.uris;
    ids = seen before.ids s.ids;
    methods = unchanged old.methods before.methods s.methods;
    encodings = unchanged old.encodings before.encodings s.encodings;
  };
  value = λ before whole s begins. number_in old.ids id number before.ids begins.0.ids whole.ids
      counts s.ids (ap (λ (n : Names). n.ids) begins.1);
}

-- ---- names that the rules know

-- a name is at its place
pub there : (names : List Text) (name : Text) → list_any (bytes_eq name) names ≡ true
    → name_at names (place_in names name) ≡ name
there [] name is = absurd (true≢false (sym is))
there (x ∷ xs) name is = by_test (there xs name) (bytes_eq name x) refl is
  where
    by_test : (list_any (bytes_eq name) xs ≡ true → name_at xs (place_in xs name) ≡ name)
        → (b : Bool) → bytes_eq name x ≡ b → (b || list_any (bytes_eq name) xs) ≡ true
        → get_or (x ∷ xs) (if b then 0 else suc (place_in xs name)) [] ≡ name
    by_test rest true same any = sym ((bytes_eq-Decides name x).0 same)
    by_test rest false same any = rest any

-- one that is not among them is nowhere
pub nowhere : (names : List Text) (name : Text) → list_any (bytes_eq name) names ≡ false
    → name_at names (place_in names name) ≡ []
nowhere [] name is = refl
nowhere (x ∷ xs) name is = by_test (nowhere xs name) (bytes_eq name x) is
  where
    by_test : (list_any (bytes_eq name) xs ≡ false → name_at xs (place_in xs name) ≡ [])
        → (b : Bool) → (b || list_any (bytes_eq name) xs) ≡ false
        → get_or (x ∷ xs) (if b then 0 else suc (place_in xs name)) [] ≡ []
    by_test rest true any = absurd (true≢false any)
    by_test rest false any = rest any

-- ---- a method

abbrev methods_if : Bool → Text → Names
methods_if known method = record no_names { methods = cond (not known) (method ∷ []) [] }

abbrev method_if : Bool → Text → Names → Text
method_if known method n =
    written_method (name_by known (place_in known_methods method) (number_of n.methods method))

pub method_same : (old : code.Names) (method : Text) (text : List ℕ) (known : Bool)
    → known ≡ list_any (bytes_eq method) known_methods → known ≡ true → text ≡ method
    → Shows old old (methods_if known method) (method_if known method) text
method_same old method text true own h is = record {
  stands = λ before s. subst (Stands old) (sym (joined-none before)) s;
  value = λ before whole s begins. is ∙ sym (there known_methods method (sym own));
}
method_same old method text false own h is = absurd (true≢false (sym h))

pub method_named : (old : code.Names) (after : List Text) (method : Text) (number : ℕ)
    (text : List ℕ) (known : Bool) → known ≡ false → HasSeen old.methods after method
    → HasNumber old.methods method number → text ≡ codes "method/" ++ decimal number
    → Shows old (record old { methods = after }) (methods_if known method)
    (method_if known method) text
method_named old after method number text true h seen counts is = absurd (true≢false h)
method_named old after method number text false h seen counts is = record {
  stands = λ before s. record {
    uris = unchanged old.uris before.uris s.uris;
    ids = unchanged old.ids before.ids s.ids;
    methods = seen before.methods s.methods;
    encodings = unchanged old.encodings before.encodings s.encodings;
  };
  value = λ before whole s begins. is
      ∙ ap (λ (k : ℕ). codes "method/" ++ decimal k)
      (number_in old.methods method number before.methods begins.0.methods whole.methods counts
      s.methods (ap (λ (n : Names). n.methods) begins.1));
}

-- ---- the name of an encoding

abbrev encodings_if : Bool → Text → Names
encodings_if known name = record no_names { encodings = cond (not known) (name ∷ []) [] }

abbrev encoding_if : Bool → Text → Names → Text
encoding_if known name n =
    written_encoding (name_by known (place_in known_encodings name) (number_of n.encodings name))

pub encoding_same : (old : code.Names) (name : Text) (text : List ℕ) (known : Bool)
    → known ≡ list_any (bytes_eq name) known_encodings → known ≡ true → text ≡ name
    → Shows old old (encodings_if known name) (encoding_if known name) text
encoding_same old name text true own h is = record {
  stands = λ before s. subst (Stands old) (sym (joined-none before)) s;
  value = λ before whole s begins. is ∙ sym (there known_encodings name (sym own));
}
encoding_same old name text false own h is = absurd (true≢false (sym h))

pub encoding_named : (old : code.Names) (after : List Text) (name : Text) (number : ℕ)
    (text : List ℕ) (known : Bool) → known ≡ false → HasSeen old.encodings after name
    → HasNumber old.encodings name number → text ≡ codes "encoding-" ++ decimal number
    → Shows old (record old { encodings = after }) (encodings_if known name)
    (encoding_if known name) text
encoding_named old after name number text true h seen counts is = absurd (true≢false h)
encoding_named old after name number text false h seen counts is = record {
  stands = λ before s. record {
    uris = unchanged old.uris before.uris s.uris;
    ids = unchanged old.ids before.ids s.ids;
    methods = unchanged old.methods before.methods s.methods;
    encodings = seen before.encodings s.encodings;
  };
  value = λ before whole s begins. is
      ∙ ap (λ (k : ℕ). codes "encoding-" ++ decimal k)
      (number_in old.encodings name number before.encodings begins.0.encodings whole.encodings
      counts s.encodings (ap (λ (n : Names). n.encodings) begins.1));
}
