-- Which encoding the server named in the older way, where columns may count its units.
use Rattle.std.specs.Prelude.{ℕ, List, [], ◌∷◌, ◌==◌, ◌||◌, Bool, Option, Some, None, codes}
use Rattle.std.specs.Prelude.{if◌then◌else◌, unwrap_or}
use Rattle.std.specs.List.{flat_map}
use Rattle.std.specs.Str.{bytes_eq}
use Rattle.lsp_trail.specs.Common.{Encoding, encoding, encoding_name, Event, kept_of, line}
use Rattle.lsp_trail.specs.Common.{older_encoding, sent_in, Terms, Utf16}
use Rattle.lsp_types.specs.declared.rules.TheConstants as rules
use Rattle.lsp_facts.specs.Fact.{Fact}
use Rattle.lsp_origins.specs.Fits.{other_encodings}

-- columns that count other units than agreed may break the rule
abbrev pub is_of_columns : ℕ → Bool
is_of_columns rule = rule == rules.POSITION_INSIDE_CHARACTER
    || (rule == rules.SAVED_TEXT_DIFFERS || rule == rules.SNAPSHOT_DIFFERS)

-- the encoding, where this is its name
abbrev pub named_facts : List ℕ → Encoding → List Fact
named_facts name own =
    if bytes_eq name (encoding_name (Some own))
    then line (codes "offset-encoding" ∷ encoding_name (Some own) ∷ []) ∷ [] else []

-- the encoding of this name, of those that are not the agreed one
abbrev pub older_facts : Option (List ℕ) → Encoding → List Fact
older_facts None agreed = []
older_facts (Some name) agreed = flat_map (named_facts name) (other_encodings agreed)

-- **the encoding that the answer to `initialize` names in the older way**, where a call after these
-- events breaks this rule, and that encoding is not the agreed one
abbrev pub older_traced : Terms → List Event → ℕ → List Fact
older_traced terms before rule =
    let said = sent_in (kept_of terms before) in
    if is_of_columns rule
    then older_facts (older_encoding said) (unwrap_or (encoding said) Utf16) else []
