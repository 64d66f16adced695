-- How long a content really is whose header says less: where it breaks off too early, and the bytes
-- that follow it in its stream are the rest of its JSON text.
use Rattle.std.specs.Prelude.{◌≡◌, ℕ, ◌+◌, ◌-◌, suc, List, [], ◌∷◌, ◌++◌, length, take, nat_lt, ◌==◌}
use Rattle.std.specs.Prelude.{codes, decimal, if◌then◌else◌, Option, Some, None, option_and_then}
use Rattle.std.specs.Bool.{then_some}
use Rattle.std.specs.Str.{chars, is_utf8}
use Rattle.lsp_replay.specs.Common.{Encoding, units, Utf16}
use Rattle.lsp_types.specs.declared.position.Encoding.TheVariants.{Utf32}
use Rattle.lsp_verdict.specs.Report.{line}
use Rattle.lsp_facts.specs.DocumentFacts.{encodings_fact}
use Rattle.lsp_facts.specs.Fact.{Fact}
use Rattle.lsp_facts.specs.Grammar.{is_whole, json_break, left_open, move_in, to}
use Rattle.lsp_facts.specs.declared.grammar.Around.{Around}
use Rattle.lsp_facts.specs.declared.grammar.Gap.TheVariants as gaps
use Rattle.lsp_facts.specs.declared.grammar.Move.{Move}
use Rattle.lsp_facts.specs.declared.grammar.Place.{Place}
use Rattle.lsp_facts.specs.declared.grammar.Place.TheVariants as places
use Rattle.lsp_facts.specs.declared.json_text.Walk.{Walk}
use Rattle.lsp_facts.specs.declared.json_text.Walk.TheVariants as walks

-- ---- where a JSON text ends

abbrev pub end_by : ℕ → (Place → List Around → Option ℕ) → List Around → Option Move → Option ℕ
end_by n later opened None = None
end_by n later opened (Some by) =
    if is_whole (to by) (left_open opened by) then Some n else later (to by) (left_open opened by)

-- the number of the first of these bytes after which the text may end, the numbers beginning here
abbrev pub end_from : ℕ → Place → List Around → List ℕ → Option ℕ
end_from n place opened [] = None
end_from n place opened (x ∷ xs) =
    end_by (suc n) (λ place opened. end_from (suc n) place opened xs) opened
    (move_in place opened x)

-- where a walk ends, from such a number on, which came to its end after so many bytes; or where the
-- text ends in the bytes after these
abbrev pub end_at : ℕ → Walk → ℕ → List Around → List ℕ → Option ℕ
end_at n (walks.Ends k) size opened more = Some (n + k)
end_at n walks.Breaks size opened more = None
end_at n (walks.GoesOn place) size opened more = end_from (n + size) place opened more

abbrev pub ended : Walk → Option ℕ
ended (walks.Ends k) = Some k
ended walk = None

-- **how many of these bytes are the JSON text in front of them**, up to the bracket that closes it
abbrev pub text_end : List ℕ → Option ℕ
text_end bytes = end_from 0 (places.Gap gaps.Value) [] bytes

-- ---- a content, and what follows it

abbrev pub past : ℕ → ℕ → Option ℕ
past size n = then_some (nat_lt size n) (n - size)

-- how many of the bytes behind a content its JSON text has, where it ends there
abbrev pub missing : List ℕ → List ℕ → Option ℕ
missing content behind =
    option_and_then (past (length content)) (text_end (content ++ behind))

abbrev pub if_utf8 : List ℕ → Option (List ℕ)
if_utf8 text = then_some (is_utf8 text) text

-- **the JSON text that begins with the content and ends behind it**
abbrev pub whole_text : List ℕ → List ℕ → Option (List ℕ)
whole_text content behind =
    option_and_then (λ n. if_utf8 (content ++ take n behind)) (missing content behind)

-- ---- what is said

abbrev pub counted_in : ℕ → List ℕ → Encoding → List Encoding
counted_in number text enc = if units enc (chars text) == number then enc ∷ [] else []

-- in which encodings a text, which has more bytes than this, has so many units
abbrev pub counting : ℕ → List ℕ → List Encoding
counting number text = counted_in number text Utf16 ++ counted_in number text Utf32

-- the number of bytes, and in which encodings the header has counted the text
abbrev pub length_facts : ℕ → Option (List ℕ) → List Fact
length_facts number None = []
length_facts number (Some text) =
    line (codes "whole" ∷ decimal (length text) ∷ [])
    ∷ encodings_fact (codes "counts") (counting number text)

-- **what is said about a content that is no JSON text, and these bytes behind it**
abbrev pub whole_facts : List ℕ → List ℕ → List Fact
whole_facts content behind = length_facts (length content) (whole_text content behind)

-- ---- laws

-- it is a JSON text
abbrev pub WholeTextsAreJson : Type 0
WholeTextsAreJson =
    (content behind text : List ℕ) → whole_text content behind ≡ Some text → json_break text ≡ None
