-- What changes make where lines end otherwise, as the code makes it.
use Rattle.std.specs.Prelude.{ℕ, ◌<◌, ◌+◌, length, option_and_then, option_to_list, String}
use Rattle.std.specs.Prelude.{◌||◌, string_bytes}
use Rattle.std.specs.List.{list_any}
use Rattle.std.specs.Global.{Global}
use Rattle.std.specs.Char.{encode_utf8}
use Rattle.std.specs.Str.{IsUtf8, chars}
use Rattle.std.proofs.Common.{◌≡◌, false, List, [], ◌∷◌, ◌++◌, Option, Some, None, refl, sym, ap}
use Rattle.std.proofs.Common.{◌∙◌, append-nil, append_assoc, drop, get_or, take}
use Rattle.std.proofs.lemmas.Str.{IsUtf8-string_bytes, chars_from_encodes, encodes-append}
use Rattle.std.proofs.lemmas.Str.{encodes-chars}
use Rattle.lsp_trail.specs.Common.{Edit, edit_of, edits_of, Encoding, splice}
use Rattle.lsp_text.specs.Lines.{is_feed}
use Rattle.lsp_docs.proofs.Words.{any-map}
use Rattle.lsp_origins.specs.Fits.{suspects_view}
use Rattle.lsp_origins.specs.OtherLines.{changed_by, edits_in, has_other, inserts_other, made_so}
use Rattle.lsp_origins.specs.OtherLines.{seen, seen_as, seen_of}
use Rattle.lsp_origins.specs.declared.fits.Suspect.{Suspect}
use Rattle.lsp_origins.specs.declared.other_lines.LinesBy.{LinesBy}
use Rattle.lsp_origins.proofs.Fitting.{suspects_from}
use lib.Utf8.{encodes}

-- ---- one message after another

made_so-append : (by : LinesBy) (enc : Encoding) (t : List ℕ) (xs ys : List Edit)
    → made_so by enc t (xs ++ ys)
    ≡ option_and_then (λ u. made_so by enc u ys) (made_so by enc t xs)
made_so-append by enc t [] ys = refl
made_so-append by enc t (x ∷ xs) ys =
    by_text (changed_by by enc t x) (λ u. made_so-append by enc u xs ys)
  where
    by_text : (o : Option (List ℕ))
        → ((u : List ℕ) → made_so by enc u (xs ++ ys)
        ≡ option_and_then (λ w. made_so by enc w ys) (made_so by enc u xs))
        → option_and_then (λ u. made_so by enc u (xs ++ ys)) o
        ≡ option_and_then (λ w. made_so by enc w ys) (option_and_then (λ u. made_so by enc u xs) o)
    by_text None rest = refl
    by_text (Some u) rest = rest u

-- the changes of one message more
pub made_on : (by : LinesBy) (enc : Encoding) (t : List ℕ) (suspects : List Suspect) (i : ℕ)
    (s : Suspect) (all next : Option (List ℕ)) → i < length suspects → s ≡ get_or suspects i s
    → all ≡ made_so by enc t (edits_in (suspects_view (drop i suspects)))
    → next ≡ made_so by enc t (edits_of s.changes.now)
    → all ≡ option_and_then
    (λ u. made_so by enc u (edits_in (suspects_view (drop (i + 1) suspects)))) next
made_on by enc t suspects i s all next lt is so made =
    let more = edits_in (suspects_view (drop (i + 1) suspects)) in
    so ∙ ap (λ l. made_so by enc t (edits_in l)) (suspects_from suspects i s lt is)
    ∙ made_so-append by enc t (edits_of s.changes.now) more
    ∙ ap (option_and_then (λ u. made_so by enc u more)) (sym made)

-- ---- texts that are inserted

-- the changes of messages, as they are held
pub any_inserts : (by : LinesBy) (suspects : List Suspect)
    → list_any (λ (s : Suspect). list_any (λ c. has_other by (edit_of c).text) s.changes.now)
    suspects ≡ list_any (inserts_other by) (suspects_view suspects)
any_inserts by [] = refl
any_inserts by (s ∷ more) =
    let own = sym (any-map (λ (e : Edit). has_other by e.text) edit_of s.changes.now) in
    (λ i. own i || any_inserts by more i)

-- ---- a text that is seen, of which the last character read is not yet written

abbrev pub IsSeen : LinesBy → List ℕ → Option ℕ → List ℕ → Type 0
IsSeen by t last written =
    (more : List ℕ) → seen by (t ++ more) ≡ written ++ seen by (option_to_list last ++ more)

-- none is read
pub read_none : (by : LinesBy) (written : List ℕ) → written ≡ [] → IsSeen by [] None written
read_none by written none = λ more. ap (λ (l : List ℕ). l ++ seen by more) (sym none)

-- one character more is read, and the last one written
pub read_on : (by : LinesBy) (t : List ℕ) (last : Option ℕ) (c : ℕ) (written next : List ℕ)
    → IsSeen by t last written → next ≡ written ++ seen_of by (is_feed c) last
    → IsSeen by (t ++ c ∷ []) (Some c) next
read_on by t last c written next so is = λ more.
    ap (seen by) (append_assoc t (c ∷ []) more) ∙ so (c ∷ more) ∙ by_last last more
    ∙ ap (λ (l : List ℕ). l ++ seen by (c ∷ more)) (sym is)
  where
    by_last : (o : Option ℕ) (more : List ℕ)
        → written ++ seen by (option_to_list o ++ c ∷ more)
        ≡ written ++ seen_of by (is_feed c) o ++ seen by (c ∷ more)
    by_last None more = ap (λ (l : List ℕ). l ++ seen by (c ∷ more)) (sym (append-nil written))
    by_last (Some p) more =
        sym (append_assoc written (seen_as by (is_feed c) p ∷ []) (seen by (c ∷ more)))

-- the last one of all
pub read_all : (by : LinesBy) (t : List ℕ) (last : Option ℕ) (written whole : List ℕ)
    → IsSeen by t last written → whole ≡ written ++ seen_of by false last → whole ≡ seen by t
read_all by t last written whole so is =
    is ∙ by_last last ∙ sym (so []) ∙ ap (seen by) (append-nil t)
  where
    by_last : (o : Option ℕ)
        → written ++ seen_of by false o ≡ written ++ seen by (option_to_list o ++ [])
    by_last None = refl
    by_last (Some p) = refl

-- ---- texts

-- the characters of a text that was put together
pub spelled : (s : String Global) (cs : List ℕ) → string_bytes s ≡ encodes cs
    → chars (string_bytes s) ≡ cs
spelled s cs is = sym (chars_from_encodes cs (string_bytes s) (IsUtf8-string_bytes s) (sym is))

-- one character more
pub pushed : (old new : String Global) (c : ℕ)
    → string_bytes new ≡ string_bytes old ++ encode_utf8 c
    → chars (string_bytes new) ≡ chars (string_bytes old) ++ c ∷ []
pushed old new c is =
    let before : List ℕ = chars (string_bytes old) in
    spelled new (before ++ c ∷ [])
    (is ∙ ap (λ (l : List ℕ). l ++ encode_utf8 c)
    (sym (encodes-chars (string_bytes old) (IsUtf8-string_bytes old)))
    ∙ sym (encodes-append before (c ∷ [])
    ∙ ap (λ (l : List ℕ). encodes before ++ l) (append-nil (encode_utf8 c))))

-- a text between two others
pub spliced_so : (made : String Global) (t s : List ℕ) (a b : ℕ) → IsUtf8 s
    → string_bytes made ≡ encodes (take a t) ++ s ++ encodes (drop b t)
    → chars (string_bytes made) ≡ splice t a b (chars s)
spliced_so made t s a b utf8 is =
    spelled made (take a t ++ chars s ++ drop b t)
    (is ∙ sym (encodes-append (take a t ++ chars s) (drop b t)
    ∙ ap (λ (l : List ℕ). l ++ encodes (drop b t)) (encodes-append (take a t) (chars s)
    ∙ ap (λ (l : List ℕ). encodes (take a t) ++ l) (encodes-chars s utf8))))
