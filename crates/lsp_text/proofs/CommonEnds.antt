-- Bytes that are the same at the ends of two slices, and what comes after a text in a text.
use Rattle.std.proofs.Common.{◌≡◌, ◌≤◌, ◌+◌, ◌-◌, ℕ, List, ◌++◌, length, take, drop, sym, ap, ap₂}
use Rattle.std.proofs.Common.{◌∙◌, arith, [], ◌∷◌, refl, subst, append_assoc}
use Rattle.std.proofs.lemmas.List.{drop-drop, take-append-drop}
use Rattle.lsp_text.specs.Parting.{AreSameEnds}
use Rattle.std.specs.Str.{chars, IsUtf8}
use Rattle.std.proofs.lemmas.Str.{encodes-chars, IsUtf8-past_char}
use lib.Utf8.{encodes, encode}

-- the ends, by what comes before each of them
ends_from : (a b : List ℕ) (n i j : ℕ) → i + n ≡ length a → j + n ≡ length b
    → drop i a ≡ drop j b → AreSameEnds a b n
ends_from a b n i j left right same =
    let before : length a - n ≡ i = omega arith in
    let there : length b - n ≡ j = omega arith in
    record {
      left = omega arith;
      right = omega arith;
      same = ap (λ k. drop k a) before ∙ same ∙ sym (ap (λ k. drop k b) there);
    }

-- some bytes more
pub more_ends : (a b : List ℕ) (n k : ℕ) → AreSameEnds a b n → n + k ≤ length a → n + k ≤ length b
    → take k (drop (length a - n - k) a) ≡ take k (drop (length b - n - k) b)
    → AreSameEnds a b (n + k)
more_ends a b n k h left right e =
    let i = length a - n - k in
    let j = length b - n - k in
    let before : i + k ≡ length a - n = omega arith in
    let there : j + k ≡ length b - n = omega arith in
    let rest : drop (i + k) a ≡ drop (j + k) b =
    ap (λ m. drop m a) before ∙ h.same ∙ sym (ap (λ m. drop m b) there) in
    ends_from a b (n + k) i j (omega arith) (omega arith)
    (sym (take-append-drop k (drop i a))
    ∙ ap₂ (λ p q. p ++ q) e (drop-drop k i a ∙ rest ∙ sym (drop-drop k j b))
    ∙ take-append-drop k (drop j b))

-- some bytes fewer
pub fewer_ends : (a b : List ℕ) (n m : ℕ) → AreSameEnds a b n → m ≤ n → AreSameEnds a b m
fewer_ends a b n m h le =
    let left = h.left in
    let right = h.right in
    let i = length a - n in
    let j = length b - n in
    ends_from a b m (i + (n - m)) (j + (n - m)) (omega arith) (omega arith)
    (sym (drop-drop (n - m) i a) ∙ ap (drop (n - m)) h.same ∙ drop-drop (n - m) j b)

utf8_past : (cs bs rest : List ℕ) → IsUtf8 bs → bs ≡ encodes cs ++ rest → IsUtf8 rest
utf8_past [] bs rest u is = subst IsUtf8 is u
utf8_past (c ∷ cs) bs rest u is =
    utf8_past cs (encodes cs ++ rest) rest (IsUtf8-past_char bs (encodes cs ++ rest) c u (is ∙ append_assoc (encode c) (encodes cs) rest)) refl

-- what comes after a text in a text
pub IsUtf8-rest : (a bs rest : List ℕ) → IsUtf8 a → IsUtf8 bs → bs ≡ a ++ rest → IsUtf8 rest
IsUtf8-rest a bs rest ua u is = utf8_past (chars a) bs rest u (is ∙ ap (λ (x : List ℕ). x ++ rest) (sym (encodes-chars a ua)))
