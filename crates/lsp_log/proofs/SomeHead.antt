-- Whether a line is a record's first line.
use Rattle.std.proofs.Common.{◌≡◌, ◌⊎◌, ℕ, zero, suc, ◌+◌, ◌<◌, true, false, ◌&&◌, List, [], ◌∷◌, ◌++◌, length, refl, sym, ap, ◌∙◌, inl, inr, arith, lit≤}
use Rattle.std.specs.Prelude.{◌==◌, ℤ, pos, negsuc, decimal, slice_index}
use Rattle.std.specs.Fmt.{signed_decimal}
use Rattle.std.specs.Str.Parse.{digits_value}
use Rattle.std.proofs.lemmas.Bool.{cases_Bool, and_from}
use Rattle.std.proofs.lemmas.Fmt.{decimal_digit}
use Rattle.std.proofs.lemmas.List.{length-append}
use Rattle.std.proofs.lemmas.Map.Views.{exact_unsigned_eq}
use Rattle.lsp_types.specs.declared.side.Side.TheVariants.{Editor, Server}
use Rattle.lsp_frame.proofs.Readings as readings
use Rattle.lsp_log.specs.Log.{Head, chunk_head, shown_head, head_line, is_writable, has_decimal, has_signed}
use Rattle.lsp_log.specs.Words.{is_numeral, NoNumber, NoSigned, NoSnapshot, NoHead, holds_space}
use Rattle.lsp_log.proofs.LogLemmas.{holds, clash, below, small_decimal, shown_line}
use Rattle.lsp_log.proofs.Numerals.{numeral_writes, not_numeral}
use Rattle.lsp_log.proofs.Heads.{no_minus_none, minus_zero_none, three_words, no_version, no_uri, no_text, no_second, holds_there}

-- ---- the first place of a byte

pub record CutAt (c : ℕ) (xs : List ℕ) : Type 0 where
  pub front : List ℕ
  pub back : List ℕ
  pub whole : xs ≡ front ++ c ∷ back
  pub none : holds c front ≡ false

pub cut_or_not : (c : ℕ) (xs : List ℕ) → CutAt c xs ⊎ (holds c xs ≡ false)
cut_or_not c [] = inr refl
cut_or_not c (x ∷ xs) = elim (cases_Bool (x == c)) [
  | inl same ↦ inl (record { front = []; back = xs; whole = ap (λ (b : ℕ). b ∷ xs) (exact_unsigned_eq x c same); none = refl })
  | inr other ↦ elim (cut_or_not c xs) [
    | inl cut ↦ inl (record { front = x ∷ cut.front; back = cut.back; whole = ap (λ (w : List ℕ). x ∷ w) cut.whole; none = simp (other, cut.none) })
    | inr none ↦ inr (simp (other, none))
  ]
]

-- ---- numbers

abbrev NumberOrNot : List ℕ → Type 0
NumberOrNot word = ((n : ℕ) × (has_decimal n ≡ true) × (word ≡ decimal n)) ⊎ NoNumber word

number_or_not : (word : List ℕ) → length word < 64 → NumberOrNot word
number_or_not word short = elim (cases_Bool (is_numeral word)) [
  | inl is ↦ let writes = numeral_writes word is short in inl (digits_value 10 word, writes.small, writes.number)
  | inr none ↦ inr (not_numeral word none)
]

abbrev SignedOrNot : List ℕ → Type 0
SignedOrNot word = ((v : ℤ) × (has_signed v ≡ true) × (word ≡ signed_decimal v)) ⊎ NoSigned word

behind_minus : (word digits : List ℕ) (n : ℕ) → word ≡ 45 ∷ digits → has_decimal n ≡ true → digits ≡ decimal n → SignedOrNot word
behind_minus word digits zero is small e = inr (minus_zero_none word digits is (ap (λ w. slice_index w 0) (e ∙ decimal_digit 0 (lit≤ tt))))
behind_minus word digits (suc m) is small e = inl (negsuc m, small_decimal (m + 1) (omega (arith, below (suc m) small)), is ∙ ap (λ w. 45 ∷ w) e)

no_minus : (word : List ℕ) → ((digits : List ℕ) → word ≡ 45 ∷ digits → ⊥) → NoNumber word → NoSigned word
no_minus word other none (pos n) small e = none n small e
no_minus word other none (negsuc n) small e = other (decimal (suc n)) e

signed_or_not : (word : List ℕ) → length word < 64 → SignedOrNot word
signed_or_not word short = elim (readings.head_or_not 45 word) [
  | inl minus ↦ elim (number_or_not minus.0 (omega (arith, short, ap length minus.1))) [
    | inl n ↦ behind_minus word minus.0 n.0 minus.1 n.1 n.2
    | inr none ↦ inr (no_minus_none word minus.0 minus.1 none)
  ]
  | inr other ↦ elim (number_or_not word short) [
    | inl n ↦ inl (pos n.0, n.1, n.2)
    | inr none ↦ inr (no_minus word other none)
  ]
]

-- ---- first lines

abbrev SnapshotOrNot : List ℕ → Type 0
SnapshotOrNot rest = ((v : ℤ) × (a : ℕ) × (b : ℕ) × (is_writable (shown_head v a b) ≡ true) × (rest ≡ signed_decimal v ++ 32 ∷ (decimal a ++ 32 ∷ decimal b))) ⊎ NoSnapshot rest

no_first : (rest : List ℕ) → holds_space rest ≡ false → NoSnapshot rest
no_first rest none v a b small e = clash (holds_space rest) none (ap holds_space e ∙ holds_there (signed_decimal v) (decimal a ++ 32 ∷ decimal b))

words_or_not : (rest version uri text : List ℕ) → length rest < 64 → rest ≡ version ++ 32 ∷ (uri ++ 32 ∷ text) → holds_space version ≡ false → holds_space uri ≡ false → SnapshotOrNot rest
words_or_not rest version uri text short is p q =
    let words = three_words rest version (uri ++ 32 ∷ text) uri text is p refl q in
    let sum = length-append version (32 ∷ (uri ++ 32 ∷ text)) in
    let more = length-append uri (32 ∷ text) in
    elim (signed_or_not version (omega (arith, short, ap length is, sum))) [
      | inr none ↦ inr (no_version rest version uri text words none)
      | inl v ↦ elim (number_or_not uri (omega (arith, short, ap length is, sum, more))) [
        | inr none ↦ inr (no_uri rest version uri text words none)
        | inl a ↦ elim (number_or_not text (omega (arith, short, ap length is, sum, more))) [
          | inr none ↦ inr (no_text rest version uri text words none)
          | inl b ↦ inl (v.0, a.0, b.0, and_from (has_signed v.0) (has_decimal a.0 && has_decimal b.0) v.1 (and_from (has_decimal a.0) (has_decimal b.0) a.1 b.1), is ∙ cc (v.2, a.2, b.2))
        ]
      ]
    ]

snapshot_or_not : (rest : List ℕ) → length rest < 64 → SnapshotOrNot rest
snapshot_or_not rest short = elim (cut_or_not 32 rest) [
  | inr none ↦ inr (no_first rest none)
  | inl first ↦ elim (cut_or_not 32 first.back) [
    | inr none ↦ inr (no_second rest first.front first.back first.whole first.none none)
    | inl second ↦ words_or_not rest first.front second.front second.back short (first.whole ∙ ap (λ w. first.front ++ 32 ∷ w) second.whole) first.none second.none
  ]
]

-- whether the line begins with this letter and a space
letter_or_not : (c : ℕ) (line : List ℕ) → ((rest : List ℕ) × (line ≡ c ∷ 32 ∷ rest)) ⊎ ((rest : List ℕ) → line ≡ c ∷ 32 ∷ rest → ⊥)
letter_or_not c line = elim (readings.head_or_not c line) [
  | inr none ↦ inr (λ rest e. none (32 ∷ rest) e)
  | inl first ↦ elim (readings.head_or_not 32 first.0) [
    | inr none ↦ inr (λ rest e. none rest (cc (first.1, e)))
    | inl second ↦ inl (second.0, first.1 ∙ ap (λ w. c ∷ w) second.1)
  ]
]

abbrev ChunkOrNot : ℕ → List ℕ → Type 0
ChunkOrNot c line = ((n : ℕ) × (has_decimal n ≡ true) × (line ≡ c ∷ 32 ∷ decimal n)) ⊎ ((n : ℕ) → has_decimal n ≡ true → line ≡ c ∷ 32 ∷ decimal n → ⊥)

chunk_or_not : (c : ℕ) (line : List ℕ) → length line < 64 → ChunkOrNot c line
chunk_or_not c line short = elim (letter_or_not c line) [
  | inr none ↦ inr (λ n small e. none (decimal n) e)
  | inl rest ↦ elim (number_or_not rest.0 (omega (arith, short, ap length rest.1))) [
    | inl n ↦ inl (n.0, n.1, rest.1 ∙ ap (λ w. c ∷ 32 ∷ w) n.2)
    | inr none ↦ inr (λ n small e. none n small (cc (rest.1, e)))
  ]
]

abbrev ShownOrNot : List ℕ → Type 0
ShownOrNot line = ((v : ℤ) × (a : ℕ) × (b : ℕ) × (is_writable (shown_head v a b) ≡ true) × (line ≡ head_line (shown_head v a b))) ⊎ ((v : ℤ) (a b : ℕ) → is_writable (shown_head v a b) ≡ true → line ≡ head_line (shown_head v a b) → ⊥)

shown_or_not : (line : List ℕ) → length line < 64 → ShownOrNot line
shown_or_not line short = elim (letter_or_not 84 line) [
  | inr none ↦ inr (λ v a b small e. none (signed_decimal v ++ 32 ∷ (decimal a ++ 32 ∷ decimal b)) (e ∙ shown_line v a b))
  | inl rest ↦ elim (snapshot_or_not rest.0 (omega (arith, short, ap length rest.1))) [
    | inl s ↦ inl (s.0, s.1, s.2, s.3, rest.1 ∙ ap (λ w. 84 ∷ 32 ∷ w) s.4 ∙ sym (shown_line s.0 s.1 s.2))
    | inr none ↦ inr (λ v a b small e. none v a b small (cc (sym rest.1 ∙ e ∙ shown_line v a b)))
  ]
]

no_head : (line : List ℕ) → ((n : ℕ) → has_decimal n ≡ true → line ≡ 69 ∷ 32 ∷ decimal n → ⊥) → ((n : ℕ) → has_decimal n ≡ true → line ≡ 83 ∷ 32 ∷ decimal n → ⊥)
    → ((v : ℤ) (a b : ℕ) → is_writable (shown_head v a b) ≡ true → line ≡ head_line (shown_head v a b) → ⊥) → NoHead line
no_head line editor server shown (chunk_head Editor n) small e = editor n small e
no_head line editor server shown (chunk_head Server n) small e = server n small e
no_head line editor server shown (shown_head v a b) small e = shown v a b small e

-- a line of at most 63 bytes is a first line or none
pub head_or_not : (line : List ℕ) → length line < 64 → ((head : Head) × (is_writable head ≡ true) × (line ≡ head_line head)) ⊎ NoHead line
head_or_not line short = elim (chunk_or_not 69 line short) [
  | inl n ↦ inl (chunk_head Editor n.0, n.1, n.2)
  | inr editor ↦ elim (chunk_or_not 83 line short) [
    | inl n ↦ inl (chunk_head Server n.0, n.1, n.2)
    | inr server ↦ elim (shown_or_not line short) [
      | inl s ↦ inl (shown_head s.0 s.1 s.2, s.3, s.4)
      | inr shown ↦ inr (no_head line editor server shown)
    ]
  ]
]
