-- Each list of bytes is a log: what stands in front of it is a record, or there is a reason why
-- none does.
use Rattle.std.proofs.Common.{◌≡◌, ◌⊎◌, ℕ, zero, suc, ◌+◌, ◌<◌, ◌≤◌, true, false, List, [], ◌∷◌, ◌++◌, length, take, drop, Option, Some, None, refl, sym, ap, subst, ◌∙◌, append_assoc, inl, inr, arith}
use Rattle.std.specs.Prelude.{◌==◌, nat_lt, slice_index, IsUtf8}
use Rattle.std.specs.List.{flat_map, AllByRecursion}
use Rattle.std.specs.Str.{is_utf8, bytes_eq}
use Rattle.std.proofs.lemmas.Bool.{cases_Bool, cases_lt, or_parts}
use Rattle.std.proofs.lemmas.List.{length-append, length-take, take-append-le, take-append-drop, take_at, nil_from_length}
use Rattle.std.proofs.lemmas.Slice.Eq.{bytes_eq-Decides}
use Rattle.std.proofs.lemmas.Str.{IsUtf8-from_is_utf8, is_utf8-from_IsUtf8}
use Rattle.lsp_frame.specs.Bounds.{Bounds}
use Rattle.lsp_frame.specs.declared.format.Format.{Format}
use Rattle.lsp_frame.specs.declared.format.Format.TheVariants.{One, Two}
use Rattle.lsp_log.specs.declared.fault.LogCode.TheVariants.{L1}
use Rattle.lsp_log.specs.Laws.{SomeLog}
use Rattle.lsp_log.specs.Log.{Record, chunk, shown, Head, chunk_head, shown_head, head_line, head_of, parts_of, with_feed, spelling, in_range, IsText, Fits, Flaw, bad_line, bad_number, cut_short, bad_end, not_utf8, holds_feed, lengths_of, parts_flaw, HasLine, HasHead, EndsWith, code_of, first_line, NoFirstLine, at_record}
use Rattle.lsp_log.proofs.LogLemmas.{holds, clash, one_part, first_len}
use Rattle.lsp_log.proofs.Bytes.{cut_at}
use Rattle.lsp_log.proofs.PartTests.{part_lacks, part_ends_badly}
use Rattle.lsp_log.proofs.SomeHead.{cut_or_not, head_or_not}

-- ---- the parts behind a first line

abbrev Flawed : List ℕ → List ℕ → Type 0
Flawed lengths bytes = (parts_flaw lengths bytes ≡ Some cut_short) ⊎ (parts_flaw lengths bytes ≡ Some bad_end)

part_or_flaw : (n : ℕ) (ns bytes : List ℕ) → ((part : List ℕ) × (after : List ℕ) × (n ≡ length part) × (bytes ≡ with_feed part ++ after)) ⊎ Flawed (n ∷ ns) bytes
part_or_flaw n ns bytes = elim (cases_lt n (length bytes)) [
  | inr less ↦ inr (inl (part_lacks n ns bytes less))
  | inl more ↦ elim (cases_Bool (slice_index bytes n == 10)) [
    | inr other ↦ inr (inr (part_ends_badly n ns bytes more other))
    | inl feed ↦ inl (take n bytes, drop (n + 1) bytes, omega (arith, length-take n bytes, more), cut_at 10 bytes n more feed ∙ sym (append_assoc (take n bytes) (10 ∷ []) (drop (n + 1) bytes)))
  ]
]

flawed_behind : (n : ℕ) (part after bytes ns : List ℕ) → n ≡ length part → bytes ≡ with_feed part ++ after → Flawed ns after → Flawed (n ∷ ns) bytes
flawed_behind n part after bytes ns len is flawed =
    let same : parts_flaw (n ∷ ns) bytes ≡ parts_flaw ns after = ap (λ m. parts_flaw (m ∷ ns) bytes) len ∙ ap (parts_flaw (length part ∷ ns)) is ∙ one_part part ns after in
    elim flawed [ inl short ↦ inl (same ∙ short) | inr bad ↦ inr (same ∙ bad) ]

abbrev PartsOrFlaw : Head → List ℕ → Type 0
PartsOrFlaw head bytes = ((r : Record) × (after : List ℕ) × (head ≡ head_of r) × (bytes ≡ flat_map with_feed (parts_of r) ++ after)) ⊎ Flawed (lengths_of head) bytes

parts_or_flaw : (head : Head) (bytes : List ℕ) → PartsOrFlaw head bytes
parts_or_flaw (chunk_head side n) bytes = elim (part_or_flaw n [] bytes) [
  | inr flawed ↦ inr flawed
  | inl p ↦ inl (chunk side p.0, p.1, ap (chunk_head side) p.2, p.3 ∙ sym (append_assoc (with_feed p.0) [] p.1))
]
parts_or_flaw (shown_head v a b) bytes = elim (part_or_flaw a (b ∷ []) bytes) [
  | inr flawed ↦ inr flawed
  | inl p ↦ elim (part_or_flaw b [] p.1) [
    | inr flawed ↦ inr (flawed_behind a p.0 p.1 bytes (b ∷ []) p.2 p.3 flawed)
    | inl q ↦ inl (
      shown v p.0 q.0,
      q.1,
      cc (p.2, q.2),
      p.3 ∙ ap (λ w. with_feed p.0 ++ w) (q.3 ∙ sym (append_assoc (with_feed q.0) [] q.1)) ∙ sym (append_assoc (with_feed p.0) (with_feed q.0 ++ []) q.1),
    )
  ]
]

-- ---- texts

utf8_or_not : (bytes : List ℕ) → IsUtf8 bytes ⊎ (IsUtf8 bytes → ⊥)
utf8_or_not bytes = elim (cases_Bool (is_utf8 bytes)) [
  | inl is ↦ inl (IsUtf8-from_is_utf8 bytes is)
  | inr none ↦ inr (λ text. clash (is_utf8 bytes) none (is_utf8-from_IsUtf8 bytes text))
]

text_or_not : (r : Record) → IsText r ⊎ (IsText r → ⊥)
text_or_not (chunk side bytes) = inl tt
text_or_not (shown v uri text) = elim (utf8_or_not uri) [
  | inr none ↦ inr (λ both. none both.0)
  | inl one ↦ elim (utf8_or_not text) [
    | inr none ↦ inr (λ both. none both.1)
    | inl other ↦ inl (one, other)
  ]
]

-- ---- what stands in front

abbrev Front : Bounds → List ℕ → Type 0
Front limits bytes = ((r : Record) × (after : List ℕ) × (bytes ≡ spelling r ++ after) × Fits limits r) ⊎ ((flaw : Option Flaw) × EndsWith limits bytes flaw)

behind_head : (limits : Bounds) (bytes : List ℕ) (head : Head) (after : List ℕ) → HasHead limits bytes head after → PartsOrFlaw head after → Front limits bytes
behind_head limits bytes head after has (inr (inl short)) = inr (Some cut_short, inr (head, after, has, short))
behind_head limits bytes head after has (inr (inr bad)) = inr (Some bad_end, (head, after, has, bad))
behind_head limits bytes head after has (inl p) =
    let range : in_range limits (head_of p.0) ≡ true = ap (in_range limits) (sym p.2) ∙ has.range in
    let whole : bytes ≡ spelling p.0 ++ p.1 =
    has.line.whole ∙ ap (λ (h : Head). with_feed (head_line h) ++ after) p.2 ∙ ap (λ (w : List ℕ). with_feed (head_line (head_of p.0)) ++ w) p.3
    ∙ sym (append_assoc (with_feed (head_line (head_of p.0))) (flat_map with_feed (parts_of p.0)) p.1) in
    elim (text_or_not p.0) [
      | inl text ↦ inl (p.0, p.1, whole, record { range = range; text = text })
      | inr none ↦ inr (Some not_utf8, (p.0, p.1, whole, range, none))
    ]

behind_line : (limits : Bounds) (bytes line after : List ℕ) → HasLine bytes line after → Front limits bytes
behind_line limits bytes line after has = elim (head_or_not line has.short) [
  | inr none ↦ inr (Some bad_line, inr (line, after, has, none))
  | inl h ↦
      let at : HasLine bytes (head_line h.0) after = subst (λ (w : List ℕ). HasLine bytes w after) h.2 has in
      elim (cases_Bool (in_range limits h.0)) [
        | inr out ↦ inr (Some bad_number, (h.0, after, at, h.1, out))
        | inl range ↦ behind_head limits bytes h.0 after (record { line = at; range = range }) (parts_or_flaw h.0 after)
      ]
]

none_near : (n : ℕ) (xs : List ℕ) → holds 10 xs ≡ false → holds 10 (take n xs) ≡ false
none_near (suc n) (x ∷ xs) none = let p = or_parts (x == 10) (holds 10 xs) none in simp (p.0, none_near n xs p.1)
none_near _ _ none = refl

no_line : (limits : Bounds) (bytes : List ℕ) → holds_feed bytes ≡ false → Front limits bytes
no_line limits bytes none = elim (cases_lt (length bytes) 64) [
  | inr long ↦ inr (Some bad_line, inl (long, none_near 64 bytes none))
  | inl short ↦ elim (cases_lt 0 (length bytes)) [
    | inl some ↦ inr (Some cut_short, inl (some, short, none))
    | inr empty ↦ inr (None, nil_from_length bytes (omega (arith, empty)))
  ]
]

long_line : (limits : Bounds) (bytes line after : List ℕ) → bytes ≡ line ++ 10 ∷ after → holds_feed line ≡ false → 64 ≤ length line → Front limits bytes
long_line limits bytes line after is none long = inr (
  Some bad_line,
  inl (
    omega (arith, long, ap length is, length-append line (10 ∷ after)),
    ap (λ (w : List ℕ). holds_feed (take 64 w)) is ∙ ap holds_feed (take-append-le 64 line (10 ∷ after) long) ∙ none_near 64 line none,
  ),
)

front_some : (limits : Bounds) (bytes : List ℕ) → Front limits bytes
front_some limits bytes = elim (cut_or_not 10 bytes) [
  | inr none ↦ no_line limits bytes none
  | inl cut ↦ elim (cases_lt (length cut.front) 64) [
    | inr long ↦ long_line limits bytes cut.front cut.back cut.whole cut.none long
    | inl short ↦ behind_line limits bytes cut.front cut.back (record { whole = cut.whole ∙ sym (append_assoc cut.front (10 ∷ []) cut.back); short = short; one = cut.none })
  ]
]

-- ---- the records of all bytes

record Recorded (limits : Bounds) (bytes : List ℕ) : Type 0 where
  records : List Record
  rest : List ℕ
  flaw : Option Flaw
  whole : bytes ≡ flat_map spelling records ++ rest
  fits : AllByRecursion (Fits limits) records
  ends : EndsWith limits rest flaw

ended : (limits : Bounds) (bytes : List ℕ) (flaw : Option Flaw) → EndsWith limits bytes flaw → Recorded limits bytes
ended limits bytes flaw ends = record { records = []; rest = bytes; flaw = flaw; whole = refl; fits = tt; ends = ends }

one_more : (limits : Bounds) (bytes after : List ℕ) (r : Record) → bytes ≡ spelling r ++ after → Fits limits r → Recorded limits after → Recorded limits bytes
one_more limits bytes after r is fits more = record {
  records = r ∷ more.records;
  rest = more.rest;
  flaw = more.flaw;
  whole = is ∙ ap (λ (w : List ℕ). spelling r ++ w) more.whole ∙ sym (append_assoc (spelling r) (flat_map spelling more.records) more.rest);
  fits = (fits, more.fits);
  ends = more.ends;
}

spelling_some : (r : Record) → 0 < length (spelling r)
spelling_some r = omega (arith, length-append (with_feed (head_line (head_of r))) (flat_map with_feed (parts_of r)), length-append (head_line (head_of r)) (10 ∷ []))

recorded_within : (limits : Bounds) (n : ℕ) (bytes : List ℕ) → length bytes ≤ n → Recorded limits bytes
recorded_within limits zero bytes short = elim (front_some limits bytes) [
  | inl r ↦ absurd (omega (arith, short, ap length r.2, length-append (spelling r.0) r.1, spelling_some r.0))
  | inr end ↦ ended limits bytes end.0 end.1
]
recorded_within limits (suc n) bytes short = elim (front_some limits bytes) [
  | inl r ↦ one_more limits bytes r.1 r.0 r.2 r.3 (recorded_within limits n r.1 (omega (arith, short, ap length r.2, length-append (spelling r.0) r.1, spelling_some r.0)))
  | inr end ↦ ended limits bytes end.0 end.1
]

-- ---- the log of all bytes

begins_as : (format : Format) (w : List ℕ) → ((rest : List ℕ) × (w ≡ first_line format ++ rest)) ⊎ ((rest : List ℕ) → w ≡ first_line format ++ rest → ⊥)
begins_as format w = elim (cases_Bool (bytes_eq (take 14 w) (first_line format))) [
  | inl same ↦ inl (drop 14 w, sym (take-append-drop 14 w) ∙ ap (λ (v : List ℕ). v ++ drop 14 w) ((bytes_eq-Decides (take 14 w) (first_line format)).0 same))
  | inr other ↦ inr (λ rest e. clash (bytes_eq (take 14 w) (first_line format)) other ((bytes_eq-Decides (take 14 w) (first_line format)).1 (ap (take 14) e ∙ take_at (first_line format) rest 14 (first_len format))))
]

neither : (w : List ℕ) → ((rest : List ℕ) → w ≡ first_line One ++ rest → ⊥) → ((rest : List ℕ) → w ≡ first_line Two ++ rest → ⊥) → NoFirstLine w
neither w not_one not_two One rest e = not_one rest e
neither w not_one not_two Two rest e = not_two rest e

begins_first : (w : List ℕ) → ((format : Format) × (rest : List ℕ) × (w ≡ first_line format ++ rest)) ⊎ NoFirstLine w
begins_first w = elim (begins_as One w) [
  | inl one ↦ inl (One, one.0, one.1)
  | inr not_one ↦ elim (begins_as Two w) [
    | inl two ↦ inl (Two, two.0, two.1)
    | inr not_two ↦ inr (neither w not_one not_two)
  ]
]

pub some_log : SomeLog
some_log limits bytes = elim (begins_first (take limits.log bytes)) [
  | inr none ↦ (None, [], Some (0, L1), (refl, refl, none))
  | inl first ↦
      let r = recorded_within limits (length first.1) first.1 (omega arith) in
      let code = code_of r.flaw (nat_lt limits.log (length bytes)) in (
        Some first.0,
        r.records,
        at_record (length r.records + 1) code,
        (
          code,
          record {
            rest = r.rest;
            flaw = r.flaw;
            begins = record { whole = first.2 ∙ ap (λ (w : List ℕ). first_line first.0 ++ w) r.whole ∙ sym (append_assoc (first_line first.0) (flat_map spelling r.records) r.rest); fits = r.fits };
            ends = r.ends;
            code = refl;
          },
          refl,
        ),
      )
]
