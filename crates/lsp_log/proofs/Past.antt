-- At most 64 bytes are read past those that show a fault.
use Rattle.std.proofs.Common.{◌≡◌, ℕ, ◌-◌, ◌≤◌, true, false, List, [], ◌++◌, length, take, Option, Some, refl, sym, ap, subst, ◌∙◌, append_assoc, inl, inr, arith}
use Rattle.std.specs.List.{flat_map}
use Rattle.std.proofs.lemmas.List.{append_cancel_left, length-append, take_at}
use Rattle.std.proofs.lemmas.Bool.{cases_lt}
use Rattle.lsp_frame.specs.Bounds.{Bounds, IsInRange}
use Rattle.lsp_frame.specs.declared.format.Format.{Format}
use Rattle.lsp_frame.proofs.Frames.{take_beyond}
use Rattle.lsp_log.specs.Log as log
use Rattle.lsp_log.specs.Log.{Flaw, bad_line, bad_number, cut_short, bad_end, not_utf8, Breaks, EndsWith, HasHead, first_line, head_line, head_of, lengths_of, parts_flaw, spelling, wants_bytes, with_feed}
use Rattle.lsp_log.specs.Stops.{ReadsFew}
use Rattle.lsp_log.specs.Reader.{ShowsNear}
use Rattle.lsp_log.proofs.LogLemmas.{range_writable, same_head, spelling_one}
use Rattle.lsp_log.proofs.Breaking.{ends_more}
use Rattle.lsp_log.proofs.OneFlaw.{one_end}

-- a front shows the flaw by a head and what stands behind it
past_head : (limits : Bounds) → IsInRange limits → (rest front after : List ℕ) → rest ≡ front ++ after → ReadsFew limits rest (Some bad_end) → Breaks limits front bad_end → length after ≤ 64
past_head limits sizes rest front after is few shown =
    let here = few.2 in
    let there = shown.2 in
    let whole : with_feed (head_line few.0) ++ few.1 ≡ with_feed (head_line shown.0) ++ (shown.1 ++ after) =
    sym here.line.whole ∙ is ∙ ap (λ (w : List ℕ). w ++ after) there.line.whole ∙ append_assoc (with_feed (head_line shown.0)) shown.1 after in
    let same = same_head few.0 shown.0 few.1 (shown.1 ++ after) (range_writable limits sizes few.0 here.range) (range_writable limits sizes shown.0 there.range) whole in
    few.3 shown.1 after same.1 (ap (λ (h : log.Head). parts_flaw (lengths_of h) shown.1) same.0 ∙ shown.3)

-- a front shows the flaw by a record that is no text
past_record : (limits : Bounds) → IsInRange limits → (rest front after : List ℕ) → rest ≡ front ++ after → ReadsFew limits rest (Some not_utf8) → Breaks limits front not_utf8 → length after ≤ 64
past_record limits sizes rest front after is few shown =
    let whole : spelling few.0 ++ few.1 ≡ spelling shown.0 ++ (shown.1 ++ after) = sym few.2 ∙ is ∙ ap (λ (w : List ℕ). w ++ after) shown.2 ∙ append_assoc (spelling shown.0) shown.1 after in
    let same = spelling_one few.0 shown.0 few.1 (shown.1 ++ after) (range_writable limits sizes (head_of few.0) few.3) (range_writable limits sizes (head_of shown.0) shown.3) whole in
    omega (arith, few.4, ap length same.1, length-append shown.1 after)

past_all : (rest front after : List ℕ) → rest ≡ front ++ after → length rest ≤ 64 → length after ≤ 64
past_all rest front after is few = omega (arith, few, ap length is, length-append front after)

-- a front shows a flaw: it is that of all the bytes, which want no others
same_flaw : (limits : Bounds) → IsInRange limits → (rest front after : List ℕ) (flaw : Option Flaw) (shown : Flaw) → rest ≡ front ++ after → EndsWith limits rest flaw → Breaks limits front shown → wants_bytes (Some shown) ≡ false → Some shown ≡ flaw
same_flaw limits sizes rest front after flaw shown is ends breaks wants =
    one_end limits sizes rest (Some shown) flaw
    (subst (λ (w : List ℕ). EndsWith limits w (Some shown)) (sym is) (ends_more limits front after (Some shown) breaks (λ w. let clash : true ≡ false = sym w ∙ wants in absurd cc)))
    ends

past_one : (limits : Bounds) → IsInRange limits → (rest front after : List ℕ) (flaw : Flaw) → rest ≡ front ++ after → ReadsFew limits rest (Some flaw) → Breaks limits front flaw → wants_bytes (Some flaw) ≡ false → length after ≤ 64
past_one limits sizes rest front after cut_short is few shown wants = absurd cc
past_one limits sizes rest front after bad_end is few shown wants = past_head limits sizes rest front after is few shown
past_one limits sizes rest front after not_utf8 is few shown wants = past_record limits sizes rest front after is few shown
past_one limits sizes rest front after _ is few shown wants = past_all rest front after is few

-- of the bytes that end the records at most 64 come after a front that shows a flaw
past_front : (limits : Bounds) → IsInRange limits → (rest front after : List ℕ) (flaw : Option Flaw) (shown : Flaw) → rest ≡ front ++ after → EndsWith limits rest flaw → ReadsFew limits rest flaw → Breaks limits front shown → wants_bytes (Some shown) ≡ false → length after ≤ 64
past_front limits sizes rest front after flaw shown is ends few breaks wants =
    past_one limits sizes rest front after shown is (subst (ReadsFew limits rest) (sym (same_flaw limits sizes rest front after flaw shown is ends breaks wants)) few) breaks wants

-- the same where bytes are wanted, and one more was read
past_end : (limits : Bounds) → IsInRange limits → (rest extra front after : List ℕ) (flaw : Option Flaw) (shown : Flaw) → length extra ≤ 1 → (wants_bytes flaw ≡ false → extra ≡ []) → rest ++ extra ≡ front ++ after → EndsWith limits rest flaw → ReadsFew limits rest flaw → Breaks limits front shown → wants_bytes (Some shown) ≡ false
    → length after ≤ 64
past_end limits sizes rest extra front after flaw shown one none is ends few breaks wants = elim (cases_lt (length rest) (length front)) [
  | inl longer ↦ omega (arith, longer, one, ap length is, length-append rest extra, length-append front after)
  | inr within ↦
      let part : rest ≡ front ++ take (length rest - length front) after = sym (take_at rest extra (length rest) refl) ∙ ap (take (length rest)) is ∙ take_beyond (length rest) front after within in
      let less = past_front limits sizes rest front (take (length rest - length front) after) flaw shown part ends few breaks wants in
      let same = same_flaw limits sizes rest front (take (length rest - length front) after) flaw shown part ends breaks wants in
      omega (arith, ap length (none (ap wants_bytes (sym same) ∙ wants)), less, ap length is, ap length part, length-append rest extra, length-append front after, length-append front (take (length rest - length front) after))
]

-- **Of all that was read at most 64 bytes come after a front that shows a flaw.**
pub shows_near : (limits : Bounds) → IsInRange limits → (format : Format) (all rest extra : List ℕ) (records : List log.Record) (flaw : Option Flaw) → length extra ≤ 1 → (wants_bytes flaw ≡ false → extra ≡ []) → all ≡ ((first_line format ++ flat_map spelling records) ++ rest) ++ extra
    → EndsWith limits rest flaw → ReadsFew limits rest flaw → ShowsNear limits (Some format) all records
shows_near limits sizes format all rest extra records flaw one none all_is ends few front after shown is s =
    let base : List ℕ = first_line format ++ flat_map spelling records in
    let same : rest ++ extra ≡ s.rest ++ after =
    append_cancel_left base (rest ++ extra) (s.rest ++ after) (sym (append_assoc base rest extra) ∙ sym all_is ∙ is ∙ ap (λ (w : List ℕ). w ++ after) s.whole ∙ append_assoc base s.rest after) in
    past_end limits sizes rest extra s.rest after flaw shown one none same ends few s.breaks s.shown
