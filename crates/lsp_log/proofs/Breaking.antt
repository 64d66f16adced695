-- What ends the records still does where more bytes follow, unless it is that bytes are missing.
use Rattle.std.proofs.Common.{◌≡◌, ◌⊎◌, ℕ, ◌+◌, ◌<◌, true, false, List, [], ◌∷◌, ◌++◌, length, drop, Option, Some, None, refl, sym, ap, subst, ◌∙◌, append_assoc, append-nil, inl, inr, arith}
use Rattle.std.specs.Prelude.{◌==◌, nat_le, slice_index}
use Rattle.std.proofs.lemmas.List.{length-append, take-append-le, drop-append-le}
use Rattle.lsp_frame.specs.Bounds.{Bounds}
use Rattle.lsp_log.specs.Log.{Flaw, bad_line, bad_number, cut_short, bad_end, not_utf8, EndsWith, HasLine, HasHead, Head, head_line, holds_feed, with_feed, parts_flaw, lengths_of, spelling, wants_bytes}
use Rattle.lsp_log.proofs.PartTests.{not_le, index_front, to_tests, of_tests, there_is}

line_more : (bytes line after more : List ℕ) → HasLine bytes line after → HasLine (bytes ++ more) line (after ++ more)
line_more bytes line after more h = record {
  whole = ap (λ (w : List ℕ). w ++ more) h.whole ∙ append_assoc (with_feed line) after more;
  short = h.short;
  one = h.one;
}

head_more : (limits : Bounds) (bytes : List ℕ) (head : Head) (after more : List ℕ) → HasHead limits bytes head after → HasHead limits (bytes ++ more) head (after ++ more)
head_more limits bytes head after more h = record { line = line_more bytes (head_line head) after more h.line; range = h.range }

parts_more : (ns bytes more : List ℕ) → parts_flaw ns bytes ≡ Some bad_end → parts_flaw ns (bytes ++ more) ≡ Some bad_end
parts_more [] bytes more e = absurd cc
parts_more (n ∷ ns) bytes more e =
    let t = to_tests (nat_le (length bytes) n) (slice_index bytes n == 10) (parts_flaw ns (drop (n + 1) bytes)) e in
    let below : n < length bytes = there_is n bytes t.there in
    of_tests (nat_le (length (bytes ++ more)) n) (slice_index (bytes ++ more) n == 10) (parts_flaw ns (drop (n + 1) (bytes ++ more)))
    (record {
      there = not_le (length (bytes ++ more)) n (omega (arith, below, length-append bytes more));
      ends = further (parts_more ns (drop (n + 1) bytes) more) t.ends below;
    })
  where
    further : (parts_flaw ns (drop (n + 1) bytes) ≡ Some bad_end → parts_flaw ns (drop (n + 1) bytes ++ more) ≡ Some bad_end)
        → (((slice_index bytes n == 10) ≡ true) × (parts_flaw ns (drop (n + 1) bytes) ≡ Some bad_end)) ⊎ ((slice_index bytes n == 10) ≡ false)
        → n < length bytes
        → (((slice_index (bytes ++ more) n == 10) ≡ true) × (parts_flaw ns (drop (n + 1) (bytes ++ more)) ≡ Some bad_end)) ⊎ ((slice_index (bytes ++ more) n == 10) ≡ false)
    further next (inl p) below = inl (ap (λ b. b == 10) (index_front bytes more n below) ∙ p.0, ap (parts_flaw ns) (drop-append-le (n + 1) bytes more (omega arith)) ∙ next p.1)
    further next (inr p) below = inr (ap (λ b. b == 10) (index_front bytes more n below) ∙ p)

no_more : (limits : Bounds) (rest more : List ℕ) (flaw : Option Flaw) → more ≡ [] → EndsWith limits rest flaw → EndsWith limits (rest ++ more) flaw
no_more limits rest more flaw none ends = subst (λ (w : List ℕ). EndsWith limits w flaw) (sym (ap (λ (w : List ℕ). rest ++ w) none ∙ append-nil rest)) ends

-- **What ends the records still ends them where more bytes follow, unless bytes are wanted.**
pub ends_more : (limits : Bounds) (rest more : List ℕ) (flaw : Option Flaw) → EndsWith limits rest flaw → (wants_bytes flaw ≡ true → more ≡ []) → EndsWith limits (rest ++ more) flaw
ends_more limits rest more None ends none = no_more limits rest more None (none refl) ends
ends_more limits rest more (Some cut_short) ends none = no_more limits rest more (Some cut_short) (none refl) ends
ends_more limits rest more (Some bad_line) (inl long) none = inl (omega (arith, long.0, length-append rest more), ap holds_feed (take-append-le 64 rest more long.0) ∙ long.1)
ends_more limits rest more (Some bad_line) (inr bad) none = inr (bad.0, bad.1 ++ more, line_more rest bad.0 bad.1 more bad.2, bad.3)
ends_more limits rest more (Some bad_number) bad none = (bad.0, bad.1 ++ more, line_more rest (head_line bad.0) bad.1 more bad.2, bad.3, bad.4)
ends_more limits rest more (Some bad_end) bad none = (bad.0, bad.1 ++ more, head_more limits rest bad.0 bad.1 more bad.2, parts_more (lengths_of bad.0) bad.1 more bad.3)
ends_more limits rest more (Some not_utf8) bad none = (bad.0, bad.1 ++ more, ap (λ (w : List ℕ). w ++ more) bad.2 ∙ append_assoc (spelling bad.0) bad.1 more, bad.3, bad.4)
