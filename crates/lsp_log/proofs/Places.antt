-- The line that stands where the records end.
use Rattle.std.proofs.Common.{◌≡◌, ◌⊎◌, ℕ, zero, suc, ◌-◌, ◌≤◌, true, List, [], ◌++◌, length, take, drop, Option, Some, refl, sym, ap, ◌∙◌, append_assoc, inl, inr}
use Rattle.std.specs.List.{flat_map}
use Rattle.std.proofs.lemmas.List.{drop_at}
use Rattle.lsp_frame.specs.Bounds.{Bounds}
use Rattle.lsp_frame.specs.declared.format.Format.{Format}
use Rattle.lsp_frame.proofs.Frames.{take_beyond}
use Rattle.lsp_log.specs.Log as log
use Rattle.lsp_log.specs.Log.{Flaw, spelling, first_line, wants_bytes}
use Rattle.lsp_log.specs.Place.{line_of, found_behind}
use Rattle.lsp_log.specs.Stops.{HoldsLine}

pub take_none : (n : ℕ) (xs : List ℕ) → (n ≡ 0) ⊎ (xs ≡ []) → take n xs ≡ []
take_none n xs (inl e) = ap (λ (k : ℕ). take k xs) e
take_none zero xs (inr e) = refl
take_none (suc n) xs (inr e) = ap (take (suc n)) e

-- the bytes up to here are within the limit, and then others follow; where bytes are wanted, none
-- of those are within the limit
pub shown_there : (limits : Bounds) (format : Format) (bytes more rest held : List ℕ) (records : List log.Record) (flaw : Option Flaw) → bytes ≡ (first_line format ++ flat_map spelling records) ++ rest → length bytes ≤ limits.log
    → HoldsLine held rest flaw → (wants_bytes flaw ≡ true → (limits.log - length bytes ≡ 0) ⊎ (more ≡ [])) → line_of (take 64 held) ≡ found_behind limits (Some format) records (bytes ++ more)
shown_there limits format bytes more rest held records flaw is within line wants =
    let front : List ℕ = first_line format ++ flat_map spelling records in
    let tail : List ℕ = take (limits.log - length bytes) more in
    let all : take limits.log (bytes ++ more) ≡ front ++ (rest ++ tail) = take_beyond limits.log bytes more within ∙ ap (λ (w : List ℕ). w ++ tail) is ∙ append_assoc front rest tail in
    line tail (λ w. take_none (limits.log - length bytes) more (wants w))
    ∙ ap (λ (w : List ℕ). line_of (take 64 w)) (sym (drop_at front (rest ++ tail) (length front) refl))
    ∙ ap (λ (w : List ℕ). line_of (take 64 (drop (length front) w))) (sym all)
