-- Whether a snapshot is within the limits.
use Rattle.std.proofs.Common.{◌≡◌, ℕ, ℤ, pos, negsuc, ◌^◌, Bool, true, ◌&&◌, List, length, sym, ◌∙◌, w32}
use Rattle.std.specs.Prelude.{IsTrue, IsUtf8, ◌↔◌}
use Rattle.std.proofs.lemmas.Bool.{and_parts, and_from}
use borrow.Author.Tests.{lt-ltb}
use mir.Val.{SFits}
use Rattle.lsp_frame.specs.Bounds.{Bounds}
use Rattle.lsp_log.specs.Log.{shown, Fits, is_within, is_i32}

pub i32_fits : (v : ℤ) → SFits w32 v → is_i32 v ≡ true
i32_fits (pos n) f = lt-ltb n (2 ^ 31) f.sfits
i32_fits (negsuc n) f = lt-ltb n (2 ^ 31) f.sfits

pub fits_shown : (limits : Bounds) (v : ℤ) (uri text : List ℕ) (short small : Bool) → is_i32 v ≡ true → IsUtf8 uri → IsUtf8 text → short ≡ is_within 1 8192 (length uri) → short ≡ true → small ≡ is_within 0 limits.document (length text)
    → IsTrue small ↔ Fits limits (shown v uri text)
fits_shown limits v uri text short small version one other is_short held is_small = (
  λ t. record {
    range = and_from (is_i32 v && is_within 1 8192 (length uri)) (is_within 0 limits.document (length text)) (and_from (is_i32 v) (is_within 1 8192 (length uri)) version (sym is_short ∙ held)) (sym is_small ∙ t);
    text = (one, other);
  },
  λ f. is_small ∙ (and_parts (is_i32 v && is_within 1 8192 (length uri)) (is_within 0 limits.document (length text)) f.range).1,
)
