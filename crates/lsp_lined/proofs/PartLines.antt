-- The lines of parts, with a LF for each line end.
use Rattle.std.proofs.Common.{◌≡◌, ℕ, true, false, List, [], ◌∷◌, ◌++◌, ap, ◌∙◌}
use Rattle.lsp_text.specs.Lines.{EndsWith}
use Rattle.lsp_text.specs.SameText.{with_feeds}
use Rattle.lsp_text.proofs.SameTexts.{with_feeds-append}
use Rattle.lsp_lined.specs.Ends.{ends_with_return, joins}
use Rattle.lsp_lined.proofs.Parts.{ends_with_return-append}

-- two texts that part no CR LF
pub feeds-joins : (a b : List ℕ) → joins a b ≡ false
    → with_feeds (a ++ b) ≡ with_feeds a ++ with_feeds b
feeds-joins a b h = with_feeds-append a b (λ e. rw (returns e) at h)
  where
    returns : EndsWith a (13 ∷ []) → ends_with_return false a ≡ true
    returns e = ap (ends_with_return false) e.text
        ∙ ends_with_return-append false e.before (13 ∷ [])
