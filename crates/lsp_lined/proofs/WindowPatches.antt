-- Texts put into the chunks by a patch, where a window is closed or none is.
use Rattle.std.proofs.Common.{◌≡◌, ◌<◌, ◌-◌, ◌^◌, ◌++◌, ℕ, List, length, ap, ◌∙◌, arith}
use Rattle.std.specs.List.{replace_range}
use Rattle.std.proofs.lemmas.List.{append-nil, drop_all}
use Rattle.std.specs.Str.{IsUtf8}
use Rattle.lsp_lined.specs.Sums.{sums_of}
use Rattle.lsp_lined.specs.Patches.{IsPatch}
use Rattle.lsp_lined.specs.Windows.{text_with, IsWindowed, IsClosed}
use Rattle.lsp_lined.specs.declared.sums.Sums.{Sums}
use Rattle.lsp_lined.specs.declared.lined.patch.Patch.{Patch}
use Rattle.lsp_lined.specs.declared.lined.window.Windowed.{Windowed}
use Rattle.lsp_lined.proofs.WindowEdits.{NoWindow, held_apart, replaced_tree}

-- ---- a window is closed

-- a patch that puts the window's text into the chunks makes the text
patched_tree : (w : Windowed) (text : List ℕ) (p : Patch)
    → IsPatch w.tree w.before.bytes w.skipped.bytes text p → text ≡ w.window
    → replace_range w.tree p.from p.to p.text.now ≡ text_with w
patched_tree w text p h is =
    h.same ∙ ap (λ (x : List ℕ). replace_range w.tree w.before.bytes w.skipped.bytes x) is
    ∙ replaced_tree w

pub patched_fits : (w : Windowed) (text : List ℕ) (p : Patch) → IsWindowed w
    → IsPatch w.tree w.before.bytes w.skipped.bytes text p → text ≡ w.window
    → length (replace_range w.tree p.from p.to p.text.now) < 2 ^ 64
patched_fits w text p h q is = omega (arith, h.fits, ap length (patched_tree w text p q is))

-- ---- another text takes the place of all of it

replaced_whole : (bs text : List ℕ) → replace_range bs 0 (length bs) text ≡ text
replaced_whole bs text =
    ap (λ (x : List ℕ). text ++ x) (drop_all (length bs) bs (omega arith)) ∙ append-nil text

-- a patch that puts it there makes this text
renewed_tree : (w : Windowed) (text : List ℕ) (p : Patch) → IsPatch w.tree 0 (length w.tree) text p
    → replace_range w.tree p.from p.to p.text.now ≡ text
renewed_tree w text p q = q.same ∙ replaced_whole w.tree text

pub renewed_fits : (w : Windowed) (text : List ℕ) (p : Patch)
    → IsPatch w.tree 0 (length w.tree) text p → length text < 2 ^ 64
    → length (replace_range w.tree p.from p.to p.text.now) < 2 ^ 64
renewed_fits w text p q fits = omega (arith, fits, ap length (renewed_tree w text p q))

pub renewed : (w : Windowed) (text tree : List ℕ) (sums : Sums) (p : Patch) → IsWindowed w
    → IsClosed w → IsPatch w.tree 0 (length w.tree) text p
    → tree ≡ replace_range w.tree p.from p.to p.text.now → sums ≡ sums_of tree → IsUtf8 text
    → length text < 2 ^ 64 - 1
    → NoWindow tree w.window w.before w.skipped sums w.same_front w.same_back text
renewed w text tree sums p h c q made counted u fits =
    held_apart w text tree sums h c (made ∙ renewed_tree w text p q) counted u fits
