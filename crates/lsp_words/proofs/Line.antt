-- The command line: words are read by it plainly, and there is one.
use Rattle.std.proofs.Common.{◌≡◌, true, [], ◌∷◌, map, codes, refl, ap}
use Rattle.std.specs.Borrow.{Bor}
use Rattle.clap.specs.Words.{App, is_simple, is_simple_and_free}
use Rattle.lsp_words.specs.CommandLine.{IsCommandLine, Modes, command_line}

pub line_simple : (app : App) → IsCommandLine app → is_simple app ≡ true
line_simple app line = ap is_simple line.2

pub line_free : (app : App) → IsCommandLine app → is_simple_and_free app ≡ true
line_free app line = ap is_simple_and_free line.2

-- ---- one of them

abbrev at_zero : {X : Type 0} → X → Bor X
at_zero x = record { ref_ptr = (0, 0); now = x }

abbrev pub some_modes : Modes
some_modes = at_zero (map at_zero (codes "lengths" ∷ codes "canonical" ∷ codes "kinds" ∷ []))

pub some_line : (app : App) × IsCommandLine app
some_line = (command_line some_modes, (some_modes, refl, refl))
