-- What holds of the log that a source in memory gives holds of the bytes there.
use Rattle.std.proofs.Common.{◌≡◌, ℕ, true, List, Option, Some, None, sym, ◌∙◌}
use Rattle.std.specs.Io.KnownBytes.{Consumes, IsAtEnd}
use Rattle.lsp_replay.specs.Common.{Bounds, OfRead, Told}
use Rattle.lsp_verdict.specs.Runs.{GoesOn}

pub of_memory : (limits : Bounds) (log : List ℕ) (before after : Told) (Holds : List ℕ → Type 0)
    → before.bytes ≡ Some log → OfRead limits before after Holds → Holds log
of_memory limits log before after Holds is r =
    r.holds log (goes before.bytes after.bytes is r.read.gave.bytes r.read.end)
  where
    goes : (old new : Option (List ℕ)) → old ≡ Some log → Consumes old new r.bytes
        → (r.ended ≡ true → IsAtEnd new) → GoesOn r.bytes r.ended log
    goes None new is taken end = absurd (cc is)
    goes (Some xs) None is taken end = absurd taken
    goes (Some xs) (Some ys) is taken end =
        let same : xs ≡ log = cc is in (ys, sym same ∙ taken, end)
