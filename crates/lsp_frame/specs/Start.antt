-- What the code finds at the front of bytes.
use Rattle.std.specs.Prelude.{ℕ, ◌≤◌, List, length, take, None, Ok}
use Rattle.lsp_frame.specs.Bounds.{Bounds}
use Rattle.lsp_frame.specs.Header.{Says}
use Rattle.lsp_frame.specs.Frame.{IsHeader, Begins, Breaks, HasFault}
use Rattle.lsp_frame.specs.declared.start.FrameSize.{FrameSize}
use Rattle.lsp_frame.specs.declared.start.Start.{Start}
use Rattle.lsp_frame.specs.declared.start.Start.TheVariants.{Header, Fault, Unfinished}

-- the bytes begin with a header part without fault, of this length and for a content of this length
pub record StartsWithHeader (limits : Bounds) (bytes : List ℕ) (size : FrameSize) : Type 0 where
  pub fits : size.header ≤ length bytes
  pub part : IsHeader limits (take size.header bytes)
  pub says : Says limits (take size.header bytes) (Ok size.content)

-- the bytes begin with no header part without fault
abbrev pub StartsWithNone : Bounds → List ℕ → Type 0
StartsWithNone limits bytes = (size : FrameSize) → StartsWithHeader limits bytes size → ⊥

-- the bytes begin with neither a frame nor a fault
pub record StartsUnfinished (limits : Bounds) (bytes : List ℕ) : Type 0 where
  pub no_frame : (content after : List ℕ) → Begins limits bytes content after → ⊥
  pub no_fault : HasFault limits bytes None

abbrev pub StartsAs : Bounds → List ℕ → Start → Type 0
StartsAs limits bytes (Header size) = StartsWithHeader limits bytes size
StartsAs limits bytes (Fault rule) = Breaks limits bytes rule
StartsAs limits bytes Unfinished = StartsUnfinished limits bytes × StartsWithNone limits bytes
