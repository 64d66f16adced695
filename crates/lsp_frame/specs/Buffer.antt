-- How a decoder's fields stand for what it holds, and what its private functions answer.
use Rattle.std.specs.Prelude.{◌≡◌, ℕ, ◌-◌, ◌≤◌, List, length, drop, Option, Some, None, Result, Ok, Err, IfSome}
use Rattle.lsp_frame.specs.Bounds.{Bounds}
use Rattle.lsp_frame.specs.Frame.{Breaks}
use Rattle.lsp_frame.specs.Start.{StartsWithHeader}
use Rattle.lsp_frame.specs.Decoder.{State, GivesNothing, GivesFault, Next}
use Rattle.lsp_frame.specs.declared.start.FrameSize.{FrameSize}
use Rattle.lsp_frame.specs.declared.decoder.FrameFault.{FrameFault}

-- a header part that was read comes before the rest
abbrev pub AheadStands : Bounds → List ℕ → Option FrameSize → Type 0
AheadStands limits rest ahead = IfSome ahead (λ size. StartsWithHeader limits rest size)

-- a fault that was given is that of the rest
abbrev pub FaultStands : Bounds → List ℕ → Option ℕ → Type 0
FaultStands limits rest fault = IfSome fault (λ rule. Breaks limits rest rule)

-- the last n of the bytes
abbrev pub last_of : List ℕ → ℕ → List ℕ
last_of bytes n = drop (length bytes - n) bytes

-- reading the header part ahead: the size of its frame, nothing, or a fault
abbrev pub ReadsAhead : State → State → Result (Option FrameSize) FrameFault → Type 0
ReadsAhead old new (Ok (Some size)) = (new ≡ old) × (old.fault ≡ None) × StartsWithHeader old.limits old.rest size
ReadsAhead old new (Ok None) = GivesNothing old new
ReadsAhead old new (Err fault) = GivesFault old new fault.rule

-- going past the next frame: `next` without the loan, the content being the last bytes of those
-- given
abbrev pub Advances : State → State → Result (Option ℕ) FrameFault → Type 0
Advances old new (Ok (Some len)) = (len ≤ length new.kept) × Next old new (Ok (Some (last_of new.kept len)))
Advances old new (Ok None) = Next old new (Ok None)
Advances old new (Err fault) = Next old new (Err fault.rule)
