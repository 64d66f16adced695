-- What a decoder is once the content that it lent is given back.
use Rattle.std.specs.Prelude.{ℕ, List, Option, Some, None, Result, Ok, Err}
use Rattle.std.specs.Borrow.{MutBor, Fml}
use Rattle.std.specs.Io.BufRead.{Rests}
use denote.Ref.{Bor}
use Rattle.lsp_frame.specs.declared.decoder.FrameFault.{FrameFault}
use Rattle.lsp_frame.specs.contracts.decoder.Decoder.{the_row}
use Rattle.lsp_frame.specs.Decoder.{State, Next}

abbrev pub Gives : State → State → Result (Option (Bor (List ℕ))) FrameFault → Type 0
Gives old new (Ok (Some content)) = Next old new (Ok (Some content.now))
Gives old new (Ok None) = Next old new (Ok None)
Gives old new (Err fault) = Next old new (Err fault.rule)

abbrev pub LendsContent : MutBor State → Result (Option (Bor (List ℕ))) FrameFault → Fml
LendsContent decoder result = Rests the_row decoder (λ new. Gives decoder.now new result)
