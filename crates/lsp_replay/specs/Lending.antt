-- What the streams are once the event that they lent is given back.
use Rattle.std.specs.Prelude.{Option}
use Rattle.std.specs.Borrow.{MutBor, Fml}
use Rattle.std.specs.Io.BufRead.{Rests}
use Rattle.lsp_replay.specs.Streams.{State, NextIs}
use Rattle.lsp_replay.specs.contracts.streams.Streams.{the_row}
use Rattle.lsp_verdict.specs.declared.raw.Raw.{Raw}

abbrev pub LendsRaw : MutBor State → Option Raw → Fml
LendsRaw streams result = Rests the_row streams (λ new. NextIs streams.now new result)
