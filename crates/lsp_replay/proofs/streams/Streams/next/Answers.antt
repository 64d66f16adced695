use Rattle.std.proofs.Common.{Some, None, refl}
use Rattle.lsp_replay.proofs.Pulling.{fewer}
use Rattle.lsp_replay.proofs.Streaming.{stepped, lent}
use Rattle.lsp_replay.proofs.streams.Streams.next.Goals as goal

pub returns-in-None : goal.returns-in-None
returns-in-None c =
    let new = c.advance.new.self in
    let steps = rw c.in-None.is at c.advance.ensures in (
      (
        refl,
        λ s. tt,
        record {
          gives = λ limits records given due.
              stepped limits records given due c.args.self.now new None steps;
          less = tt;
        },
      ),
      record { lends = tt },
    )

pub returns-in-Some : goal.returns-in-Some
returns-in-Some c =
    let due = c.in-Some.due in
    let old = c.args.self.now in
    let new = c.advance.new.self in
    let steps = rw c.in-Some.is at c.advance.ensures in (
      (
        refl,
        λ s. tt,
        record {
          gives = λ limits records given left h.
              lent limits new records given left due _ c.lend.ensures.raw
              (stepped limits records given left old new (Some due) steps h);
          less = fewer old new due steps;
        },
      ),
      record { lends = tt },
    )
