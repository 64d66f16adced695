use Rattle.std.proofs.Common.{inl, inr, sym}
use Rattle.std.specs.List.{replace_range}
use Rattle.std.specs.Str.{chars}
use Rattle.lsp_text.proofs.Splices.{replaced-between, replaced-reversed, units-replaced, no_first, no_second}
use Rattle.lsp_text.proofs.reading.size_between.Goals as goal

pub returns-in_err-first : goal.returns-in_err-first
returns-in_err-first c = rw c.from_residual.ensures (λ limit. inl (no_first c.args.encoding (chars c.args.text.now) (chars c.args.insertion.now) c.args.span limit c.in_err-first.ensures))

pub returns-in_err-second : goal.returns-in_err-second
returns-in_err-second c = rw c.from_residual-in_err-second.ensures
    (λ limit. inl (no_second c.args.encoding (chars c.args.text.now) (chars c.args.insertion.now) c.args.span limit _ c.in_ok-first.ensures.place c.in_err-second.ensures))

pub returns-then-second-first : goal.returns-then-second-first
returns-then-second-first c = λ limit. inr (replaced-reversed c.args.encoding c.args.text.now (chars c.args.insertion.now) c.args.span limit c.in_ok-first.first c.in_ok-second.second
    c.utf8.text c.in_ok-first.ensures c.in_ok-second.ensures c.if-second-first.true)

pub returns : goal.returns
returns c =
    let bs = c.args.text.now in
    let s = c.args.insertion.now in
    let i = c.in_ok-first.first in
    let j = c.in_ok-second.second in
    record {
      made = chars (replace_range bs i j s);
      change = λ limit. replaced-between c.args.encoding bs s c.args.span limit i j c.utf8.text c.utf8.insertion c.in_ok-first.ensures c.in_ok-second.ensures c.if-second-first.false;
      size = sym (units-replaced bs s i j c.utf8.text c.utf8.insertion c.in_ok-first.ensures.boundary c.in_ok-second.ensures.boundary);
    }
