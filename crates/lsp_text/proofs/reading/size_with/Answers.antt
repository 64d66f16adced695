use Rattle.std.proofs.Common.{None, refl, sym}
use Rattle.std.specs.Str.{chars}
use Rattle.lsp_text.specs.Sizes.{IsSizeWith}
use Rattle.lsp_text.proofs.Counting.{units-utf8_text}
use Rattle.lsp_text.proofs.reading.size_with.Goals as goal

pub returns-in-None : goal.returns-in-None
returns-in-None c =
    let s = c.args.insertion.now in
    let whole : IsSizeWith c.args.encoding (chars c.args.text.now) None (chars s) _ =
    record { made = chars s; change = λ limit. refl; size = sym (units-utf8_text s c.utf8.insertion) }
    in
    rw c.in-None.is whole
