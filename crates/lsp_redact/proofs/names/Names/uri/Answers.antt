use Rattle.std.proofs.Common.{string_bytes}
use Rattle.lsp_redact.proofs.NamesShown.{uri_named}
use Rattle.lsp_redact.proofs.names.Names.uri.Goals as goal

pub returns : goal.returns
returns c =
    uri_named c.args.self.now c.of.new.self c.args.uri.now c.in_ok-number.number
    (string_bytes c.in_ok-shown.shown) c.in_ok-number.ensures.seen c.in_ok-number.ensures.number
    c.in_ok-shown.ensures
