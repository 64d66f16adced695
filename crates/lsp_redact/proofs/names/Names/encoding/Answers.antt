use Rattle.std.proofs.Common.{refl, string_bytes, sym, ◌∙◌}
use Rattle.lsp_redact.specs.Names.{is_encoding}
use Rattle.lsp_redact.proofs.NamesShown.{encoding_named, encoding_same}
use Rattle.lsp_redact.proofs.names.Names.encoding.Goals as goal

pub returns-then-is_encoding : goal.returns-then-is_encoding
returns-then-is_encoding c =
    encoding_same c.args.self.now c.args.name.now (string_bytes c.in_ok-same.same)
    (is_encoding c.args.name.now) refl (sym c.is_encoding.ensures ∙ c.if-is_encoding.true)
    c.in_ok-same.ensures.ok

pub returns : goal.returns
returns c =
    encoding_named c.args.self.now c.of.new.self c.args.name.now c.in_ok-number.number
    (string_bytes c.in_ok-shown.shown) (is_encoding c.args.name.now)
    (sym c.is_encoding.ensures ∙ c.if-is_encoding.false) c.in_ok-number.ensures.seen
    c.in_ok-number.ensures.number c.in_ok-shown.ensures
