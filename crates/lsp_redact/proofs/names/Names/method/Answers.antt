use Rattle.std.proofs.Common.{refl, string_bytes, sym, ◌∙◌}
use Rattle.lsp_redact.specs.Names.{is_known}
use Rattle.lsp_redact.proofs.NamesShown.{method_named, method_same}
use Rattle.lsp_redact.proofs.names.Names.method.Goals as goal

pub returns-then-is_known : goal.returns-then-is_known
returns-then-is_known c =
    method_same c.args.self.now c.args.method.now (string_bytes c.in_ok-same.same)
    (is_known c.args.method.now) refl (sym c.is_known.ensures ∙ c.if-is_known.true)
    c.in_ok-same.ensures.ok

pub returns : goal.returns
returns c =
    method_named c.args.self.now c.of.new.self c.args.method.now c.in_ok-number.number
    (string_bytes c.in_ok-shown.shown) (is_known c.args.method.now)
    (sym c.is_known.ensures ∙ c.if-is_known.false) c.in_ok-number.ensures.seen
    c.in_ok-number.ensures.number c.in_ok-shown.ensures
