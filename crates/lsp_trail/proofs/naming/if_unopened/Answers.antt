use Rattle.std.specs.Prelude.{if◌then◌else◌}
use Rattle.std.proofs.Common.{◌∙◌, Bool, None, Some, ap, sym}
use Rattle.lsp_trail.proofs.naming.if_unopened.Goals as goal

pub returns-then-is_open : goal.returns-then-is_open
returns-then-is_open c = λ calls stands.
    ap (λ (b : Bool). if b then None else Some c.args.uri.now)
    (sym c.if-is_open.true ∙ c.is_open.ensures calls stands)

pub returns-else-is_open : goal.returns-else-is_open
returns-else-is_open c = λ calls stands.
    ap (λ (b : Bool). if b then None else Some c.args.uri.now)
    (sym c.if-is_open.false ∙ c.is_open.ensures calls stands)
