use Rattle.std.proofs.Common.{◌≡◌, subst, sym}
use Rattle.std.proofs.lemmas.Slice.Eq.{bytes_eq-Decides}
use Rattle.serde_json.specs.Data.{string}
use Rattle.lsp_walk.specs.Walk.{IsValue}
use Rattle.lsp_outline.proofs.members.given_text.Goals as goal

pub returns-then-eq : goal.returns-then-eq
returns-then-eq c = λ depth.
    let found = c.in_ok-found in
    let same : found.found.now ≡ c.args.wanted.now =
    (bytes_eq-Decides found.found.now c.args.wanted.now).0 (sym c.if-eq.ensures) in
    subst (λ s. IsValue depth c.args.text.now c.args.from found.end (string s)) same
    (found.ensures depth)
