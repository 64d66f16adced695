use Rattle.std.specs.Prelude.{codes, if◌then◌else◌}
use Rattle.std.specs.Str.{bytes_eq}
use Rattle.std.proofs.Common.{◌≡◌, ◌∷◌, [], ◌++◌, ◌∙◌, Bool, Some, true, ap, sym}
use Rattle.std.proofs.lemmas.Result.{on_ok_weaker}
use Rattle.lsp_verdict.specs.Report.{encoding_name, line}
use Rattle.lsp_origins.proofs.older_encoding.push_if_named.Goals as goal

pub returns-then-eq : goal.returns-then-eq
returns-then-eq c =
    let old = c.args.facts.now in
    let name = c.args.name.now in
    let own = encoding_name (Some c.args.encoding) in
    let same : bytes_eq name own ≡ true =
    ap (bytes_eq name) (sym c.encoding_name-own.ensures) ∙ sym c.eq.ensures ∙ c.if-eq.true in
    on_ok_weaker c.word.result (λ said. said
    ∙ ap (λ w. old ++ line (codes "offset-encoding" ∷ w ∷ []) ∷ []) c.encoding_name-own.ensures
    ∙ ap (λ (b : Bool). old
    ++ (if b then line (codes "offset-encoding" ∷ own ∷ []) ∷ [] else [])) (sym same))
    c.word.ensures.ok
