use Rattle.std.proofs.Common.{◌≡◌, [], ◌∷◌, ◌++◌, ap, sym, ◌∙◌, subst}
use Rattle.std.proofs.lemmas.List.{append-nil}
use Rattle.std.specs.Prelude.{OnOk, codes, string_bytes}
use Rattle.json.specs.Print.{quoted}
use Rattle.lsp_verdict.specs.Report.{line}
use lib.Utf8.{encode, encodes}
use Rattle.lsp_facts.proofs.facts.Facts.inside.Goals as goal

pub returns : goal.returns
returns c =
    let ch = c.args.c in
    let bytes : string_bytes c.push.new.self ≡ encodes (ch ∷ []) =
    c.in_ok-push.ensures.bytes ∙ ap (λ bs. bs ++ encode ch) c.new-text.ensures.bytes
    ∙ sym (append-nil (encode ch)) in
    subst (λ t. OnOk c.text.result (c.text.new.self
    ≡ c.args.self.now ++ line (codes "inside" ∷ quoted t ∷ []) ∷ [])) (c.as_str.ensures.value ∙ bytes)
    c.text.ensures.ok
