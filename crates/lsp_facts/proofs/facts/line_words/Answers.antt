use Rattle.std.proofs.Common.{◌≡◌, sym, subst, ◌∷◌, ◌++◌, string_bytes}
use Rattle.std.specs.Prelude.{IfOk}
use Rattle.std.proofs.lemmas.Str.{encodes-chars}
use Rattle.json.specs.Print.{quoted}
use Rattle.lsp_facts.proofs.facts.line_words.Goals as goal

pub returns : goal.returns
returns c =
    subst (λ t. IfOk c.text_words.result (λ words. string_bytes words
    ≡ c.args.key.now ++ 32 ∷ quoted t)) (sym (encodes-chars c.args.text.now c.utf8.text))
    c.text_words.ensures
