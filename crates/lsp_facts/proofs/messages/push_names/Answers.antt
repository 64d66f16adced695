use Rattle.std.proofs.Common.{◌≡◌, ◌-◌, [], ◌∷◌, ◌++◌, length, ap, subst, ◌∙◌, string_bytes}
use Rattle.std.specs.Prelude.{OnOk}
use Rattle.lsp_facts.specs.Fact.{more_words}
use Rattle.lsp_facts.proofs.Offers.{offer_is}
use Rattle.lsp_facts.proofs.messages.push_names.Goals as goal

pub returns : goal.returns
returns c =
    let names = c.args.names.now in
    let n = c.count_fitting-count.result in
    let more = more_words (length names - n) in
    subst (λ fact. OnOk c.push_end.result (c.push_end.new.self ≡ c.args.facts.now ++ fact ∷ []))
    (offer_is names n (string_bytes c.push_more.new.words) c.count_fitting-count.ensures.count
    (c.in_ok-push_more.ensures ∙ ap (λ bs. bs ++ more) c.in_ok-words.ensures))
    c.push_end.ensures.ok
