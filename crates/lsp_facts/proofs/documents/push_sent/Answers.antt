use Rattle.std.proofs.Common.{ℕ, [], ◌∷◌, ◌++◌, ap, sym, ◌∙◌, w32, append_assoc, rules}
use Rattle.std.proofs.lemmas.Int.{to_z-of_z}
use Rattle.std.proofs.lemmas.Result.{on_ok_weaker}
use Rattle.std.specs.Prelude.{codes, decimal, length}
use mir.Val.{SFits}
use Rattle.lsp_docs.specs.Taken.{call_view}
use Rattle.lsp_verdict.specs.Report.{line}
use Rattle.lsp_facts.specs.DocumentFacts.{sent_facts}
use Rattle.lsp_facts.specs.Fact.{Fact, sends}
use Rattle.lsp_facts.proofs.MadeChanges.{seen_length}
use Rattle.lsp_facts.proofs.documents.push_sent.Goals as goal

-- how many changes there are
abbrev has : ℕ → Fact
has n = line (codes "changes" ∷ decimal n ∷ [])

pub returns-in_ok-version-in-Changes : goal.returns-in_ok-version-in-Changes
returns-in_ok-version-in-Changes c =
    let fits : SFits w32 c.in-Changes.version = search rules in
    let cs = c.in-Changes.changes.now in
    let said : Fact = sends c.in-Changes.version in
    let sent = simp to_z-of_z at c.in_ok-version-in-Changes.ensures.ok in
    on_ok_weaker c.number.result (λ is.
    is ∙ ap (λ l. l ++ has (length cs) ∷ []) sent
    ∙ append_assoc c.args.facts.now (said ∷ []) (has (length cs) ∷ [])
    ∙ ap (λ n. c.args.facts.now ++ said ∷ has n ∷ []) (sym (seen_length cs))
    ∙ sym (ap (λ x. c.args.facts.now ++ sent_facts (call_view x)) c.in-Changes.is))
    c.number.ensures.ok
