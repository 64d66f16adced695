use Rattle.std.specs.Prelude.{if◌then◌else◌, unwrap_or}
use Rattle.std.proofs.Common.{[], ◌++◌, ◌∙◌, Bool, ap, sym}
use Rattle.std.proofs.lemmas.Result.{on_ok_weaker}
use Rattle.lsp_trail.specs.Common.{encoding, kept_of, older_encoding, sent_in, terms_in, Utf16}
use Rattle.lsp_origins.specs.OlderEncoding.{older_facts}
use Rattle.lsp_trail.proofs.SessionSteps.{sents-numbered}
use Rattle.lsp_origins.proofs.older_encoding.trace_older.Goals as goal

pub returns : goal.returns
returns c = on_ok_weaker c.push_older.result (λ said before stands.
    let terms = terms_in c.args.past in
    let sent = sent_in (kept_of terms before) in
    let old = c.args.facts.now in
    let name = c.older_encoding.ensures ∙ stands.trail.said.notes_are.older_is
    ∙ ap older_encoding (sents-numbered terms before) in
    let agreed = c.unwrap_or-agreed.ensures
    ∙ ap (λ o. unwrap_or o Utf16) (c.encoding.ensures sent stands.holds.sent) in
    said ∙ (λ i. old ++ older_facts (name i) (agreed i))
    ∙ ap (λ (b : Bool). old
    ++ (if b then older_facts (older_encoding sent) (unwrap_or (encoding sent) Utf16) else []))
    (sym c.if-not-is_of_columns.false ∙ c.is_of_columns.ensures)) c.push_older.ensures
