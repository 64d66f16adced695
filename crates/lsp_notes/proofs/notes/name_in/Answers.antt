use Rattle.std.proofs.Common.{List, sym, ap, ◌∙◌}
use Rattle.lsp_trail.specs.Common.{encoding, kept_of, Sent, sent_in, terms_in}
use Rattle.lsp_trail.proofs.SessionSteps.{sents-numbered}
use Rattle.lsp_notes.specs.Notes.{other_name}
use Rattle.lsp_notes.proofs.notes.name_in.Goals as goal

pub returns : goal.returns
returns c = λ before stands.
    let terms = terms_in c.args.past in
    let older = c.older_encoding.ensures ∙ stands.trail.said.notes_are.older_is in
    let agreed = c.encoding.ensures (sent_in (kept_of terms before)) stands.holds.sent
    ∙ ap (λ (l : List Sent). encoding l) (sym (sents-numbered terms before)) in
    c.other_name.ensures ∙ (λ i. other_name (older i) (agreed i))
