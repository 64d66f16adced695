use Rattle.std.specs.Prelude.{drop, min}
use Rattle.std.proofs.Common.{◌≡◌, ◌∙◌, ap, length, rules}
use Rattle.std.proofs.lemmas.List.{drop_min}
use Rattle.lsp_notes.proofs.document_notes.beyond.Goals as goal

pub returns : goal.returns
returns g c =
    let items = c.args.items.now in
    let count : c.min.result ≡ min c.args.count (length items) = search rules in
    c.split_at.ensures.back ∙ ap (λ n. drop n items) count ∙ drop_min c.args.count items
