use Rattle.std.specs.Str.{chars}
use Rattle.std.proofs.Common.{◌++◌, ◌∷◌, ◌∙◌, [], ap, string_bytes, sym}
use Rattle.lsp_origins.specs.OtherLines.{seen_of}
use Rattle.lsp_origins.proofs.OtherLineSteps.{pushed}
use Rattle.lsp_origins.proofs.other_lines.push_seen.Goals as goal

pub returns : goal.returns
returns c =
    let old = chars (string_bytes c.args.seen.now) in
    pushed c.args.seen.now c.push.new.self c.seen_as.result c.in_ok-push.ensures.bytes
    ∙ ap (λ x. old ++ x ∷ []) c.seen_as.ensures
    ∙ ap (λ o. old ++ seen_of c.args.by c.args.before_feed o) (sym c.in-Some.is)
