use Rattle.std.proofs.Common.{List, ℕ, ◌++◌, ap, max, string_bytes, ◌∙◌}
use Rattle.std.specs.List.{flat_map}
use Rattle.lsp_log.specs.Log.{spelling}
use Rattle.lsp_redact.specs.Records.{content_records}
use Rattle.lsp_redact.proofs.BrokenTexts.{broken_none, broken_some}
use Rattle.lsp_redact.proofs.redacting.push_broken.Goals as goal

pub returns-in_default : goal.returns-in_default
returns-in_default c = λ event reads of.
    broken_none (max c.args.most 1) c.args.raw event c.args.rule (string_bytes c.args.text.now)
    c.in_default.not-Content reads

pub returns : goal.returns
returns c = λ event reads of.
    let own = rw c.in-Content.is at reads in
    let put = λ (bytes : List ℕ). string_bytes c.args.text.now
    ++ flat_map spelling (content_records (max c.args.most 1) c.in-Content.side bytes) in
    rw c.in-Content.is (broken_some (max c.args.most 1) c.in-Content.side c.in-Content.content.now
    event c.args.rule (string_bytes c.in_ok-broken.broken) (string_bytes c.args.text.now)
    (string_bytes c.push_content.new.text) own of c.in_ok-broken.ensures
    (c.in_ok-push_content.ensures ∙ ap put c.as_str.ensures.value))
