use Rattle.std.proofs.Common.{◌≡◌, IfOk, List, ℕ, drop, take, subst, string_bytes}
use Rattle.std.proofs.lemmas.Iterator.{YieldsList-from_chars, YieldsList-from_take}
use Rattle.std.proofs.lemmas.Iterator.{text_from_collect}
use Rattle.std.proofs.lemmas.Iterator.Adapters.{YieldsList-from_skip}
use Rattle.std.proofs.lemmas.Iterator.Consumers.{YieldsList-at}
use Rattle.std.specs.Str.{chars}
use lib.Utf8.{encodes}
use Rattle.lsp_facts.proofs.part.shown_text.Goals as goal

pub returns : goal.returns
returns c =
    let shown : List ℕ = take 200 (drop c.args.before (chars c.args.line.now)) in
    let told = text_from_collect c.collect.result c.collect.ensures.ran
    (YieldsList-from_take 200 (YieldsList-at c.take.ensures.source
    (YieldsList-from_skip c.args.before (YieldsList-at c.skip.ensures.source
    (YieldsList-from_chars c.args.line.now c.utf8.line cc)) c.skip.ensures.count))
    c.take.ensures.count) in
    subst (λ r. IfOk r (λ w. string_bytes w ≡ encodes shown)) c.in_ok-text.was told
