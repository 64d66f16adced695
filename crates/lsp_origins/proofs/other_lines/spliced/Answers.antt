use Rattle.std.specs.Str.{chars}
use Rattle.std.proofs.Common.{◌≡◌, ◌∙◌, ◌++◌, IfOk, List, ℕ, ap, drop, take, subst, string_bytes}
use Rattle.std.proofs.lemmas.Iterator.{YieldsList-from_chars, YieldsList-from_take}
use Rattle.std.proofs.lemmas.Iterator.{text_from_collect}
use Rattle.std.proofs.lemmas.Iterator.Adapters.{YieldsList-from_skip}
use Rattle.std.proofs.lemmas.Iterator.Consumers.{YieldsList-at}
use Rattle.lsp_origins.proofs.OtherLineSteps.{spliced_so}
use Rattle.lsp_origins.proofs.other_lines.spliced.Goals as goal
use lib.Utf8.{encodes}

pub returns : goal.returns
returns c =
    let text : List ℕ = chars c.args.text.now in
    let front : List ℕ = encodes (take c.args.first text) in
    let back : List ℕ = encodes (drop c.args.second text) in
    let in_front = text_from_collect c.collect.result c.collect.ensures.ran
    (YieldsList-from_take c.args.first (YieldsList-at c.take.ensures.source
    (YieldsList-from_chars c.args.text.now c.utf8.text cc)) c.take.ensures.count) in
    let behind = text_from_collect c.collect-2.result c.collect-2.ensures.ran
    (YieldsList-from_skip c.args.second (YieldsList-at c.skip.ensures.source
    (YieldsList-from_chars c.args.text.now c.utf8.text cc)) c.skip.ensures.count) in
    let is_front : string_bytes c.in_ok-made.made ≡ front =
    subst (λ r. IfOk r (λ w. string_bytes w ≡ front)) c.in_ok-made.was in_front in
    let is_back : string_bytes c.in_ok-back.back ≡ back =
    subst (λ r. IfOk r (λ w. string_bytes w ≡ back)) c.in_ok-back.was behind in
    spliced_so c.push_str-2.new.self text c.args.insertion.now c.args.first c.args.second
    c.utf8.insertion
    (c.in_ok-push_str-2.ensures.bytes
    ∙ ap (λ l. string_bytes c.push_str.new.self ++ l) (c.as_str.ensures.value ∙ is_back)
    ∙ ap (λ l. l ++ back) (c.in_ok-push_str.ensures.bytes
    ∙ ap (λ l. l ++ c.args.insertion.now) is_front))
