use Rattle.std.proofs.Common.{ℕ, take, min, length, ◌≡◌, ◌∙◌, ap, arith}
use Rattle.std.proofs.lemmas.List.{take_min}
use Rattle.lsp_frame.specs.Front.{header_of}
use Rattle.lsp_frame.proofs.Fronts.{found_near, not_found_near}
use Rattle.lsp_frame.proofs.front.header_front.Goals as goal

pub returns-in-Some : goal.returns-in-Some
returns-in-Some c =
    let least : c.min.result ≡ min 64 (length c.args.bytes.now) = omega (arith, c.min.ensures) in
    let near : take c.min.result c.args.bytes.now ≡ take 64 c.args.bytes.now = ap (λ (k : ℕ). take k c.args.bytes.now) least ∙ take_min 64 c.args.bytes.now in
    found_near (take c.min.result c.args.bytes.now) c.in-Some.at c.in-Some.ensures ∙ ap header_of near

pub returns-in-None : goal.returns-in-None
returns-in-None c =
    let least : c.min.result ≡ min 64 (length c.args.bytes.now) = omega (arith, c.min.ensures) in
    let near : take c.min.result c.args.bytes.now ≡ take 64 c.args.bytes.now = ap (λ (k : ℕ). take k c.args.bytes.now) least ∙ take_min 64 c.args.bytes.now in
    not_found_near (take c.min.result c.args.bytes.now) c.in-None.ensures ∙ ap header_of near
