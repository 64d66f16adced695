use Rattle.std.proofs.Common.{◌≡◌, ◌<◌, ◌≤◌, List, ℕ, ◌∷◌, [], ◌++◌, length, map, take, sym, ap}
use Rattle.std.proofs.Common.{subst, ◌∙◌, arith}
use Rattle.std.specs.List.{drop-map}
use Rattle.std.proofs.lemmas.List.{length-map, take-map}
use Rattle.lsp_lined.specs.Parts.{joined, AreKept}
use Rattle.lsp_lined.proofs.Recuts.{AreChunked, can_chunk, one_chunked, all_chunked}
use Rattle.lsp_lined.proofs.chunk.chunks_of.Goals as goal

pub of-requires : goal.of-requires
of-requires g c =
    let f = g.T.Part.text in
    let rest = c.loop-rest.rest.now in
    let texts = map f rest in
    let some : 8 ≤ length texts = omega (arith, length-map rest f, c.loop-rest-test.true) in
    let first : map f (take 8 rest) ≡ take 8 texts = sym (take-map f 8 rest) in
    subst (λ xs. AreKept (map f xs)) (sym c.split_at.ensures.front)
    (subst AreKept (sym first)
    (can_chunk c.loop-rest.chunks.items texts (joined (map f c.args.parts.now)) 8
    c.loop-rest.invariant c.requires.fits (omega arith) some))

pub loop-rest-preserved : goal.loop-rest-preserved
loop-rest-preserved g c =
    let f = g.T.Part.text in
    let chunks = c.loop-rest.chunks.items in
    let rest = c.loop-rest.rest.now in
    let texts = map f rest in
    let more = c.push.new.self.items in
    let whole = joined (map f c.args.parts.now) in
    let some : 8 < length texts = omega (arith, length-map rest f, c.loop-rest-test.true) in
    subst (λ xs. AreChunked more (map f xs) whole) (sym c.split_at.ensures.back)
    (subst (λ x. AreChunked more x whole) (drop-map f 8 rest)
    (one_chunked chunks texts more whole 8 c.loop-rest.invariant some
    (c.in_ok-push.ensures.items
    ∙ ap (λ (x : List ℕ). chunks ++ x ∷ [])
    (c.in_ok-of.ensures ∙ ap (λ xs. joined (map f xs)) c.split_at.ensures.front
    ∙ ap joined (sym (take-map f 8 rest))))))

pub returns : goal.returns
returns g c =
    let f = g.T.Part.text in
    let chunks = c.loop-rest.chunks.items in
    all_chunked chunks (map f c.loop-rest.rest.now) c.push-2.new.self.items
    (joined (map f c.args.parts.now)) c.loop-rest.invariant
    (c.in_ok-push-2.ensures.items
    ∙ ap (λ (x : List ℕ). chunks ++ x ∷ []) c.in_ok-of-2.ensures)
