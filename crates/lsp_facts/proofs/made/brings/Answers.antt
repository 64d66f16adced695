use Rattle.std.proofs.Common.{ap, w32, rules}
use Rattle.std.proofs.lemmas.Int.{to_z-of_z}
use Rattle.std.specs.Option.{option_map}
use mir.Val.{SFits}
use Rattle.lsp_replay.specs.Common.{edits_of, held, versioned, versions_of, waiting}
use Rattle.lsp_facts.proofs.DocumentRules.{tried_change}
use Rattle.lsp_facts.proofs.made.brings.Goals as goal

pub returns-in_err-store-in-Changes : goal.returns-in_err-store-in-Changes
returns-in_err-store-in-Changes g c = rw c.from_residual.ensures (rw c.in-Changes.is
    (λ calls rule h e of tries.
    let terms = c.args.docs.now.terms in
    let uri = c.in-Changes.uri.now in
    let cs = edits_of c.in-Changes.changes.now in
    let enc = c.in-Changes.encoding in
    ap (option_map (versioned c.in-Changes.version)) (c.in_err-store-in-Changes.ensures enc calls h
    (tried_change terms (versions_of uri (waiting terms calls)) enc c.in-Changes.kind
    c.in-Changes.version cs rule _ (held terms uri calls) of e tries))))

pub returns-in_ok-store-in-Changes : goal.returns-in_ok-store-in-Changes
returns-in_ok-store-in-Changes g c =
    let fits : SFits w32 c.in-Changes.version = search rules in
    rw c.in-Changes.is (simp to_z-of_z (λ calls rule h e of tries.
    let terms = c.args.docs.now.terms in
    let uri = c.in-Changes.uri.now in
    let cs = edits_of c.in-Changes.changes.now in
    let enc = c.in-Changes.encoding in
    ap (option_map (versioned c.in-Changes.version)) (c.in_ok-store-in-Changes.ensures enc calls h
    (tried_change terms (versions_of uri (waiting terms calls)) enc c.in-Changes.kind
    c.in-Changes.version cs rule _ (held terms uri calls) of e tries))))
