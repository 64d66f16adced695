use Rattle.std.proofs.Common.{Bool, sym, ap, ◌∙◌, w32}
use Rattle.std.specs.Prelude.{not}
use Rattle.std.specs.List.{list_any}
use Rattle.std.proofs.lemmas.Int.{to_z-of_z}
use Rattle.std.specs.Str.{chars}
use mir.Val.{SFits}
use Rattle.lsp_text.specs.SameText.{same_text}
use Rattle.lsp_docs.specs.Documents.{versioned}
use Rattle.lsp_docs.specs.Rules.{differs}
use Rattle.lsp_docs.specs.State.{State, queue_of}
use Rattle.lsp_docs.specs.Calls.{Text}
use Rattle.lsp_docs.proofs.SameVersions.{differs-texts}
use Rattle.lsp_docs.proofs.docs.Docs.contradicts.Goals as goal

pub returns-in-Some : goal.returns-in-Some
returns-in-Some g c =
    let fits : SFits w32 c.args.version = c.ranges.version in
    let text = chars c.args.text.now in
    let v = versioned c.args.version text in
    let uri = c.args.uri.now in
    let ends = c.self.inside.terms.line_ends in
    let test : Text → Bool = λ t. not (same_text ends text t) in
    let told = simp to_z-of_z at c.in-Some.ensures in
    c.any_is_not.ensures
    ∙ (ap (list_any test) told
    ∙ (sym (differs-texts ends v (queue_of uri c.self.inside.waiting.queues))
    ∙ ap (λ (s : State). list_any (differs s.terms.line_ends v) (queue_of uri s.waits.queues))
    c.self.view_is))

pub returns-in-None : goal.returns-in-None
returns-in-None g c =
    let fits : SFits w32 c.args.version = c.ranges.version in
    let text = chars c.args.text.now in
    let v = versioned c.args.version text in
    let uri = c.args.uri.now in
    let ends = c.self.inside.terms.line_ends in
    let test : Text → Bool = λ t. not (same_text ends text t) in
    let told = simp to_z-of_z at c.in-None.ensures in
    ap (list_any test) told
    ∙ (sym (differs-texts ends v (queue_of uri c.self.inside.waiting.queues))
    ∙ ap (λ (s : State). list_any (differs s.terms.line_ends v) (queue_of uri s.waits.queues))
    c.self.view_is)
