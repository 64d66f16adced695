use Rattle.std.proofs.Common.{◌++◌, ◌∷◌, [], ap, subst, sym, ◌∙◌, w32}
use Rattle.std.specs.Map.{lookup}
use Rattle.std.proofs.lemmas.Int.{to_z-of_z}
use Rattle.std.proofs.lemmas.Result.{on_ok_weaker, on_err_weaker}
use mir.Val.{SFits}
use Rattle.lsp_types.specs.Texts.{is_text}
use Rattle.lsp_docs.specs.Documents.{versioned}
use Rattle.lsp_docs.specs.Stored.{held_of, kept_of}
use Rattle.lsp_docs.specs.State.{held_in, KeepsSame}
use Rattle.lsp_docs.proofs.Entries.{held_in-of, held-push, kept-push, unmapped}
use Rattle.lsp_docs.proofs.opened.OpenDocuments.insert.Goals as goal

pub push-requires : goal.push-requires
push-requires g c =
    let documents = c.self.inside.documents in
    ap (λ b. lookup (is_text b) documents) c.in_ok-key.ensures.ok
    ∙ unmapped (λ d. versioned d.held.version (g.S.TextStore.content d.held.store))
    (lookup (is_text c.args.uri.now) documents)
    (sym (held_in-of (λ d. versioned d.held.version (g.S.TextStore.content d.held.store))
    c.args.uri.now documents)
    ∙ (ap (λ s. held_in c.args.uri.now s.held) c.self.view_is ∙ c.requires))

pub returns-clause-held : goal.returns-clause-held
returns-clause-held g c =
    let fits : SFits w32 c.args.version = c.ranges.version in
    let version = simp to_z-of_z at c.new.ensures.version in
    let was = ap (λ s. s.held) c.self.view_is in
    on_ok_weaker c.push.result (λ k.
    ap (held_of (λ d. versioned d.held.version (g.S.TextStore.content d.held.store))) k
    ∙ (held-push (λ d. versioned d.held.version (g.S.TextStore.content d.held.store))
    c.self.inside.documents c.in_ok-key.key c.new.result
    ∙ (λ i. was i ++ record {
      uri = c.in_ok-key.ensures.ok i;
      version = versioned (version i) (c.new.ensures.store i);
    } ∷ [])))
    c.push.ensures.ok

pub returns-clause-kept : goal.returns-clause-kept
returns-clause-kept g c =
    let documents = c.self.inside.documents in
    on_ok_weaker c.push.result (λ k.
    subst (λ l. KeepsSame c.args.self.now.kept (kept_of (λ d. d.kept) l)) (sym k)
    (subst (λ l. KeepsSame l (kept_of (λ d. d.kept)
    (documents ++ (c.in_ok-key.key, c.new.result) ∷ []))) (ap (λ s. s.kept) c.self.view_is)
    (kept-push (λ d. d.kept) c.in_ok-key.key c.new.result c.new.ensures.kept documents)))
    c.push.ensures.ok

pub returns-clause-err : goal.returns-clause-err
returns-clause-err g c =
    on_err_weaker c.push.result (λ e.
    (λ i. record {
      held = held_of (λ d. versioned d.held.version (g.S.TextStore.content d.held.store)) (e i);
      kept = kept_of (λ d. d.kept) (e i);
    }) ∙ c.self.view_is)
    c.push.ensures.err
