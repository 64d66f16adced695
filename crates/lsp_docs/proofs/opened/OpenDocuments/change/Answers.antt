use Rattle.std.proofs.Common.{◌≡◌, [], Some, None, option_map, string_bytes, sym, ap}
use Rattle.std.proofs.Common.{subst, ◌∙◌, w32}
use Rattle.std.specs.Map.{set_value}
use Rattle.std.specs.Option.{option_copied, option_copied_mut}
use Rattle.std.specs.Prelude.{unwrap_or}
use Rattle.lsp_types.specs.Texts.{is_text}
use Rattle.std.proofs.lemmas.Int.{to_z-of_z}
use mir.Val.{SFits}
use Rattle.std.proofs.lemmas.Result.{on_err_weaker, on_ok_weaker, IfErr-weaker}
use Rattle.lsp_text.specs.Changes.{edits_of}
use Rattle.lsp_text.specs.Edits.{applied}
use Rattle.lsp_docs.specs.declared.document.Document.{Document}
use Rattle.lsp_docs.specs.Documents.{Version, versioned}
use Rattle.lsp_types.specs.Fault.{Names}
use Rattle.lsp_docs.specs.Stored.{kept_of}
use Rattle.lsp_docs.specs.Taken.{found_on}
use Rattle.lsp_docs.specs.Tried.{AreTriedOn, tried_in}
use Rattle.lsp_docs.specs.State.{KeepsOn, early_rule, held_in, rule_with, set_in, text_in}
use Rattle.lsp_docs.proofs.Entries.{held_in-of, held-set, keeps-on}
use Rattle.lsp_docs.proofs.Queues.{written-same}
use Rattle.lsp_docs.proofs.Words.{on_ok_four}
use Rattle.lsp_docs.proofs.opened.OpenDocuments.change.Given.{Over}
use Rattle.lsp_docs.proofs.opened.OpenDocuments.change.Goals as goal

abbrev seen : (g : Over) → Document g.row.S.Denot → Version
seen g d = versioned d.held.version (g.S.TextStore.content d.held.store)

pub returns-in_default-clause-rule : goal.returns-in_default-clause-rule
returns-in_default-clause-rule g c =
    let uri = c.args.uri.now in
    let absent = sym c.get_str_mut.ensures.value ∙ ap option_copied_mut c.in_default.is in
    let none : held_in uri c.args.self.now.held ≡ None =
    ap (λ s. held_in uri s.held) (sym c.self.view_is)
    ∙ (held_in-of (seen g) uri c.self.inside.documents ∙ ap (option_map (seen g)) absent) in
    ap (rule_with c.args.terms.limit c.args.terms.line_ends (unwrap_or (option_copied c.args.due) [])
    c.args.encoding c.args.kind c.args.version (edits_of c.args.changes.now)) none

pub returns-in_default-clause-tried : goal.returns-in_default-clause-tried
returns-in_default-clause-tried g c = λ rule early.
    let uri = c.args.uri.now in
    let absent = sym c.get_str_mut.ensures.value ∙ ap option_copied_mut c.in_default.is in
    let none : held_in uri c.args.self.now.held ≡ None =
    ap (λ s. held_in uri s.held) (sym c.self.view_is)
    ∙ (held_in-of (seen g) uri c.self.inside.documents ∙ ap (option_map (seen g)) absent) in
    let refused : Some 602 ≡ None =
    sym (ap (early_rule c.args.kind c.args.version (edits_of c.args.changes.now)) none) ∙ early in
    absurd (cc refused)

pub returns-clause-tried : goal.returns-clause-tried
returns-clause-tried g c =
    let fits : SFits w32 c.args.version = c.ranges.version in
    let uri = c.args.uri.now in
    let cs = edits_of c.args.changes.now in
    let d = c.in-Some.document.now in
    let is_now : held_in uri c.args.self.now.held ≡ Some (seen g d) =
    ap (λ s. held_in uri s.held) (sym c.self.view_is)
    ∙ (held_in-of (seen g) uri c.self.inside.documents
    ∙ ap (option_map (seen g)) (sym c.in-Some.ensures.value)) in
    let told = simp to_z-of_z at c.change.ensures.tried in
    IfErr-weaker c.change.result _ _
    (λ e tried rule early. subst (λ o. AreTriedOn c.args.terms.limit c.args.encoding o cs
    (tried_in g.S.TextStore.content c.change.new.tried)) (sym is_now)
    (tried rule (sym (ap (early_rule c.args.kind c.args.version cs) is_now) ∙ early)))
    told

pub returns-clause-accepts : goal.returns-clause-accepts
returns-clause-accepts g c =
    let fits : SFits w32 c.args.version = c.ranges.version in
    let uri = c.args.uri.now in
    let cs = edits_of c.args.changes.now in
    let most = c.args.terms.kept in
    let documents = c.self.inside.documents in
    let d = c.in-Some.document.now in
    let made = c.change.new.self in
    let found = sym c.in-Some.ensures.value in
    let h = held_in uri c.args.self.now.held in
    let is_now : h ≡ Some (seen g d) =
    ap (λ s. held_in uri s.held) (sym c.self.view_is)
    ∙ (held_in-of (seen g) uri documents ∙ ap (option_map (seen g)) found) in
    let version = simp to_z-of_z at c.change.ensures.version in
    let accepted = simp to_z-of_z at c.change.ensures.accepted in
    on_ok_four c.change.result (λ b r a k. record {
      accepted = ap (rule_with c.args.terms.limit c.args.terms.line_ends
          (unwrap_or (option_copied c.args.due) []) c.args.encoding c.args.kind c.args.version cs)
          is_now ∙ r;
      text = g.S.TextStore.content made.held.store;
      is_made = ap (λ o. applied c.args.terms.limit c.args.encoding (text_in o) cs) is_now ∙ a;
      held = held-set (seen g) uri made documents
          ∙ (ap (λ s. set_in uri (seen g made) s.held) c.self.view_is
          ∙ ap (λ n. set_in uri (versioned n (g.S.TextStore.content made.held.store))
          c.args.self.now.held) b);
      kept = subst (λ l. KeepsOn most uri h l (kept_of (λ d. d.kept)
          (set_value (is_text uri) documents made))) (ap (λ s. s.kept) c.self.view_is)
          (keeps-on (λ d. d.kept) most h (seen g d) uri made d documents found is_now k);
    }) version accepted c.change.ensures.store c.change.ensures.kept

pub returns-clause-rule : goal.returns-clause-rule
returns-clause-rule g c =
    let fits : SFits w32 c.args.version = c.ranges.version in
    let uri = c.args.uri.now in
    let d = c.in-Some.document.now in
    let is_now : held_in uri c.args.self.now.held ≡ Some (seen g d) =
    ap (λ s. held_in uri s.held) (sym c.self.view_is)
    ∙ (held_in-of (seen g) uri c.self.inside.documents
    ∙ ap (option_map (seen g)) (sym c.in-Some.ensures.value)) in
    let rule = simp to_z-of_z at c.change.ensures.rule in
    IfErr-weaker c.change.result _ _
    (λ e. subst (λ o. Names (rule_with c.args.terms.limit c.args.terms.line_ends
    (unwrap_or (option_copied c.args.due) []) c.args.encoding c.args.kind c.args.version
    (edits_of c.args.changes.now) o) e) (sym is_now)) rule

pub returns-clause-memory : goal.returns-clause-memory
returns-clause-memory g c = λ refused.
    let fits : SFits w32 c.args.version = c.ranges.version in
    let uri = c.args.uri.now in
    let d = c.in-Some.document.now in
    let is_now : held_in uri c.args.self.now.held ≡ Some (seen g d) =
    ap (λ s. held_in uri s.held) (sym c.self.view_is)
    ∙ (held_in-of (seen g) uri c.self.inside.documents
    ∙ ap (option_map (seen g)) (sym c.in-Some.ensures.value)) in
    let early = simp to_z-of_z at c.change.ensures.memory in
    ap (early_rule c.args.kind c.args.version (edits_of c.args.changes.now)) is_now
    ∙ early refused

pub returns-clause-err : goal.returns-clause-err
returns-clause-err g c =
    let uri = c.args.uri.now in
    let documents = c.self.inside.documents in
    let made = c.change.new.self in
    let d = c.in-Some.document.now in
    let found = sym c.in-Some.ensures.value in
    on_err_weaker c.change.result (λ same.
    let same_held = written-same (λ x. record { uri = string_bytes x.0; version = seen g x.1 }) uri
    made d (λ k. ap (λ v. record {
      uri = string_bytes k;
      version = v;
    }) same.1) documents found in
    let same_kept = written-same (λ x. record { uri = string_bytes x.0; versions = x.1.kept }) uri
    made d (λ k. ap (λ vs. record {
      uri = string_bytes k;
      versions = vs;
    }) same.0) documents found in
    (λ i. record { held = same_held i; kept = same_kept i }) ∙ c.self.view_is)
    c.change.ensures.err

pub returns-clause-found : goal.returns-clause-found
returns-clause-found g c =
    let uri = c.args.uri.now in
    let cs = edits_of c.args.changes.now in
    let d = c.in-Some.document.now in
    let is_now : held_in uri c.args.self.now.held ≡ Some (seen g d) =
    ap (λ s. held_in uri s.held) (sym c.self.view_is)
    ∙ (held_in-of (seen g) uri c.self.inside.documents
    ∙ ap (option_map (seen g)) (sym c.in-Some.ensures.value)) in
    on_ok_weaker c.change.result
    (λ e. e ∙ ap (λ o. found_on c.args.terms.limit c.args.encoding o cs) (sym is_now))
    c.change.ensures.found
