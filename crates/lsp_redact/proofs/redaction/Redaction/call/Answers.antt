use Rattle.std.proofs.Common.{Some, refl, rules, string_bytes, w32}
use Rattle.std.proofs.lemmas.Int.{to_z-of_z}
use mir.Val.{SFits}
use Rattle.serde_json.specs.Data.{Data}
use Rattle.lsp_redact.proofs.Copying.{says_nothing}
use Rattle.lsp_redact.proofs.Showing.{writes_made}
use Rattle.lsp_redact.proofs.ShownLists.{lent}
use Rattle.lsp_redact.proofs.ShownParams.{nothing_written}
use Rattle.lsp_redact.proofs.redaction.Redaction.call.Goals as goal

pub returns-in_ok-opened-in-DidOpen : goal.returns-in_ok-opened-in-DidOpen
returns-in_ok-opened-in-DidOpen c =
    let fits : SFits w32 c.in-DidOpen.version = search rules in
    let told = rw c.as_str.ensures.value at
    rw c.as_str-in-DidOpen.ensures.value at
    rw (to_z-of_z w32 c.in-DidOpen.version fits) at c.in_ok-opened-in-DidOpen.ensures in
    rw c.in-DidOpen.is (writes_made (λ (d : Data). Some d) _ refl told)

pub returns-in_ok-changed-in-DidChange : goal.returns-in_ok-changed-in-DidChange
returns-in_ok-changed-in-DidChange c =
    let fits : SFits w32 c.in-DidChange.version = search rules in
    let told = rw c.as_str-in-DidChange.ensures.value at
    rw c.as_slice.ensures.value at
    rw (to_z-of_z w32 c.in-DidChange.version fits) at c.in_ok-changed-in-DidChange.ensures in
    rw c.in-DidChange.is (writes_made (λ (d : Data). Some d) _ refl told)

pub returns-in_ok-closed-in-DidClose : goal.returns-in_ok-closed-in-DidClose
returns-in_ok-closed-in-DidClose c =
    let told = rw c.as_str-in-DidClose.ensures.value at c.in_ok-closed-in-DidClose.ensures in
    rw c.in-DidClose.is (writes_made (λ (d : Data). Some d) _ refl told)

pub returns-in_ok-saved-in-DidSave : goal.returns-in_ok-saved-in-DidSave
returns-in_ok-saved-in-DidSave c =
    let text = lent (λ t. string_bytes t) c.as_ref.result c.in-DidSave.text c.as_ref.ensures.value in
    let told = rw c.as_str-in-DidSave.ensures.value at
    rw text at c.in_ok-saved-in-DidSave.ensures in
    rw c.in-DidSave.is (writes_made (λ (d : Data). Some d) _ refl told)

pub returns-in_default : goal.returns-in_default
returns-in_default c =
    nothing_written c.args.self.now _ (says_nothing c.args.act.now c.in_default.not-DidOpen
    c.in_default.not-DidChange c.in_default.not-DidClose c.in_default.not-DidSave)
