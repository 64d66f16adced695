use Rattle.std.specs.Prelude.{IfSome}
use Rattle.std.proofs.Common.{◌≡◌, ℕ, Option, length, subst, sym}
use Rattle.lsp_notes.specs.AtOnce.{splices_view}
use Rattle.lsp_notes.proofs.Lengths.{other_length}
use Rattle.lsp_notes.proofs.at_once.is_other_length.Goals as goal

pub returns-in-Some-length_made : goal.returns-in-Some-length_made
returns-in-Some-length_made c = λ apart.
    let t = c.args.text.now.content in
    let u = c.args.now.now.content in
    let len : c.in-Some.len ≡ length t =
    subst (λ (o : Option ℕ). IfSome o (λ n. n ≡ length t)) c.in-Some.is c.in_ok-len.ensures in
    let now : c.in-Some-2.now ≡ length u =
    subst (λ (o : Option ℕ). IfSome o (λ n. n ≡ length u)) c.in-Some-2.is c.in_ok-now.ensures in
    other_length c.in-Some.len c.in-Some-2.now c.in-Some-length_made.made t u
    (splices_view c.args.splices.now) (sym len) (sym now) c.in-Some-length_made.ensures apart
