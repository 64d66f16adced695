use Rattle.std.specs.Str.{chars}
use Rattle.std.proofs.Common.{◌∙◌, true, false, ap, sym}
use Rattle.lsp_text.specs.SameText.{same_text}
use Rattle.lsp_origins.specs.Fits.{made_by, suspects_view, text_if}
use Rattle.lsp_origins.proofs.Fitting.{given_not, given_so}
use Rattle.lsp_origins.proofs.fits.gives.Goals as goal

-- they make no text
pub returns-then-not-branch : goal.returns-then-not-branch
returns-then-not-branch c =
    let trial = c.args.trial in
    let enc = c.args.encoding in
    let t = trial.text.now.content in
    let u = c.make_all.new.made.content in
    let sent = suspects_view c.args.suspects.now in
    let content = c.in_ok-made.ensures.content in
    given_not trial.docs.now.terms t u (chars trial.other.now) sent enc
    (ap (λ b. text_if b u) (sym c.if-not-branch.true) ∙ c.in_ok-make_all.ensures
    ∙ (λ i. made_by (c.limit.ensures i) enc (content i) sent))

-- they make one
pub returns : goal.returns
returns c =
    let trial = c.args.trial in
    let enc = c.args.encoding in
    let t = trial.text.now.content in
    let u = c.make_all.new.made.content in
    let sent = suspects_view c.args.suspects.now in
    let content = c.in_ok-made.ensures.content in
    let other = chars trial.other.now in
    c.has_text.ensures ∙ ap (λ ends. same_text ends u other) c.line_ends.ensures
    ∙ given_so trial.docs.now.terms t u other sent enc
    (ap (λ b. text_if b u) (sym c.if-not-branch.false) ∙ c.in_ok-make_all.ensures
    ∙ (λ i. made_by (c.limit.ensures i) enc (content i) sent))
