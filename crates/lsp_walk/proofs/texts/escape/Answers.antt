use Rattle.std.proofs.Common.{get_or, Some, sym, ap, ◌∙◌, arith}
use Rattle.std.proofs.lemmas.Grind.{common_steps}
use Rattle.std.proofs.lemmas.List.{drop_all}
use Rattle.std.proofs.lemmas.Option.{IfSome_then}
use Rattle.json.specs.Text.{content, after_backslash}
use Rattle.lsp_walk.proofs.Strings.{content-after_backslash, content-nil, escape_passed}
use Rattle.lsp_walk.proofs.Strings.{no_short, some_short, short_is}
use Rattle.lsp_walk.proofs.texts.escape.Goals as goal

pub returns-then-at-bytes-clause-value : goal.returns-then-at-bytes-clause-value
returns-then-at-bytes-clause-value c =
    ap (content after_backslash) (drop_all c.args.at c.args.bytes.now (omega arith))
    ∙ content-nil after_backslash

pub returns-then-bytes-at-eq117-clause-value : goal.returns-then-bytes-at-eq117-clause-value
returns-then-bytes-at-eq117-clause-value c =
    grind (arith, common_steps, content-after_backslash c.args.bytes.now c.args.at (omega arith))

pub returns-then-bytes-at-eq117-clause-passed : goal.returns-then-bytes-at-eq117-clause-passed
returns-then-bytes-at-eq117-clause-passed c =
    IfSome_then c.unicode.result c.unicode.ensures.passed
    (λ r h. escape_passed c.args.bytes.now c.args.at (omega arith) ∙ h)

pub returns-then-c-eq0-clause-value : goal.returns-then-c-eq0-clause-value
returns-then-c-eq0-clause-value c =
    let x = get_or c.args.bytes.now c.args.at 0 in
    let none = no_short x (omega (arith, c.short_escape-c.ensures)) in
    grind (arith, none, content-after_backslash c.args.bytes.now c.args.at (omega arith))

pub returns-clause-value : goal.returns-clause-value
returns-clause-value c =
    let x = get_or c.args.bytes.now c.args.at 0 in
    let read = c.short_escape-c in
    let some = some_short x (λ none. omega (arith, none, read.ensures)) in
    short_is c.args.bytes.now c.args.at read.result (omega arith)
    (some ∙ ap Some (sym read.ensures))

pub returns-clause-passed : goal.returns-clause-passed
returns-clause-passed c = escape_passed c.args.bytes.now c.args.at (omega arith)
