use Rattle.std.specs.Prelude.{vec_len}
use Rattle.std.proofs.Common.{◌≡◌, ◌∙◌, ap, length, rules, sym}
use Rattle.lsp_docs.specs.Snapshots.{kept}
use Rattle.lsp_trail.proofs.BasesHeld.{closed_now, none_closed, none_numbered}
use Rattle.lsp_trail.proofs.bases.close_unless_kept.Goals as goal

-- some version is kept
pub returns-then-not-is_empty : goal.returns-then-not-is_empty
returns-then-not-is_empty c = λ after stands.
    none_closed c.args.uri.now (kept c.args.docs.now.terms c.args.uri.now after)
    c.args.map.now.entries

pub returns : goal.returns
returns c = λ after stands.
    let numbers = c.in_ok-kept.kept in
    let none : vec_len numbers ≡ 0 = search (rules, c.is_empty.ensures, c.if-not-is_empty.false) in
    let versions = kept c.args.docs.now.terms c.args.uri.now after in
    closed_now c.args.uri.now versions c.args.map.now.entries c.close.new.map.entries
    (none_numbered versions (ap length (sym (c.in_ok-kept.ensures after stands))
    ∙ sym numbers.ok.0 ∙ none)) c.close.ensures
