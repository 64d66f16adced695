use Rattle.std.proofs.Common.{◌∙◌, ◌++◌, [], ◌∷◌, List, ℕ, ap, string_bytes, sym}
use Rattle.lsp_text.specs.SameText.{with_feeds}
use Rattle.lsp_text.proofs.SameBytes.{feeds_after, feeds_end}
use Rattle.lsp_text.proofs.same.with_feeds.Goals as goal

pub loop-line-preserved : goal.loop-line-preserved
loop-line-preserved c =
    let line = c.in-Some.line in
    record {
      utf8 = c.in-Some.ensures.rest_utf8;
      made = feeds_after c.args.text.now (string_bytes c.loop-line.feeds) c.loop-line.rest.now line
          c.in-Some.ensures c.loop-line.invariant.made
          ∙ ap (λ (x : List ℕ). x ++ with_feeds line.rest.now)
          (ap (λ (x : List ℕ). x ++ 10 ∷ []) (sym c.in_ok-push_str.ensures.bytes)
          ∙ sym c.in_ok-push_str-2.ensures.bytes);
    }

pub returns : goal.returns
returns c = c.in_ok-push_str-3.ensures.bytes
    ∙ feeds_end c.args.text.now (string_bytes c.loop-line.feeds) c.loop-line.rest.now
    c.loop-line.invariant.utf8 c.in_default.ensures c.loop-line.invariant.made
