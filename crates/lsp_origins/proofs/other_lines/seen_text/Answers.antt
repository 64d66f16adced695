use Rattle.std.specs.Str.{chars}
use Rattle.std.proofs.Common.{◌∙◌, ap, map-id, string_bytes, sym}
use Rattle.std.proofs.lemmas.Iterator.{YieldsList-from_chars}
use Rattle.std.proofs.lemmas.Iterator.Consumers.{YieldsList-end}
use Rattle.std.proofs.lemmas.Str.{chars-nil}
use Rattle.lsp_origins.specs.OtherLines.{seen}
use Rattle.lsp_origins.proofs.OtherLineSteps.{read_all, read_none, read_on}
use Rattle.lsp_origins.proofs.other_lines.seen_text.Goals as goal

pub loop-char-init : goal.loop-char-init
loop-char-init c =
    read_none c.args.by (chars (string_bytes c.new-seen.result))
    (ap chars c.new-seen.ensures.bytes ∙ chars-nil)

pub loop-char-preserved : goal.loop-char-preserved
loop-char-preserved c =
    read_on c.args.by c.loop-char.yielded c.loop-char.last c.in-Some.char
    (chars (string_bytes c.loop-char.seen)) (chars (string_bytes c.push_seen.new.seen))
    c.loop-char.invariant c.in_ok-push_seen.ensures

pub returns : goal.returns
returns c =
    let t = YieldsList-end (YieldsList-from_chars c.args.text.now c.utf8.text cc) c.loop-char.yielded _
    c.loop-char.yielded_by _ _ c.in-None.is c.next.ensures.steps in
    read_all c.args.by c.loop-char.yielded c.loop-char.last (chars (string_bytes c.loop-char.seen))
    (chars (string_bytes c.push_seen-2.new.seen)) c.loop-char.invariant c.in_ok-push_seen-2.ensures
    ∙ ap (seen c.args.by) (sym (map-id c.loop-char.yielded) ∙ t.0)
