use Rattle.std.specs.Prelude.{option_map}
use Rattle.std.proofs.Common.{false, subst, sym, true}
use Rattle.std.proofs.lemmas.Result.{on_ok_weaker}
use Rattle.lsp_trail.specs.Common.{call_view, calls, HasFate, is_reopened, kept_before, raw_view}
use Rattle.lsp_trail.specs.Common.{Terms}
use Rattle.lsp_notes.specs.Behind.{PutsBehind, renewed, skipped}
use Rattle.lsp_notes.proofs.BehindSteps.{behind_more, held_before, renewed_here, skipped_here}
use Rattle.lsp_notes.proofs.behind.Behind.note.Goals as goal

pub returns-in-Kept : goal.returns-in-Kept
returns-in-Kept c = λ terms before h are seen.
    let has = subst (HasFate terms before h) c.in-Kept.is seen.fate in
    let said = option_map call_view c.args.seen.now.call in
    behind_more terms before h c.args.self.now (record { uris = c.renew.new.uris }) false
    (renewed said) are
    (renewed_here terms before h said has.0 (sym seen.says)) c.renew.ensures

pub returns-in-Offends : goal.returns-in-Offends
returns-in-Offends c = on_ok_weaker c.skip.result (λ puts terms before h are seen.
    let rule = c.in-Offends.rule in
    let raw = raw_view c.args.seen.now.raw in
    let said = option_map call_view c.args.seen.now.call in
    let has = subst (HasFate terms before h) c.in-Offends.is seen.fate in
    let made = calls (kept_before terms before) in
    let holds = held_before terms before h _ _ _ rule has.0 seen.stood in
    behind_more terms before h c.args.self.now (record { uris = c.skip.new.uris }) true
    (skipped raw rule (is_reopened terms made said) said) are
    (skipped_here terms before h rule raw said has.0 seen.is (sym seen.says))
    (subst (λ (t : Terms). PutsBehind true (skipped raw rule (is_reopened t made said) said)
    c.args.self.now.uris.entries c.skip.new.uris.entries) seen.stood.by (puts made holds.called))) c.skip.ensures
