use Rattle.std.specs.Prelude.{if◌then◌else◌}
use Rattle.std.specs.Str.{bytes_eq}
use Rattle.std.proofs.Common.{Bool, Option, Some, true, ap, ◌∙◌}
use Rattle.std.proofs.lemmas.Result.{on_ok_weaker}
use Rattle.lsp_survey.specs.Notes.{lost_among}
use Rattle.lsp_survey.specs.declared.notes.note.Spelling.{Spelling}
use Rattle.lsp_survey.proofs.Noting.{put_back, sets_by}
use Rattle.lsp_survey.proofs.notes.note.Notes.lose.Goals as goal

pub returns : goal.returns
returns c =
    let uri = c.args.uri.now in
    let old = c.args.self.now.map.entries in
    let key = c.in_ok-key.key.items in
    let now = Some c.set.new.self in
    on_ok_weaker c.put.result
    (λ put. sets_by uri true key c.in_ok-key.ensures old c.put.new.map.entries now
    (λ u. c.in_ok-set.ensures u
    ∙ ap (λ (b : Bool). if bytes_eq uri u then true else b) (c.or_none-spelling.ensures u
    ∙ ap (λ (o : Option Spelling). lost_among o u) c.take-noted.ensures.taken))
    (put_back key now old c.take-noted.new.map.entries c.put.new.map.entries
    c.take-noted.ensures.left put))
    c.put.ensures
