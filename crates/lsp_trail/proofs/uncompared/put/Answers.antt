use Rattle.std.specs.Prelude.{if◌then◌else◌}
use Rattle.std.specs.Str.{bytes_eq, chars}
use Rattle.std.proofs.Common.{◌∙◌, Some, ap, w32}
use Rattle.std.proofs.lemmas.Int.{to_z-of_z}
use mir.Val.{SFits}
use Rattle.lsp_uris.proofs.Putting.{puts-key}
use Rattle.lsp_trail.specs.Uncompared.{shown_text, shown_view, uncompared_in}
use Rattle.lsp_trail.specs.declared.uncompared.ShownText.{ShownText}
use Rattle.lsp_trail.proofs.uncompared.put.Goals as goal

pub returns : goal.returns
returns c =
    let fits : SFits w32 c.args.version = c.ranges.version in
    let uri = c.args.uri.now in
    let place = c.args.place.now in
    let number = c.args.version in
    let old = c.args.map.now.entries in
    let new = c.insert.new.self.entries in
    let held : ShownText =
    record { place = place; version = number; text = c.in_ok-text.text } in
    let updates = simp to_z-of_z at c.in_ok-insert.ensures.updates in
    let there = puts-key shown_view (Some held) old new c.in_ok-key.key uri c.in_ok-key.ensures.ok
    updates.1 updates.3 in
    λ u. there u
    ∙ ap (λ t. if bytes_eq uri u then Some (shown_text place number (chars t))
    else uncompared_in old u) c.in_ok-text.ensures.ok
