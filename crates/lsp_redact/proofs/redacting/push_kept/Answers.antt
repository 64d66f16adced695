use Rattle.std.proofs.Common.{List, ℕ, ◌++◌, ◌∷◌, [], append-nil, ap, max, refl, rules, string_bytes}
use Rattle.std.proofs.Common.{w32, ◌∙◌}
use Rattle.std.proofs.lemmas.Int.{to_z-of_z}
use mir.Val.{SFits}
use Rattle.std.specs.List.{flat_map}
use Rattle.lsp_replay.specs.Common.{shown, spelling, Text}
use Rattle.lsp_redact.specs.Characters.{shown_bytes}
use Rattle.lsp_redact.specs.Records.{content_records}
use Rattle.lsp_redact.proofs.Showing.{shows_made, writes_made}
use Rattle.lsp_redact.proofs.redacting.push_kept.Goals as goal

pub returns-in_ok-push_content-in-Message : goal.returns-in_ok-push_content-in-Message
returns-in_ok-push_content-in-Message c =
    let put = λ (bytes : List ℕ). string_bytes c.args.text.now
    ++ flat_map spelling (content_records (max c.args.most 1) c.in-Message.side bytes) in
    rw c.in-Message.is (writes_made put (string_bytes c.push_content.new.text)
    (c.in_ok-push_content-in-Message.ensures ∙ ap put c.as_str.ensures.value)
    c.in_ok-content-in-Message.ensures)

pub returns-in_ok-push_snapshot-in-Snapshot : goal.returns-in_ok-push_snapshot-in-Snapshot
returns-in_ok-push_snapshot-in-Snapshot c =
    let own = shown_bytes c.args.redaction.now.apart (string_bytes c.in-Snapshot.shown) in
    let put = λ (name : Text). string_bytes c.args.text.now
    ++ flat_map spelling (shown c.in-Snapshot.version name own ∷ []) in
    let fits : SFits w32 c.in-Snapshot.version = search rules in
    rw c.in-Snapshot.is record {
      same = refl;
      shows = shows_made put (string_bytes c.push_snapshot.new.text)
          (cc (
            c.in_ok-push_snapshot-in-Snapshot.ensures,
            c.in_ok-body-in-Snapshot.ensures,
            c.as_str-in-Snapshot.ensures.value,
            c.as_str-in-Snapshot-2.ensures.value,
            c.as_str-in-Snapshot-3.ensures.value,
            c.as_str-in-Snapshot-4.ensures.value,
            to_z-of_z w32 c.in-Snapshot.version fits,
            append-nil (spelling (shown c.in-Snapshot.version (string_bytes c.in_ok-name-in-Snapshot.name) own)),
          ))
          (rw c.as_str-in-Snapshot.ensures.value at c.in_ok-name-in-Snapshot.ensures);
    }
