-- How the numbers of names are given while a log is written, message by message.
use Rattle.std.specs.Prelude.{◌≡◌}
use Rattle.lsp_redact.specs.Names.{Names, distinct, joined}
use Rattle.lsp_redact.specs.declared.names.Names as code
use Rattle.lsp_redact.specs.declared.redaction.Redaction.{Redaction}

-- the names that were seen so far are these, each once
pub record Stands (seen : code.Names) (names : Names) : Type 0 where
  pub uris : seen.uris ≡ distinct names.uris
  pub ids : seen.ids ≡ distinct names.ids
  pub methods : seen.methods ≡ distinct names.methods
  pub encodings : seen.encodings ≡ distinct names.encodings

-- the names of a log begin with these
abbrev pub Begins : Names → Names → Type 0
Begins names whole = (more : Names) × (whole ≡ joined names more)

-- **this is shown of what has these names**, whatever names the log has after them
pub record Shows {X : Type 0} (old new : code.Names) (added : Names) (shown : Names → X) (is : X)
    : Type 0 where
  pub stands : (before : Names) → Stands old before → Stands new (joined before added)
  pub value : (before whole : Names) → Stands old before → Begins (joined before added) whole
      → is ≡ shown whole

-- the same while the character that must stay apart is one and the same
pub record Writes {X : Type 0} (old new : Redaction) (added : Names) (shown : Names → X) (is : X)
    : Type 0 where
  pub same : new.apart ≡ old.apart
  pub shows : Shows old.names new.names added shown is
