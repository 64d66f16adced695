-- What is written of what a message means, where little or nothing is.
use Rattle.std.proofs.Common.{◌≡◌, Option, None, sym, subst, refl}
use Rattle.serde_json.specs.Data.{Data}
use Rattle.lsp_replay.specs.Common.{Act, act_view, other}
use Rattle.lsp_rpc.specs.declared.act.Act as code
use Rattle.lsp_rpc.specs.declared.act.Act.TheVariants as acts
use Rattle.lsp_redact.specs.Copies.{call_of}
use Rattle.lsp_redact.specs.Messages.{params_of}
use Rattle.lsp_redact.specs.Names.{act_names}
use Rattle.lsp_redact.specs.Naming.{Writes}
use Rattle.lsp_redact.specs.Shown.{shown_act}
use Rattle.lsp_redact.specs.declared.redaction.Redaction.{Redaction}
use Rattle.lsp_redact.proofs.Showing.{writes_same}

-- the params are written of a message that means this
abbrev pub WritesParams : Redaction → Redaction → Act → Option Data → Type 0
WritesParams old new act params =
    Writes old new (act_names act) (λ n. params_of (shown_act n old.apart act)) params

-- of what says nothing of a document no params are
pub nothing_written : (r : Redaction) (act : Act) → act ≡ other → WritesParams r r act None
nothing_written r act is =
    subst (λ (a : Act). WritesParams r r a None) (sym is) (writes_same r None None refl)

-- of what is said of a document, or of nothing, all are
pub rest_written : (old new : Redaction) (a : code.Act) (params : Option Data)
    → ((o : _) → a ≡ acts.Initialize o → ⊥) → ((i : _) → a ≡ acts.Cancel i → ⊥)
    → ((t : _) → a ≡ acts.Progress t → ⊥) → ((ms : _) → a ≡ acts.Register ms → ⊥)
    → WritesParams old new (call_of (act_view a)) params → WritesParams old new (act_view a) params
rest_written old new (acts.Initialize o) params f0 f1 f2 f3 h = absurd (f0 o refl)
rest_written old new (acts.Cancel i) params f0 f1 f2 f3 h = absurd (f1 i refl)
rest_written old new (acts.Progress t) params f0 f1 f2 f3 h = absurd (f2 t refl)
rest_written old new (acts.Register ms) params f0 f1 f2 f3 h = absurd (f3 ms refl)
rest_written old new _ params f0 f1 f2 f3 h = h
