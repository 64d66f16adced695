-- What was read of an event, and what it says about a document.
use Rattle.std.proofs.Common.{◌≡◌, ℕ, List, Some, None, refl, sym, ap, subst, ◌∙◌}
use Rattle.std.specs.Prelude.{ℤ, unwrap_or}
use Rattle.lsp_rpc.specs.Act.{Act}
use Rattle.lsp_rpc.specs.View.{act_view}
use Rattle.lsp_rpc.specs.declared.act.Spoken.{Spoken}
use Rattle.lsp_session.specs.Sent.{Sent}
use Rattle.lsp_session.specs.Negotiation.{encoding, sync_kind}
use Rattle.lsp_types.specs.declared.change.SyncKind.{SyncKind}
use Rattle.lsp_types.specs.declared.change.SyncKind.TheVariants.{Nothing}
use Rattle.lsp_types.specs.declared.position.Encoding.{Encoding}
use Rattle.lsp_types.specs.declared.position.Encoding.TheVariants.{Utf16}
use Rattle.lsp_types.specs.declared.side.Side.{Side}
use Rattle.lsp_verdict.specs.Event.{Event, call_at, call_of, fault, message, sent_in, snapshot}
use Rattle.lsp_verdict.specs.Placed.{ReadsAs}
use Rattle.lsp_replay.specs.Keeping.{IsMessageOf, IsSound}
use Rattle.lsp_replay.specs.Telling.{MaySpeak}

-- a content that is a message is no fault
pub content_sound : (events : List Event) (side : Side) (bytes : List ℕ) (s : Spoken)
    → (is : IsMessageOf events side bytes s) → IsSound is.0
content_sound events side bytes s is = subst IsSound (sym is.2.is) tt

module _ (events : List Event) (event : Event) where
  -- what a message says, under what was agreed
  pub said_here : (enc : Encoding) (kind : SyncKind) (s : Spoken) → MaySpeak events event (Some s)
      → enc ≡ unwrap_or (encoding (sent_in events)) Utf16
      → kind ≡ unwrap_or (sync_kind (sent_in events)) Nothing
      → call_of enc kind (act_view s.act) ≡ call_at events event
  said_here enc kind s speaks e k =
      let said = speaks.1 in
      ap (λ x. call_of x kind (act_view s.act)) e
      ∙ ap (λ x. call_of (unwrap_or (encoding (sent_in events)) Utf16) x (act_view s.act)) k
      ∙ ap (λ (a : Act). call_of (unwrap_or (encoding (sent_in events)) Utf16)
      (unwrap_or (sync_kind (sent_in events)) Nothing) a) (sym said.means)
      ∙ ap (call_at events) (sym said.is)

  -- a content that is no message says nothing
  pub unsaid_here : (side : Side) (bytes : List ℕ) → ReadsAs side bytes event
      → MaySpeak events event None → None ≡ call_at events event
  unsaid_here side bytes reads silent = by_event event refl reads
    where
      by_event : (e : Event) → event ≡ e → ReadsAs side bytes e → None ≡ call_at events event
      by_event (message m) is read = absurd (silent m is)
      by_event (fault by rule) is read = ap (call_at events) (sym is)
      by_event (snapshot uri n t) is read = absurd read

-- a snapshot is no message
pub shown_silent : (uri : List ℕ) (number : ℤ) (text : List ℕ) (sent : Sent)
    → snapshot uri number text ≡ message sent → ⊥
shown_silent uri number text sent is = absurd (cc is)
