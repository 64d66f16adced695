-- What a message that is left without its params, and perhaps without the value of its result,
-- means to a session.
use Rattle.std.proofs.Common.{◌≡◌, ℕ, List, [], ◌∷◌, ◌++◌, Some, false, not, inl, inr, refl, sym, ap}
use Rattle.std.proofs.Common.{◌∙◌, subst}
use Rattle.std.specs.Prelude.{◌⊎◌}
use Rattle.lsp_rpc.specs.Message.{Message, request, notification, response, result, error}
use Rattle.lsp_rpc.specs.Outline.{outline, without_params, without_result}
use Rattle.lsp_rpc.specs.View.{act_view, message_view}
use Rattle.lsp_rpc.specs.declared.act.Spoken.{Spoken}
use Rattle.lsp_outline.specs.Spoken as spoken
use Rattle.lsp_outline.specs.declared.outline.Results.{Results}
use Rattle.lsp_outline.specs.declared.outline.Results.TheVariants.{LeftOut}
use Rattle.lsp_types.specs.declared.side.Side.{Side}
use Rattle.lsp_session.specs.Handshake.{is_empty, open_initializes}
use Rattle.lsp_session.specs.Laws.{sent_by}
use Rattle.lsp_session.specs.OpenInitialize.{Initialize}
use Rattle.lsp_session.specs.Rules.{rule_after}
use Rattle.lsp_session.specs.Sent.{Sent}
use Rattle.lsp_session.specs.State as session
use Rattle.lsp_session.proofs.Unread.{params_unread, result_unread}
use Rattle.lsp_verdict.specs.Event.{Event, message, sent_in}
use Rattle.lsp_verdict.specs.Placed.{ReadsAs}
use Rattle.lsp_replay.specs.Keeping.{IsMessageOf}
use Rattle.lsp_replay.specs.Standing.{HasValue}
use Rattle.lsp_replay.specs.Telling.{IsSpoken, MaySpeak}

pub none_waits : (waiting : List Initialize) → false ≡ not (is_empty waiting) → waiting ≡ []
none_waits [] h = refl
none_waits (i ∷ rest) h = absurd (cc)

-- ---- what is left of a message

without_twice : (m : Message) → without_result (without_result m) ≡ without_result m
without_twice (response id (result value)) = refl
without_twice _ = refl

bare_twice : (m : Message) → without_params (without_params m) ≡ without_params m
bare_twice (request id method params) = refl
bare_twice (notification method params) = refl
bare_twice (response id reply) = refl

outline_twice : (m : Message) → outline (outline m) ≡ outline m
outline_twice (response id (result value)) = refl
outline_twice _ = refl

outline_bare : (m : Message) → outline m ≡ outline (without_params m)
outline_bare (response id (result value)) = refl
outline_bare _ = refl

outline_split : (m : Message) → outline m ≡ without_params (without_result m)
outline_split (response id (result value)) = refl
outline_split _ = refl

-- a content that says something, where its result is left out only if nothing reads it
module _ (results : Results) (side : Side) (content : List ℕ) (s : Spoken) (events : List Event)
    (none : results ≡ LeftOut → open_initializes (sent_in events) ≡ [])
    (h : spoken.Says results side content (message_view s.message) (act_view s.act)) where
  left_so : (left : Message)
      → (left ≡ without_params h.whole) ⊎ ((results ≡ LeftOut) × (left ≡ outline h.whole))
      → (outline h.whole ≡ outline left) × HasValue events left h.whole
  left_so left (inl is) = (outline_bare h.whole ∙ ap outline (sym is), inr is)
  left_so left (inr out) = (sym (outline_twice h.whole) ∙ ap outline (sym out.1), inl (none out.0))

  pub heard : IsMessageOf events side content s
  heard =
      let left = left_so (message_view s.message) h.rest in (
        message (sent_by side (act_view s.act) h.whole),
        record { by = refl; reads = h.reads; means = h.means },
        record {
          sent = sent_by side (act_view s.act) h.whole;
          is = refl;
          by = refl;
          says = left.0;
          means = refl;
          has_value = left.1;
        },
      )

-- ---- what is left of it breaks the rule that it breaks, and leaves the same

abbrev pub Carries : List Sent → Side → Message → Sent → Type 0
Carries before side left m =
    (rule_after before (sent_by side m.act left) ≡ rule_after before m)
    × (session.state_of (before ++ sent_by side m.act left ∷ [])
    ≡ session.state_of (before ++ m ∷ []))

pub carried : (before : List Sent) (left : Message) (m : Sent)
    → outline m.message ≡ outline left
    → (open_initializes before ≡ []) ⊎ (left ≡ without_params m.message)
    → Carries before m.side left m
carried before left m says (inr is) =
    params_unread before m.side m.act left m.message (ap without_params is ∙ bare_twice m.message)
carried before left m says (inl none) =
    let of_left = result_unread before m.side m.act left (without_result left) none
    (sym (without_twice left)) in
    let between = params_unread before m.side m.act (without_result left)
    (without_result m.message) (sym (outline_split left) ∙ sym says ∙ outline_split m.message) in
    let of_whole = result_unread before m.side m.act (without_result m.message) m.message none
    (without_twice m.message) in
    (of_left.0 ∙ between.0 ∙ of_whole.0, of_left.1 ∙ between.1 ∙ of_whole.1)

-- ---- a message is its content's side's

pub said_by : (side : Side) (bytes : List ℕ) (events : List Event) (event : Event) (s : Spoken)
    → ReadsAs side bytes event → MaySpeak events event (Some s) → IsSpoken events event side s
said_by side bytes events event s reads (by, said) = record {
  sent = said.sent;
  is = said.is;
  by = (subst (λ (e : Event). ReadsAs side bytes e) said.is reads).by;
  says = said.says;
  means = said.means;
  has_value = said.has_value;
}
