-- What is kept of an event is what the rules read of it.
use Rattle.std.proofs.Common.{◌≡◌, ◌⊎◌, ℕ, Bool, true, false, List, Option, Some, None, refl, sym, ap}
use Rattle.std.proofs.Common.{◌∙◌, inl, inr, subst, true≢false}
use Rattle.std.specs.Prelude.{not, option_map}
use Rattle.lsp_replay.specs.Common.{Act, act_view, Event, is_empty, MaySpeak, Message, message}
use Rattle.lsp_replay.specs.Common.{message_view, outline, Sent, Side, snapshot, Spoken}
use Rattle.lsp_replay.specs.Common.{without_params}
use Rattle.lsp_rpc.specs.Message as spoken
use Rattle.lsp_session.specs.OpenInitialize.{Initialize}
use Rattle.lsp_replay.specs.Standing.{HasValue}
use Rattle.lsp_replay.specs.Telling.{IsSpoken}
use Rattle.lsp_verdict.specs.Event.{fault}
use Rattle.lsp_verdict.specs.Placed.{IsSent, ReadsAs}
use Rattle.lsp_redact.specs.Kept as kept
use Rattle.lsp_redact.specs.Kept.{Head, Kept, awaits, head_of, kept_of}
use Rattle.lsp_redact.specs.View as view

-- ---- the head of a message

-- nothing of a result is read, where none is awaited
unawaited : (m : Message) → head_of false m ≡ head_of false (outline m)
unawaited (spoken.response id (spoken.result value)) = refl
unawaited _ = refl

-- the params never are
paramless : (awaited : Bool) (m : Message) → head_of awaited m ≡ head_of awaited (without_params m)
paramless awaited (spoken.request id method params) = refl
paramless awaited (spoken.notification method params) = refl
paramless awaited (spoken.response id reply) = refl

alike : (awaited : Bool) (said whole : Message) → outline whole ≡ outline said
    → (awaited ≡ false) ⊎ (said ≡ without_params whole)
    → head_of awaited whole ≡ head_of awaited said
alike awaited said whole same (inr is) = paramless awaited whole ∙ ap (head_of awaited) (sym is)
alike true said whole same (inl none) = absurd (true≢false none)
alike false said whole same (inl none) =
    unawaited whole ∙ ap (head_of false) same ∙ sym (unawaited said)

value_read : (before : List Event) (said whole : Message) → HasValue before said whole
    → (awaits before ≡ false) ⊎ (said ≡ without_params whole)
value_read before said whole (inl none) =
    inl (ap (λ (us : List Initialize). not (is_empty us)) none)
value_read before said whole (inr is) = inr is

-- ---- an event

-- of a message that is spoken
pub spoken_kept : (before : List Event) (event : Event) (side by : Side) (bytes : List ℕ)
    (s : Spoken) → ReadsAs side bytes event → IsSpoken before event by s
    → Some (kept.message side (head_of (awaits before) (message_view s.message)) (act_view s.act))
    ≡ kept_of before event
spoken_kept before event side by bytes s reads is =
    let sent : Sent = is.sent in
    let own : IsSent side bytes sent = subst (ReadsAs side bytes) is.is reads in
    let made : Side → Head → Act → Option Kept = λ x head act. Some (kept.message x head act) in
    sym (ap (kept_of before) is.is
    ∙ ap (λ (x : Side). made x (head_of (awaits before) sent.message) sent.act) own.by
    ∙ ap (λ (head : Head). made side head sent.act)
    (alike (awaits before) (message_view s.message) sent.message is.says
    (value_read before (message_view s.message) sent.message is.has_value))
    ∙ ap (made side (head_of (awaits before) (message_view s.message))) is.means)

-- of a content that is none
pub unspoken_kept : (before : List Event) (event : Event) (side : Side) (bytes : List ℕ)
    → ReadsAs side bytes event → ((sent : Sent) → event ≡ message sent → ⊥)
    → (let none : Option Kept = None in none) ≡ kept_of before event
unspoken_kept before (message sent) side bytes reads none = absurd (none sent refl)
unspoken_kept before (fault by rule) side bytes reads none = refl
unspoken_kept before (snapshot uri number text) side bytes reads none = absurd reads

-- of a content that is one or none
pub content_kept : (before : List Event) (event : Event) (side : Side) (bytes : List ℕ)
    (o : Option Spoken) → ReadsAs side bytes event → MaySpeak before event o
    → option_map (view.spoken_kept side (awaits before)) o ≡ kept_of before event
content_kept before event side bytes (Some s) reads (by, is) =
    spoken_kept before event side by bytes s reads is
content_kept before event side bytes None reads none =
    unspoken_kept before event side bytes reads none
