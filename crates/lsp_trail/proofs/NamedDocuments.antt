-- The document that a message names, as it is read from its content.
use Rattle.std.specs.Borrow.{Bor}
use Rattle.std.specs.Prelude.{if◌then◌else◌, is_some, option_and_then, option_map, codes}
use Rattle.std.proofs.Common.{◌≡◌, ℕ, Bool, true, false, List, Option, Some, None, refl, sym, ap}
use Rattle.std.proofs.Common.{◌∙◌, subst}
use Rattle.serde_json.specs.Data.{Data, null, boolean, number, string, array, object}
use Rattle.serde_json.specs.Find.{as_str}
use Rattle.lsp_replay.specs.Common.{content, error, Event, Ident, Message, message, notification}
use Rattle.lsp_replay.specs.Common.{outline, Reads, request, required, response, result, Sent, Side}
use Rattle.lsp_replay.specs.Common.{snapshot}
use Rattle.lsp_rpc.specs.Message.{Reply}
use Rattle.lsp_rpc.specs.Reading as rpc
use Rattle.lsp_rpc.specs.Shape.{as_id, unless_null}
use Rattle.lsp_types.specs.declared.side.Side.TheVariants.{Editor, Server}
use Rattle.lsp_outline.proofs.Naming.{of_value, text_gives}
use Rattle.lsp_outline.specs.Named.{document_in, named_in}
use Rattle.lsp_outline.specs.Versions.{Versioned, versioned, versioned_at, versioned_in}
use Rattle.lsp_verdict.specs.Event.{fault}
use Rattle.lsp_verdict.specs.Given.{raw_view}
use Rattle.lsp_verdict.specs.declared.raw.Raw as code_raw
use Rattle.lsp_verdict.specs.declared.raw.Raw.TheVariants as raws
use Rattle.lsp_trail.specs.Naming.{diagnoses, is_call, params_of, version_named, version_named_at}

-- ---- whether it may name one

is_call-outline : (m : Message) → is_call m ≡ is_call (outline m)
is_call-outline (response own (result value)) = refl
is_call-outline _ = refl

diagnoses-outline : (m : Message) → diagnoses m ≡ diagnoses (outline m)
diagnoses-outline (response own (result value)) = refl
diagnoses-outline _ = refl

diagnosis_calls : (m : Message) → diagnoses m ≡ true → is_call m ≡ true
diagnosis_calls (response own reply) is = absurd (cc is)
diagnosis_calls _ is = refl

-- ---- which one

abbrev calls : Option Message → Bool
calls None = false
calls (Some m) = is_call m

-- the params of the message that these parts make
made_with : (b : Bool) (name : Option (List ℕ)) (id : Option Ident) (own : Option Data)
    (answer : Option Reply) (m : Message)
    → (if b then option_map (λ method. rpc.call method id own) name else option_map (response id) answer)
    ≡ Some m
    → is_call m ≡ true → params_of m ≡ own
made_with true (Some name) (Some id) own answer m made is =
    sym (ap (option_and_then params_of) made)
made_with true (Some name) None own answer m made is = sym (ap (option_and_then params_of) made)
made_with false name id own (Some reply) m made is = absurd (cc (ap calls made ∙ is))
made_with _ _ id own _ m made is = absurd (cc made)

-- null has no members
null_gives : {X : Type 0} (shape : Data → Option X) → shape null ≡ None → (own : Option Data)
    → option_and_then shape (option_and_then unless_null own) ≡ option_and_then shape own
null_gives shape none (Some null) = sym none
null_gives shape none _ = refl

-- **a content has the params of its message**
params_so : {X : Type 0} (shape : Data → Option X) → shape null ≡ None → (bytes : List ℕ)
    → (m : Message) → rpc.Reads bytes m → is_call m ≡ true
    → option_and_then shape (params_of m) ≡ of_value (required (codes "params") shape) bytes
params_so shape none bytes m reads is =
    let parts = rpc.parts_of reads.0 in
    ap (option_and_then shape)
    (made_with (is_some parts.method) (option_and_then as_str parts.method)
    (option_and_then as_id parts.id) (option_and_then unless_null parts.params)
    (rpc.reply_in parts.result parts.error) m reads.2.made is)
    ∙ null_gives shape none parts.params
    ∙ text_gives (required (codes "params") shape) bytes reads.0 reads.1.0 reads.1.1

-- it names what its content does, which is known without its params and its result
module _ (m said : Message) (same : outline m ≡ outline said) where
  calls_alike : is_call m ≡ is_call said
  calls_alike = is_call-outline m ∙ ap is_call same ∙ sym (is_call-outline said)

  diagnoses_alike : diagnoses m ≡ diagnoses said
  diagnoses_alike = diagnoses-outline m ∙ ap diagnoses same ∙ sym (diagnoses-outline said)

  -- the editor's
  pub named_so : (bytes : List ℕ) → rpc.Reads bytes m → is_call said ≡ true
      → option_map (versioned None) (named_in Editor bytes) ≡ version_named Editor m
  named_so bytes reads is =
      ap (option_map (versioned None))
      (sym (params_so (document_in Editor) refl bytes m reads (calls_alike ∙ is)))

  pub unnamed : is_call said ≡ false → None ≡ version_named Editor m
  unnamed is = none_in m (calls_alike ∙ is)
    where
      none_in : (w : Message) → is_call w ≡ false → None ≡ version_named Editor w
      none_in (response own reply) not = refl
      none_in _ not = absurd (cc not)

  named_if : (b : Bool) → diagnoses m ≡ b
      → version_named Server m ≡ (if b then option_and_then versioned_at (params_of m) else None)
  named_if b is = ap (λ (x : Bool). if x then option_and_then versioned_at (params_of m) else None) is

  -- the server's
  pub diagnosed_so : (bytes : List ℕ) → rpc.Reads bytes m → diagnoses said ≡ true
      → versioned_in bytes ≡ version_named Server m
  diagnosed_so bytes reads is =
      let own = diagnoses_alike ∙ is in
      sym (named_if true own
      ∙ params_so versioned_at refl bytes m reads (diagnosis_calls m own))

  pub undiagnosed : diagnoses said ≡ false → None ≡ version_named Server m
  undiagnosed is = sym (named_if false (diagnoses_alike ∙ is))

-- ---- an event that is no message
pub silent : (event : Event) → ((sent : Sent) → event ≡ message sent → ⊥)
    → None ≡ version_named_at event
silent (message m) not = absurd (not m refl)
silent _ not = refl

pub silent_raw : (raw : code_raw.Raw) (event : Event)
    → ((side : Side) (bytes behind : Bor (List ℕ)) → raw ≡ raws.Content side bytes behind → ⊥)
    → Reads (raw_view raw) event → None ≡ version_named_at event
silent_raw (raws.Content side bytes behind) event not reads = absurd (not side bytes behind refl)
silent_raw (raws.Broken side rule rest) (message m) not reads = absurd (cc reads)
silent_raw (raws.Snapshot version uri text) (message m) not reads = absurd (cc reads)
silent_raw _ _ not reads = refl

-- ---- a message

uri_back : (o : Option (List ℕ))
    → option_map (λ (v : Versioned). v.uri) (option_map (versioned None) o) ≡ o
uri_back None = refl
uri_back (Some uri) = refl

-- what is named with no version
pub editor_names : (m : Message)
    → option_map (λ (v : Versioned). v.uri) (version_named Editor m)
    ≡ option_and_then (document_in Editor) (params_of m)
editor_names m = uri_back (option_and_then (document_in Editor) (params_of m))

-- what the message of an event says, of which this side sent this content
pub said_so : (side : Side) (bytes : List ℕ) (event : Event) → Reads (content side bytes) event
    → (sent : Sent) → event ≡ message sent
    → rpc.Reads bytes sent.message × (version_named_at event ≡ version_named side sent.message)
said_so side bytes event reads sent is =
    let own = subst (λ (x : Event). Reads (content side bytes) x) is reads in
    (own.reads, ap version_named_at is ∙ ap (λ (x : Side). version_named x sent.message) own.by)
