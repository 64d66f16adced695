-- A message that says something of a document is a notification, sent as LSP 3.17 defines it, and
-- says nothing of files, nor has it diagnostics.
use Rattle.std.specs.Prelude.{if◌then◌else◌, option_and_then, option_map}
use Rattle.std.specs.Str.{bytes_eq}
use Rattle.std.proofs.Common.{◌≡◌, ◌⊎◌, ◌∙◌, ℕ, Bool, true, false, List, [], ◌∷◌, Option, Some, None}
use Rattle.std.proofs.Common.{inl, inr, refl, sym, ap, subst}
use Rattle.std.proofs.lemmas.Slice.Eq.{bytes_eq-Decides}
use Rattle.serde_json.specs.Data.{Data}
use Rattle.lsp_replay.specs.Common.{Act, act_at, Call, call_of, Encoding, Ident, Message}
use Rattle.lsp_replay.specs.Common.{notification, other, Side, SyncKind}
use Rattle.lsp_rpc.specs.Act.{cancel, early, exit, initialized, progress}
use Rattle.lsp_rpc.specs.Params.{Row, act_by, cancel_at, notifications, progress_at}
use Rattle.lsp_types.specs.declared.side.Side.TheVariants.{Editor, Server}
use Rattle.lsp_verdict.proofs.Offences.Quiet.{IsNotified, IsPlain, is_notified}
use Rattle.lsp_trail.specs.SessionNotes.{notification_misuse}
use Rattle.lsp_trail.specs.StandardMethods.{standard, use_among, use_of}
use Rattle.lsp_trail.specs.Naming.{is_diagnostics}
use Rattle.lsp_trail.specs.Renames.{is_on_files}

-- a row whose messages say nothing of a document, or whose method has no misuse, is none on files
-- and has no diagnostics
abbrev IsRight : Side → List ℕ → Act → Type 0
IsRight side method act =
    IsPlain act ⊎ ((notification_misuse side method ≡ None) × (is_on_files method ≡ false)
    × (is_diagnostics method ≡ false))

abbrev AreRight : Side → List Row → Type 0
AreRight side [] = Unit {0}
AreRight side (row ∷ rows) = ((params : Option Data) (act : Act) → row.act params ≡ Some act
    → IsRight side row.method act) × AreRight side rows

right_by : (side : Side) (rows : List Row) → AreRight side rows → (method : List ℕ)
    (params : Option Data) (act : Act) → act_by rows method params ≡ Some act
    → IsRight side method act
right_by side [] all method params act e =
    let same : other ≡ act = cc e in inl (subst IsPlain same (λ enc kind. refl))
right_by side (row ∷ rows) all method params act e =
    by_test (λ f. right_by side rows all.1 method params act f) (bytes_eq method row.method) refl e
  where
    by_test : (act_by rows method params ≡ Some act → IsRight side method act) → (b : Bool)
        → bytes_eq method row.method ≡ b
        → (if b then row.act params else act_by rows method params) ≡ Some act
        → IsRight side method act
    by_test others true is f = subst (λ (m : List ℕ). IsRight side m act)
        (sym ((bytes_eq-Decides method row.method).0 is)) (all.0 params act f)
    by_test others false is f = others f

plain : (known act : Act) → IsPlain known → Some known ≡ Some act → IsPlain act
plain known act is e = let same : known ≡ act = cc e in subst IsPlain same is

-- what an id is said of
plain_id : (says : Ident → Act) → ((id : Ident) → IsPlain (says id)) → (o : Option Ident) (act : Act)
    → option_map says o ≡ Some act → IsPlain act
plain_id says each None act e = absurd cc
plain_id says each (Some id) act e = plain (says id) act (each id) e

plain_params : (shape : Data → Option Act)
    → ((d : Data) (act : Act) → shape d ≡ Some act → IsPlain act) → (params : Option Data)
    (act : Act) → option_and_then shape params ≡ Some act → IsPlain act
plain_params shape each None act e = absurd cc
plain_params shape each (Some d) act e = each d act e

cancels : (params : Option Data) (act : Act) → option_and_then cancel_at params ≡ Some act
    → IsPlain act
cancels = plain_params cancel_at (λ d act e. plain_id cancel (λ id enc kind. refl) _ act e)

progresses : (params : Option Data) (act : Act) → option_and_then progress_at params ≡ Some act
    → IsPlain act
progresses = plain_params progress_at (λ d act e. plain_id progress (λ id enc kind. refl) _ act e)

right_rows : (side : Side) → AreRight side (notifications side)
unfolding use_of use_among standard
right_rows Editor = (
  λ params act e. inl (plain initialized act (λ enc kind. refl) e),
  (
    λ params act e. inl (plain exit act (λ enc kind. refl) e),
    (
      λ params act e. inr (refl, refl, refl),
      (
        λ params act e. inr (refl, refl, refl),
        (
          λ params act e. inr (refl, refl, refl),
          (λ params act e. inr (refl, refl, refl), (λ params act e. inl (cancels params act e), tt)),
        ),
      ),
    ),
  ),
)
right_rows Server = (
  λ params act e. inl (cancels params act e),
  (
    λ params act e. inl (progresses params act e),
    (
      λ params act e. inl (plain early act (λ enc kind. refl) e),
      (
        λ params act e. inl (plain early act (λ enc kind. refl) e),
        (λ params act e. inl (plain early act (λ enc kind. refl) e), tt),
      ),
    ),
  ),
)

-- **what such a message is**
pub record IsOnDocument (side : Side) (m : Message) : Type 0 where
  pub method : List ℕ
  pub params : Option Data
  pub is : m ≡ notification method params
  pub standard : notification_misuse side method ≡ None
  pub no_files : is_on_files method ≡ false
  pub no_diagnostics : is_diagnostics method ≡ false

pub on_document : (side : Side) (m : Message) (act : Act) (enc : Encoding) (kind : SyncKind)
    (call : Call) → act_at side m ≡ Some act → call_of enc kind act ≡ Some call
    → IsOnDocument side m
on_document side m act enc kind call means says =
    let told = is_notified side m act enc kind call means says in
    by_row told (right_by side (notifications side) (right_rows side) told.method told.params act
    (ap (act_at side) (sym told.is) ∙ means))
  where
    by_row : (told : IsNotified m) → IsRight side told.method act → IsOnDocument side m
    by_row told (inr right) = record {
      method = told.method;
      params = told.params;
      is = told.is;
      standard = right.0;
      no_files = right.1;
      no_diagnostics = right.2;
    }
    by_row told (inl is_plain) =
        let none : None ≡ Some call = sym (is_plain enc kind) ∙ says in absurd (cc none)
