-- **What is left of a log: a shape, which has no place for a word of it.** A text is characters of
-- which only the kind is known, a name is a number. What is written is a function of the shape.
use Rattle.std.specs.Prelude.{ℕ, ℤ, List, Bool, Option}
use Rattle.lsp_replay.specs.Common.{Format, Side, Span, SyncKind}
use Rattle.lsp_redact.specs.declared.characters.Kind.{Kind}

-- ---- texts and names

-- one of a kind, which may be the one letter that stays apart from the others; or a mark of ASCII,
-- such as a bracket, a space or a part of a line end
pub data Character : Type 0 where
  of_kind : Kind → Bool → Character
  mark : ℕ → Character

abbrev pub Text : Type 0
Text = List Character

-- an id or a token, by the number of its text, in one of two forms: 3 and "3" have one number
pub data Id : Type 0 where
  as_number : ℕ → Id
  as_text : ℕ → Id

-- a method or an encoding: one that the rules name, by its place among those, or the number of
-- another
pub data Name : Type 0 where
  known : ℕ → Name
  unknown : ℕ → Name

-- ---- messages

pub record Offer : Type 0 where
  pub encodings : Option (List Name)
  pub token : Option Id

pub record Picked : Type 0 where
  pub encoding : Name
  pub kind : SyncKind

pub record Change : Type 0 where
  pub span : Option Span
  pub range_length : Option ℤ
  pub text : Text

-- of params what the rules read; a document is the number of its URI
pub data Params : Type 0 where
  initialize : Offer → Params
  did_open : ℕ → ℤ → Text → Params
  did_change : ℕ → ℤ → List Change → Params
  did_close : ℕ → Params
  did_save : ℕ → Option Text → Params
  cancel : Id → Params
  progress : Id → Params
  register : List Name → Params
  unread : Params

-- of an answer
pub data Reply : Type 0 where
  picks : Picked → Reply
  nothing : Reply
  failed : ℤ → Reply

-- of a message, apart from its params
pub data Head : Type 0 where
  request : Id → Name → Head
  notification : Name → Head
  response : Option Id → Reply → Head

-- of a content that is refused: the rule of 201 to 208 that it breaks, or the method of the call
-- whose params are bad
pub data Refused : Type 0 where
  breaks : ℕ → Refused
  bare_request : Name → Refused
  bare_notification : Name → Refused
  no_call : Refused

-- ---- a log

pub data Event : Type 0 where
  message : Side → Head → Params → Event
  refused : Side → Refused → Event
  snapshot : ℕ → ℤ → Text → Event

-- **what is left of a log**
pub record Shape : Type 0 where
  pub format : Format
  pub events : List Event
