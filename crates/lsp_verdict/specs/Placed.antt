-- The events of a session in order: what the records' bytes bring.
use Rattle.std.specs.Prelude.{◌≡◌, List, ℕ, Some, None, ℤ, [], ◌∷◌, ◌++◌, map, Option}
use Rattle.std.specs.Prelude.{if◌then◌else◌, chars}
use Rattle.std.specs.List.{AllZip}
use Rattle.lsp_rpc.specs.Reading as reading
use Rattle.lsp_rpc.specs.Params.{IsRefused, act_at}
use Rattle.lsp_types.specs.declared.side.Side.{Side}
use Rattle.lsp_types.specs.declared.side.Side.TheVariants.{Editor, Server}
use Rattle.lsp_session.specs.Sent.{Sent, same_side}
use Rattle.lsp_frame.specs.Bounds.{Bounds}
use Rattle.lsp_frame.specs.Frame.{IsStream}
use Rattle.lsp_log.specs.Log.{Record, chunk, shown}
use Rattle.lsp_verdict.specs.Event.{Event, message, fault, snapshot}

-- ---- what a content of a side is read as

-- the content is this message, sent by the side, with what it means there
pub record IsSent (side : Side) (bytes : List ℕ) (m : Sent) : Type 0 where
  pub by : m.side ≡ side
  pub reads : reading.Reads bytes m.message
  pub means : act_at side m.message ≡ Some m.act

-- the event that the content is
abbrev pub ReadsAs : Side → List ℕ → Event → Type 0
ReadsAs side bytes (message m) = IsSent side bytes m
ReadsAs side bytes (fault by rule) = (by ≡ side) × IsRefused side bytes rule
ReadsAs side bytes (snapshot uri number text) = ⊥

-- ---- what the bytes of the records bring

-- an event before its content is read: a content of a side, a fault of its frames, a snapshot
pub data Raw : Type 0 where
  content : Side → List ℕ → Raw
  broken : Side → ℕ → Raw
  show : ℤ → List ℕ → List ℕ → Raw

-- the bytes of a side, joined
abbrev pub joined : Side → List Record → List ℕ
joined side [] = []
joined side (chunk by bytes ∷ records) = if same_side side by then bytes ++ joined side records else joined side records
joined side (_ ∷ records) = joined side records

-- a fault that was not there before
abbrev pub new_fault : Side → Option ℕ → Option ℕ → List Raw
new_fault side None (Some rule) = broken side rule ∷ []
new_fault side _ _ = []

-- what a side's stream has with more bytes, and did not have before: the contents that these bytes
-- make whole, and then a fault
pub record Brings (limits : Bounds) (side : Side) (before more : List ℕ) (now : List Raw) : Type 0 where
  pub contents : List (List ℕ)
  pub rest : List ℕ
  pub old_fault : Option ℕ
  pub stream : IsStream limits before contents rest old_fault
  pub new_contents : List (List ℕ)
  pub new_rest : List ℕ
  pub last_fault : Option ℕ
  pub new_stream : IsStream limits (before ++ more) (contents ++ new_contents) new_rest last_fault
  pub brought : now ≡ map (content side) new_contents ++ new_fault side old_fault last_fault

-- the events of these records, where each side has sent these bytes before
abbrev pub PlacedAfter : Bounds → List ℕ → List ℕ → List Record → List Raw → Type 0
PlacedAfter limits editor server [] raws = raws ≡ []
PlacedAfter limits editor server (chunk Editor bytes ∷ records) raws =
    (now : List Raw) × (later : List Raw) × (raws ≡ now ++ later) × Brings limits Editor editor bytes now × PlacedAfter limits (editor ++ bytes) server records later
PlacedAfter limits editor server (chunk Server bytes ∷ records) raws =
    (now : List Raw) × (later : List Raw) × (raws ≡ now ++ later) × Brings limits Server server bytes now × PlacedAfter limits editor (server ++ bytes) records later
PlacedAfter limits editor server (shown number uri text ∷ records) raws = (later : List Raw) × (raws ≡ show number uri text ∷ later) × PlacedAfter limits editor server records later

-- the events of these records
abbrev pub Placed : Bounds → List Record → List Raw → Type 0
Placed limits records raws = PlacedAfter limits [] [] records raws

abbrev pub Reads : Raw → Event → Type 0
Reads (content side bytes) event = ReadsAs side bytes event
Reads (broken side rule) event = event ≡ fault side rule
Reads (show number uri text) event = event ≡ snapshot uri number (chars text)

-- the records are a session of these events
abbrev pub IsSession : Bounds → List Record → List Event → Type 0
IsSession limits records events = (raws : List Raw) × Placed limits records raws × AllZip Reads raws events
