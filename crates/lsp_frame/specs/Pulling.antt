-- What a decoder takes of a source.
use Rattle.std.specs.Prelude.{◌≡◌, ℕ, ◌<◌, ◌≤◌, min, List, [], ◌∷◌, ◌++◌, length, Bool, true, false, None, Result, Ok, Err}
use Rattle.std.specs.Io.KnownBytes.{IsAtEnd}
use Rattle.lsp_frame.specs.Frame.{IsFrame}
use Rattle.lsp_frame.specs.Start.{StartsUnfinished}
use Rattle.lsp_frame.specs.Told.{Told, Gave, KeepsBytes, after_failure}
use Rattle.lsp_frame.specs.Decoder.{State, StandsFor, empty, taken, room_for}
use Rattle.lsp_frame.specs.declared.decoder.Missing.{Missing}
use Rattle.lsp_frame.specs.declared.decoder.PullFault.{PullFault}
use Rattle.lsp_frame.specs.declared.decoder.PullFault.TheVariants.{Read, Memory}
use Rattle.lsp_frame.specs.declared.io.Failed.{Failed}

-- the source gave a piece of n bytes, at most this many, which was pushed
pub record Pulls (old new : State) (before after : Told) (most n : ℕ) : Type 0 where
  pub piece : List ℕ
  pub gave : Gave before after piece
  pub failures : after.failures ≡ before.failures
  pub count : length piece ≡ n
  pub within : n ≤ most
  pub taken : new ≡ taken old most piece
  pub stands : (bytes : List ℕ) (contents : List (List ℕ)) → StandsFor old bytes contents → StandsFor new (bytes ++ piece) contents

-- the source failed, and nothing was pushed
pub record PullFails (old new : State) (before after : Told) (most : ℕ) : Type 0 where
  pub keeps : KeepsBytes before after
  pub failures : after.failures ≡ after_failure before.failures
  pub taken : new ≡ taken old most []
  pub stands : (bytes : List ℕ) (contents : List (List ℕ)) → StandsFor old bytes contents → StandsFor new bytes contents

-- ---- a content that is let go

-- the rest begins with a frame, of whose content bytes are missing
pub record Misses (s : State) (missing : Missing) : Type 0 where
  pub no_fault : s.fault ≡ None
  pub begun : 0 < length s.rest
  pub some : 0 < missing.bytes
  pub whole : (piece : List ℕ) → length piece ≡ missing.bytes → (content : List ℕ) × IsFrame s.limits (s.rest ++ piece) content × (length content ≡ missing.content)
  pub unfinished : (piece : List ℕ) → length piece < missing.bytes → StartsUnfinished s.limits (s.rest ++ piece)

-- the rest begins with no such frame
abbrev pub MissesNone : State → Type 0
MissesNone s = (missing : Missing) → Misses s missing → ⊥

-- how much room is made for what is missing: it comes through a window
abbrev pub window_of : Missing → ℕ
window_of missing = min missing.bytes 65536

-- the source gave this many bytes
pub record GavePast (before after : Told) (n : ℕ) : Type 0 where
  pub piece : List ℕ
  pub gave : Gave before after piece
  pub failures : after.failures ≡ before.failures
  pub count : length piece ≡ n

-- the source failed before it had given this many bytes
pub record FailsPast (before after : Told) (most : ℕ) : Type 0 where
  pub middle : Told
  pub n : ℕ
  pub past : GavePast before middle n
  pub fewer : n < most
  pub keeps : KeepsBytes middle after
  pub failures : after.failures ≡ after_failure middle.failures

-- this many bytes were given, fewer only at the end of the source
abbrev pub GoesPast : Told → Told → ℕ → Result ℕ Failed → Type 0
GoesPast before after most (Ok n) = GavePast before after n × (n ≤ most) × (n < most → IsAtEnd after.bytes)
GoesPast before after most (Err failed) = FailsPast before after most

-- all that was missing was given, and so the content
pub record PassesAll (old new : State) (before after : Told) (missing : Missing) : Type 0 where
  pub past : GavePast before after missing.bytes
  pub content : List ℕ
  pub len : length content ≡ missing.content
  pub let_go : new ≡ record (empty old.limits) { room = room_for old (window_of missing) }
  pub stands : (bytes : List ℕ) (contents : List (List ℕ))
      → StandsFor old bytes contents → StandsFor new (bytes ++ past.piece) (contents ++ content ∷ [])

-- the source ended before
pub record EndsBefore (old new : State) (before after : Told) (missing : Missing) : Type 0 where
  pub n : ℕ
  pub past : GavePast before after n
  pub fewer : n < missing.bytes
  pub end : IsAtEnd after.bytes
  pub kept : new ≡ taken old (window_of missing) []

abbrev pub Passes : State → State → Told → Told → Missing → Result Bool PullFault → Type 0
Passes old new before after missing (Ok true) = PassesAll old new before after missing
Passes old new before after missing (Ok false) = EndsBefore old new before after missing
Passes old new before after missing (Err Read) = FailsPast before after missing.bytes × (new ≡ taken old (window_of missing) [])
Passes old new before after missing (Err Memory) = (new ≡ old) × (after ≡ before)
