-- Laws of streams and frames.
use Rattle.std.specs.Prelude.{◌≡◌, ◌≤◌, ℕ, List, [], ◌∷◌, ◌++◌, length, Option, Some}
use Rattle.lsp_frame.specs.Bounds.{Bounds, IsInRange}
use Rattle.lsp_frame.specs.Frame.{IsFrame, Frames, IsStream, Breaks}
use Rattle.lsp_frame.specs.Front.{header_front}
use Rattle.lsp_frame.specs.Sink.{canonical}

-- two readings of a stream are one
pub record Same (us bs : List (List ℕ)) (r s : List ℕ) (p q : Option ℕ) : Type 0 where
  pub contents : us ≡ bs
  pub rest : r ≡ s
  pub fault : p ≡ q

-- no frame is the beginning of a longer one
abbrev pub NoFrameBeginsAnother : Type 0
NoFrameBeginsAnother = (limits : Bounds) (frame more content longer : List ℕ)
    → IsFrame limits frame content → IsFrame limits (frame ++ more) longer → more ≡ []

-- all bytes are a stream
abbrev pub SomeReading : Type 0
SomeReading = (limits : Bounds) (bytes : List ℕ)
    → (contents : List (List ℕ)) × (rest : List ℕ) × (breaks : Option ℕ)
    × IsStream limits bytes contents rest breaks

-- they are one stream only
abbrev pub OneReading : Type 0
OneReading = (limits : Bounds) (bytes : List ℕ) (us bs : List (List ℕ)) (r s : List ℕ) (p q : Option ℕ)
    → IsStream limits bytes us r p → IsStream limits bytes bs s q → Same us bs r s p q

-- frames that bytes begin with are the first of their stream, and what follows them is the others
abbrev pub FramesComeFirst : Type 0
FramesComeFirst = (limits : Bounds) (bytes : List ℕ) (contents : List (List ℕ)) (after : List ℕ)
    (all : List (List ℕ)) (rest : List ℕ) (breaks : Option ℕ)
    → Frames limits bytes contents after → IsStream limits bytes all rest breaks
    → (more : List (List ℕ)) × (all ≡ contents ++ more) × IsStream limits after more rest breaks

-- more bytes keep the contents
abbrev pub ContentsStay : Type 0
ContentsStay = (limits : Bounds) (bytes : List ℕ) (contents : List (List ℕ)) (rest more : List ℕ)
    → Frames limits bytes contents rest → Frames limits (bytes ++ more) contents (rest ++ more)

-- and where there is a fault, it and the contents
abbrev pub FaultStays : Type 0
FaultStays = (limits : Bounds) (bytes : List ℕ)
    (contents : List (List ℕ)) (rest : List ℕ) (rule : ℕ) (more : List ℕ)
    → IsStream limits bytes contents rest (Some rule)
    → IsStream limits (bytes ++ more) contents (rest ++ more) (Some rule)

-- and what is shown of the header part that has the fault
abbrev pub FrontStays : Type 0
FrontStays = (limits : Bounds) → IsInRange limits → (bytes more : List ℕ) (rule : ℕ)
    → Breaks limits bytes rule → header_front (bytes ++ more) ≡ header_front bytes

-- the canonical frame of a content within the limits is a frame of it
abbrev pub CanonicalIsFrame : Type 0
CanonicalIsFrame = (limits : Bounds) (content : List ℕ)
    → IsInRange limits → length content ≤ limits.content → IsFrame limits (canonical content) content

-- a stream that begins with that frame has that content first, whatever follows
abbrev pub CanonicalIsRead : Type 0
CanonicalIsRead = (limits : Bounds) (content after : List ℕ)
    (all : List (List ℕ)) (rest : List ℕ) (breaks : Option ℕ)
    → IsInRange limits → length content ≤ limits.content
    → IsStream limits (canonical content ++ after) all rest breaks
    → (more : List (List ℕ)) × (all ≡ content ∷ more) × IsStream limits after more rest breaks
