-- Frames, and what a stream of bytes is as frames.
use Rattle.std.specs.Prelude.{◌≡◌, ◌⊎◌, ℕ, ◌≤◌, List, [], ◌∷◌, ◌++◌, length, take, Option, Some, None, Ok, Err}
use Rattle.lsp_frame.specs.Bounds.{Bounds}
use Rattle.lsp_frame.specs.Header.{blank_line, Says}
use Rattle.lsp_types.specs.declared.rules.TheConstants as rules

-- it holds CR LF CR LF nowhere
abbrev pub HoldsNoBlank : List ℕ → Type 0
HoldsNoBlank bytes = (front back : List ℕ) → bytes ≡ front ++ (blank_line ++ back) → ⊥

-- a header part ends with CR LF CR LF and holds it nowhere earlier
pub record IsHeader (limits : Bounds) (header : List ℕ) : Type 0 where
  pub ends : (front : List ℕ) × (header ≡ front ++ blank_line)
  pub first : (front back : List ℕ) → header ≡ front ++ (blank_line ++ back) → back ≡ []
  pub short : length header ≤ limits.header

-- a frame of this content
pub record IsFrame (limits : Bounds) (bytes content : List ℕ) : Type 0 where
  pub header : List ℕ
  pub whole : bytes ≡ header ++ content
  pub part : IsHeader limits header
  pub says : Says limits header (Ok (length content))

-- a frame of this content, and then the rest
abbrev pub Begins : Bounds → List ℕ → List ℕ → List ℕ → Type 0
Begins limits bytes content rest = (frame : List ℕ) × (bytes ≡ frame ++ rest) × IsFrame limits frame content

-- frames with these contents, and then the rest
abbrev pub Frames : Bounds → List ℕ → List (List ℕ) → List ℕ → Type 0
Frames limits bytes [] rest = bytes ≡ rest
Frames limits bytes (content ∷ contents) rest =
    (after : List ℕ) × Begins limits bytes content after × Frames limits after contents rest

-- the first bytes, as many as a header part may have, don't hold its end
pub record IsTooLong (limits : Bounds) (bytes : List ℕ) : Type 0 where
  pub long : limits.header ≤ length bytes
  pub endless : HoldsNoBlank (take limits.header bytes)

-- a header part that has this fault, and then more
pub record IsBad (limits : Bounds) (bytes : List ℕ) (rule : ℕ) : Type 0 where
  pub header : List ℕ
  pub after : List ℕ
  pub whole : bytes ≡ header ++ after
  pub part : IsHeader limits header
  pub says : Says limits header (Err rule)

-- the bytes begin with this fault
abbrev pub Breaks : Bounds → List ℕ → ℕ → Type 0
Breaks limits bytes rule =
    ((rule ≡ rules.HEADER_PART_TOO_LONG) × IsTooLong limits bytes) ⊎ IsBad limits bytes rule

abbrev pub HasFault : Bounds → List ℕ → Option ℕ → Type 0
HasFault limits bytes (Some rule) = Breaks limits bytes rule
HasFault limits bytes None = (rule : ℕ) → Breaks limits bytes rule → ⊥

-- frames with these contents, a rest that begins with no frame, and the rest's fault
pub record IsStream (limits : Bounds) (bytes : List ℕ)
    (contents : List (List ℕ)) (rest : List ℕ) (breaks : Option ℕ) : Type 0 where
  pub frames : Frames limits bytes contents rest
  pub no_more : (content after : List ℕ) → Begins limits rest content after → ⊥
  pub fault : HasFault limits rest breaks
