-- How the frame begins that has a stream's fault.
use Rattle.std.specs.Prelude.{◌≡◌, ℕ, List, [], ◌∷◌, ◌++◌, take, Bool, None, if◌then◌else◌}
use Rattle.std.specs.Str.{bytes_eq}
use Rattle.lsp_frame.specs.Header.{blank_line}
use Rattle.lsp_frame.specs.Frame.{Frames}
use Rattle.lsp_frame.specs.Decoder.{State}

abbrev pub begins_blank : List ℕ → Bool
begins_blank bytes = bytes_eq (take 4 bytes) blank_line

-- up to the first CR LF CR LF, which is included
abbrev pub header_of : List ℕ → List ℕ
header_of [] = []
header_of (b ∷ bytes) = if begins_blank (b ∷ bytes) then blank_line else b ∷ header_of bytes

-- how many bytes of a header part are looked at
abbrev pub shown_bytes : ℕ
shown_bytes = 64

-- the header part that the bytes begin with, as far as the first bytes go
abbrev pub header_front : List ℕ → List ℕ
header_front bytes = header_of (take shown_bytes bytes)

-- the bytes that are held follow the frames given, and where there was no fault nothing else
pub record HoldsRest (s : State) (bytes : List ℕ) (contents : List (List ℕ)) (held : List ℕ) : Type 0 where
  pub more : List ℕ
  pub frames : Frames s.limits bytes contents (held ++ more)
  pub all : s.fault ≡ None → more ≡ []
