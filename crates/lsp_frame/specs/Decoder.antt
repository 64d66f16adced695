-- What a decoder holds, and for which streams it stands.
use Rattle.std.specs.Prelude.{◌≡◌, ℕ, ◌+◌, ◌≤◌, max, List, [], ◌∷◌, ◌++◌, length, Option, Some, None, Result, Ok, Err, IfSome}
use Rattle.lsp_frame.specs.Bounds.{Bounds}
use Rattle.lsp_frame.specs.Frame.{IsFrame, Begins, Frames, Breaks, HasFault, IsStream}
use Rattle.lsp_frame.specs.declared.decoder.FrameFault.{FrameFault}
use Rattle.lsp_types.specs.declared.rules.TheConstants as rules

-- kept: the bytes of frames given that are still in the buffer; rest: the bytes pushed that belong
-- to no frame given; fault: the fault given; room: how many bytes the buffer has, those that are
-- not yet used included
pub record State : Type 0 where
  pub limits : Bounds
  pub kept : List ℕ
  pub rest : List ℕ
  pub fault : Option ℕ
  pub room : ℕ

-- before any push
abbrev pub empty : Bounds → State
empty limits = record { limits = limits; kept = []; rest = []; fault = None; room = 0 }

-- the room once this many bytes are to follow the rest: the buffer grows only where they don't fit,
-- and only so far
abbrev pub room_for : State → ℕ → ℕ
room_for s more = max s.room (length s.rest + more)

abbrev pub taken_at : Option ℕ → State → ℕ → List ℕ → State
taken_at None s more piece = record s { kept = []; rest = s.rest ++ piece; room = room_for s more }
taken_at (Some rule) s more piece = s

-- after a piece for which so much room was made; a decoder that gave a fault takes nothing
abbrev pub taken : State → ℕ → List ℕ → State
taken s more piece = taken_at s.fault s more piece

-- after a piece
abbrev pub pushed : State → List ℕ → State
pushed s piece = taken s (length piece) piece

-- the same, in a buffer that is no longer
pub record FitsIn (s due : State) : Type 0 where
  pub same : s ≡ record due { room = s.room }
  pub room : s.room ≤ due.room

-- how many bytes are in the buffer
abbrev pub held_of : State → ℕ
held_of s = length s.kept + length s.rest

-- ---- one answer of `next`, on what the decoder holds

-- the next frame of the rest is given, with this content
pub record GivesFrame (old new : State) (content : List ℕ) : Type 0 where
  pub open_before : old.fault ≡ None
  pub frame : List ℕ
  pub is_frame : IsFrame old.limits frame content
  pub rest : old.rest ≡ frame ++ new.rest
  pub same : new ≡ record old { kept = old.kept ++ frame; rest = new.rest }

-- the rest begins with no frame and no fault, and all stays
pub record GivesNothing (old new : State) : Type 0 where
  pub open_before : old.fault ≡ None
  pub no_frame : (content after : List ℕ) → Begins old.limits old.rest content after → ⊥
  pub no_fault : HasFault old.limits old.rest None
  pub same : new ≡ old

-- the rest begins with this fault, which is kept; one that was given before is given again
pub record GivesFault (old new : State) (rule : ℕ) : Type 0 where
  pub breaks : Breaks old.limits old.rest rule
  pub again : IfSome old.fault (λ before. before ≡ rule)
  pub same : new ≡ record old { fault = Some rule }

abbrev pub Step : State → State → Result (Option (List ℕ)) ℕ → Type 0
Step old new (Ok (Some content)) = GivesFrame old new content
Step old new (Ok None) = GivesNothing old new
Step old new (Err rule) = GivesFault old new rule

-- ---- the streams that a decoder stands for

abbrev pub RestAt : Option ℕ → State → List ℕ → Type 0
RestAt None s rest = rest ≡ s.rest
RestAt (Some rule) s rest = (more : List ℕ) × (rest ≡ s.rest ++ more) × Breaks s.limits s.rest rule

-- the rest of a stream, of which a decoder that gave a fault doesn't hold all
abbrev pub IsRestOf : State → List ℕ → Type 0
IsRestOf s rest = RestAt s.fault s rest

-- the decoder stands for these bytes pushed, of which these contents were given
pub record StandsFor (s : State) (bytes : List ℕ) (contents : List (List ℕ)) : Type 0 where
  pub rest : List ℕ
  pub frames : Frames s.limits bytes contents rest
  pub held : IsRestOf s rest

-- the stream has these contents and no more, and this fault after them, or none
abbrev pub EndsWith : State → List ℕ → List (List ℕ) → Option ℕ → Type 0
EndsWith s bytes contents None = (s.fault ≡ None) × IsStream s.limits bytes contents s.rest None
EndsWith s bytes contents (Some rule) = (rest : List ℕ) × IsStream s.limits bytes contents rest (Some rule)

-- an answer of `next` in the words of a stream that the decoder stood for
abbrev pub StepOf : State → List ℕ → List (List ℕ) → Result (Option (List ℕ)) ℕ → Type 0
StepOf new bytes contents (Ok (Some content)) = StandsFor new bytes (contents ++ content ∷ [])
StepOf new bytes contents (Ok None) = StandsFor new bytes contents × EndsWith new bytes contents None
StepOf new bytes contents (Err rule) = StandsFor new bytes contents × EndsWith new bytes contents (Some rule)

-- what `next` answers, on what the decoder holds and on each stream that it stood for
pub record Next (old new : State) (answer : Result (Option (List ℕ)) ℕ) : Type 0 where
  pub step : Step old new answer
  pub stands : (bytes : List ℕ) (contents : List (List ℕ))
      → StandsFor old bytes contents → StepOf new bytes contents answer

-- ---- the end

abbrev pub finish_at : Option ℕ → List ℕ → Result (Unit {0}) FrameFault
finish_at (Some rule) rest = Err (record { rule = rule })
finish_at None [] = Ok tt
finish_at None (b ∷ rest) = Err (record { rule = rules.STREAM_ENDS_INSIDE_FRAME })

-- the fault given; else 107 where a byte is left
abbrev pub finish_of : State → Result (Unit {0}) FrameFault
finish_of s = finish_at s.fault s.rest
