-- What a step past a frame leaves of the rest, and that its content is within the limits.
use Rattle.std.proofs.Common.{◌≡◌, ℕ, ◌+◌, ◌≤◌, ◌<◌, List, length, Some, Ok, ap, arith}
use Rattle.std.proofs.lemmas.List.{length-append}
use Rattle.lsp_frame.specs.Bounds.{Bounds}
use Rattle.lsp_frame.specs.Frame.{IsFrame}
use Rattle.lsp_frame.specs.Header.{blank_line}
use Rattle.lsp_frame.specs.Decoder.{State, GivesFrame, Next}
use Rattle.lsp_frame.proofs.Readings.{says_within}

frame_long : (limits : Bounds) (frame content : List ℕ) → IsFrame limits frame content
    → 0 < length frame
frame_long limits frame content is =
    omega (
      arith,
      ap length is.whole,
      length-append is.header content,
      ap length is.part.ends.1,
      length-append is.part.ends.0 blank_line,
    )

-- what a step past a frame does to the rest
pub record FrameStep (d e : State) (content : List ℕ) : Type 0 where
  pub limits : e.limits ≡ d.limits
  pub shorter : length e.rest + 1 ≤ length d.rest
  pub within : length content ≤ d.limits.content

pub frame_step : (d e : State) (content : List ℕ) → Next d e (Ok (Some content))
    → FrameStep d e content
frame_step d e content next =
    let gives : GivesFrame d e content = next.step in
    let long = frame_long d.limits gives.frame content gives.is_frame in
    record {
      limits = ap (λ (s : State). s.limits) gives.same;
      shorter = omega (arith, long, ap length gives.rest, length-append gives.frame e.rest);
      within = says_within d.limits gives.is_frame.header (length content) gives.is_frame.says;
    }
