-- Frames and streams under limits that are the same.
use Rattle.std.proofs.Common.{◌≡◌, ℕ, List, Option, subst}
use Rattle.lsp_replay.specs.Common.{Bounds, Frames, IsStream}

pub frames_at : (l m : Bounds) (bytes : List ℕ) (contents : List (List ℕ)) (rest : List ℕ) → l ≡ m
    → Frames l bytes contents rest → Frames m bytes contents rest
frames_at l m bytes contents rest e frames =
    subst (λ (b : Bounds). Frames b bytes contents rest) e frames

pub stream_at : (l m : Bounds) (bytes : List ℕ) (contents : List (List ℕ)) (rest : List ℕ)
    (fault : Option ℕ) → l ≡ m → IsStream l bytes contents rest fault
    → IsStream m bytes contents rest fault
stream_at l m bytes contents rest fault e stream =
    subst (λ (b : Bounds). IsStream b bytes contents rest fault) e stream
