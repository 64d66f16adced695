-- What is due for a stream is one list of bytes, and begins with the parts of any frames found in
-- front.
use Rattle.std.specs.Prelude.{nat_lt}
use Rattle.std.proofs.Common.{◌≡◌, ℕ, ◌-◌, ◌≤◌, List, ◌++◌, length, take, Option, ap, subst, ◌∙◌}
use Rattle.std.proofs.Common.{append_assoc}
use Rattle.lsp_replay.specs.Common.{Bounds, Frames, IsStream, Mode, StreamFault}
use Rattle.lsp_frame.proofs.Frames.{one_stream, frames_first, frames_more, take_beyond}
use Rattle.lsp_extract.specs.Stream.{RunsThrough, AreParts, fault_of, HasParts, closing, IsRun}
use Rattle.lsp_verdict.specs.declared.outcome.Outcome.{Outcome}
use Rattle.lsp_extract.proofs.Framing.Parts.{SameRun, one_run, run_begins}

-- ---- one output

-- a stream has one list of parts and one outcome
pub same_parts : (limits : Bounds) (mode : Mode) (stream p q : List ℕ) (a b : Outcome)
    → HasParts limits mode stream p a → HasParts limits mode stream q b → SameRun p q a b
same_parts limits mode stream p q a b x y =
    let same = one_stream limits (take limits.log stream) x.contents y.contents x.rest y.rest
    x.fault y.fault x.is_stream y.is_stream in
    let longer = nat_lt limits.log (length stream) in
    let fault : fault_of x.fault longer x.rest ≡ fault_of y.fault longer y.rest =
    ap (λ (f : Option ℕ). fault_of f longer x.rest) same.fault
    ∙ ap (λ (r : List ℕ). fault_of y.fault longer r) same.rest in
    one_run mode 1 y.contents (fault_of y.fault longer y.rest) p q a b
    (subst (λ (f : Option StreamFault). RunsThrough mode 1 y.contents f p a) fault
    (subst (λ (cs : List (List ℕ)). RunsThrough mode 1 cs (fault_of x.fault longer x.rest) p a)
    same.contents x.runs_through))
    y.runs_through

-- all that is due begins with the parts, and goes on with what comes after them
pub due_is : (limits : Bounds) (mode : Mode) (stream parts out : List ℕ) (a b : Outcome)
    → HasParts limits mode stream parts a → IsRun limits mode stream out b
    → out ≡ parts ++ closing mode a
due_is limits mode stream parts out a b x run =
    let same = same_parts limits mode stream run.0 parts b a run.1 x in
    run.2 ∙ ap (λ (w : List ℕ). w ++ closing mode b) same.parts
    ∙ ap (λ (o : Outcome). parts ++ closing mode o) same.outcome

-- ---- frames in front

-- the first bytes of a stream, as many as the limit
pub stream_front : (limits : Bounds) (bytes more : List ℕ) → length bytes ≤ limits.log
    → take limits.log (bytes ++ more) ≡ bytes ++ take (limits.log - length bytes) more
stream_front limits bytes more within = take_beyond limits.log bytes more within

goes_on : (out all parts left end : List ℕ) → out ≡ all ++ end → all ≡ parts ++ left
    → out ≡ parts ++ (left ++ end)
goes_on out all parts left end p q =
    p ∙ ap (λ (w : List ℕ). w ++ end) q ∙ append_assoc parts left end

-- what is due for a stream begins with the parts of the frames found in its front
pub due_begins : (limits : Bounds) (mode : Mode) (bytes : List ℕ) (contents : List (List ℕ))
    (rest parts more out : List ℕ) (outcome : Outcome) → Frames limits bytes contents rest
    → length bytes ≤ limits.log
    → AreParts mode 1 contents parts → IsRun limits mode (bytes ++ more) out outcome
    → (left : List ℕ) × (out ≡ parts ++ left)
due_begins limits mode bytes contents rest parts more out outcome frames within are run =
    let all = run.1 in
    let near = take (limits.log - length bytes) more in
    let stream : IsStream limits (bytes ++ near) all.contents all.rest all.fault =
    subst (λ (w : List ℕ). IsStream limits w all.contents all.rest all.fault)
    (stream_front limits bytes more within) all.is_stream in
    let b = frames_first limits (bytes ++ near) contents (rest ++ near) all.contents all.rest
    all.fault (frames_more limits bytes contents rest near frames) stream in
    let fault = fault_of all.fault (nat_lt limits.log (length (bytes ++ more))) all.rest in
    let first = run_begins mode 1 contents b.0 fault parts run.0 outcome are
    (subst (λ (cs : List (List ℕ)). RunsThrough mode 1 cs fault run.0 outcome) b.1
    all.runs_through) in (
      first.0 ++ closing mode outcome,
      goes_on out run.0 parts first.0 (closing mode outcome) run.2 first.1,
    )
