-- Writing the parts of the frames that a decoder holds, one after another.
use Rattle.std.proofs.Common.{◌≡◌, ℕ, ◌+◌, List, [], ◌∷◌, ◌++◌, length, Some, None, Ok, Err}
use Rattle.std.proofs.Common.{sym, ap, subst, ◌∙◌, append_assoc, arith, inl, inr}
use Rattle.std.proofs.lemmas.List.{length_push, append-nil}
use Rattle.lsp_frame.specs.Sink.{Wrote}
use Rattle.lsp_replay.specs.Common.{Memory, Mode, Read, RunFault, StandsFor, State, Stopped, Told}
use Rattle.lsp_replay.specs.Common.{Took, Write}
use Rattle.lsp_frame.specs.Decoder.{Next}
use Rattle.lsp_frame.proofs.Writing.{wrote_then, stopped_then}
use Rattle.lsp_extract.specs.Stream.{IsPart, Refuses, AreParts, WritesPart, FoundAll, FoundFault}
use Rattle.lsp_extract.specs.Stream.{FoundBroken, Finds}
use Rattle.lsp_extract.proofs.Framing.Parts.{parts_push}
use Rattle.lsp_extract.proofs.SameLimits.{frames_at}

-- the parts up to now were written
pub record FoundSoFar (d : State) (mode : Mode) (old new : Told) (given : ℕ)
    (bytes before : List ℕ) : Type 0 where
  pub contents : List (List ℕ)
  pub parts : List ℕ
  pub stands : StandsFor d bytes contents
  pub are_parts : AreParts mode 1 contents (before ++ parts)
  pub wrote : Wrote old new parts
  pub count : given ≡ length contents

part_here : (mode : Mode) (given n : ℕ) (content part : List ℕ) → given ≡ n
    → IsPart mode (given + 1) content part → IsPart mode (1 + n) content part
part_here mode given n content part same is =
    let at : given + 1 ≡ 1 + n = omega arith in
    subst (λ (k : ℕ). IsPart mode k content part) at is

more_parts : (mode : Mode) (given : ℕ) (before content part : List ℕ) (contents : List (List ℕ))
    (parts : List ℕ) → AreParts mode 1 contents (before ++ parts) → given ≡ length contents
    → IsPart mode (given + 1) content part
    → AreParts mode 1 (contents ++ content ∷ []) (before ++ (parts ++ part))
more_parts mode given before content part contents parts are count is =
    subst (λ (w : List ℕ). AreParts mode 1 (contents ++ content ∷ []) w)
    (append_assoc before parts part)
    (parts_push mode 1 contents content (before ++ parts) part are
    (part_here mode given (length contents) content part count is))

pub one_more : (d e : State) (mode : Mode) (old mid new : Told) (given : ℕ)
    (bytes before content part : List ℕ) → FoundSoFar d mode old mid given bytes before
    → Next d e (Ok (Some content)) → IsPart mode (given + 1) content part → Wrote mid new part
    → FoundSoFar e mode old new (given + 1) bytes before
one_more d e mode old mid new given bytes before content part so_far next is wrote = record {
  contents = so_far.contents ++ content ∷ [];
  parts = so_far.parts ++ part;
  stands = next.stands bytes so_far.contents so_far.stands;
  are_parts = more_parts mode given before content part so_far.contents so_far.parts
      so_far.are_parts so_far.count is;
  wrote = wrote_then old mid new so_far.parts part so_far.wrote wrote;
  count = ap (λ (n : ℕ). n + 1) so_far.count ∙ sym (length_push so_far.contents content);
}

-- a write failed in a part
pub one_stopped : (d e : State) (mode : Mode) (old mid new : Told) (given : ℕ)
    (bytes before content part : List ℕ) → FoundSoFar d mode old mid given bytes before
    → Next d e (Ok (Some content)) → IsPart mode (given + 1) content part → Stopped mid new part
    → FoundBroken e mode old new bytes before Write
one_stopped d e mode old mid new given bytes before content part so_far next is stopped =
    let all = stopped_then old mid new so_far.parts part so_far.wrote stopped in
    let stands : StandsFor e bytes (so_far.contents ++ content ∷ []) =
    next.stands bytes so_far.contents so_far.stands in
    record {
      contents = so_far.contents ++ content ∷ [];
      rest = stands.rest;
      written = all.front;
      left = all.back;
      frames = stands.frames;
      are_parts = subst (λ (w : List ℕ). AreParts mode 1 (so_far.contents ++ content ∷ [])
          (before ++ w)) all.whole
          (more_parts mode given before content part so_far.contents so_far.parts so_far.are_parts
          so_far.count is);
      wrote = all.took;
      sink = all.failures;
    }

-- memory was refused before a part
pub one_refused_memory : (d e : State) (mode : Mode) (old mid new : Told) (given : ℕ)
    (bytes before content : List ℕ) → FoundSoFar d mode old mid given bytes before
    → e.limits ≡ d.limits → new ≡ mid → FoundBroken e mode old new bytes before Memory
one_refused_memory d e mode old mid new given bytes before content so_far same same_sink = record {
  contents = so_far.contents;
  rest = so_far.stands.rest;
  written = so_far.parts;
  left = [];
  frames = frames_at d.limits e.limits bytes so_far.contents so_far.stands.rest (sym same)
      so_far.stands.frames;
  are_parts = subst (λ (w : List ℕ). AreParts mode 1 so_far.contents (before ++ w))
      (sym (append-nil so_far.parts)) so_far.are_parts;
  wrote = subst (λ (t : Told). Took old t so_far.parts) (sym same_sink) so_far.wrote.took;
  sink = ap (λ (t : Told). t.failures) same_sink ∙ so_far.wrote.failures;
}

-- the part of a frame was not written
pub one_broken : (d e : State) (mode : Mode) (old mid new : Told) (given : ℕ)
    (bytes before content : List ℕ) (fault : RunFault)
    → FoundSoFar d mode old mid given bytes before → Next d e (Ok (Some content))
    → e.limits ≡ d.limits → WritesPart mode (given + 1) content mid new (Err fault)
    → Finds e mode old new given bytes before (Err fault)
one_broken d e mode old mid new given bytes before content Write so_far next same writes =
    one_stopped d e mode old mid new given bytes before content writes.0 so_far next writes.1
    writes.2
one_broken d e mode old mid new given bytes before content Memory so_far next same writes =
    one_refused_memory d e mode old mid new given bytes before content so_far same writes
one_broken d e mode old mid new given bytes before content Read so_far next same writes =
    absurd writes

-- a content is refused
pub one_refused : (d e : State) (mode : Mode) (old mid new : Told) (given : ℕ)
    (bytes before content : List ℕ) (rule : ℕ) → FoundSoFar d mode old mid given bytes before
    → Next d e (Ok (Some content)) → Refuses mode content rule → new ≡ mid
    → FoundFault e mode old new given bytes before rule
one_refused d e mode old mid new given bytes before content rule so_far next refused same_sink =
    let stands : StandsFor e bytes (so_far.contents ++ content ∷ []) =
    next.stands bytes so_far.contents so_far.stands in
    record {
      contents = so_far.contents;
      parts = so_far.parts;
      are_parts = so_far.are_parts;
      wrote = subst (λ (t : Told). Wrote old t so_far.parts) (sym same_sink) so_far.wrote;
      count = so_far.count;
      stops = inr (content, stands.rest, stands.frames, refused);
    }

pub at_end : (d e : State) (mode : Mode) (old new : Told) (given : ℕ) (bytes before : List ℕ)
    → FoundSoFar d mode old new given bytes before → Next d e (Ok None)
    → FoundAll e mode old new given bytes before
at_end d e mode old new given bytes before so_far next =
    let s = next.stands bytes so_far.contents so_far.stands in
    record {
      contents = so_far.contents;
      parts = so_far.parts;
      stands = s.0;
      are_parts = so_far.are_parts;
      wrote = so_far.wrote;
      count = so_far.count;
      ends = s.1;
    }

pub at_fault : (d e : State) (mode : Mode) (old new : Told) (given rule : ℕ) (bytes before : List ℕ)
    → FoundSoFar d mode old new given bytes before → Next d e (Err rule)
    → FoundFault e mode old new given bytes before rule
at_fault d e mode old new given rule bytes before so_far next =
    let s = next.stands bytes so_far.contents so_far.stands in
    record {
      contents = so_far.contents;
      parts = so_far.parts;
      are_parts = so_far.are_parts;
      wrote = so_far.wrote;
      count = so_far.count;
      stops = inl s.1;
    }
