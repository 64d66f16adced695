-- Each stream has one output.
use Rattle.std.specs.Prelude.{nat_lt}
use Rattle.std.proofs.Common.{ℕ, ◌+◌, List, [], ◌∷◌, ◌++◌, length, take, Option, refl, sym, ◌∙◌}
use Rattle.std.proofs.Common.{inl, inr, ◌⊎◌}
use Rattle.lsp_replay.specs.Common.{Canonical, canonical, Kinds, Lengths, Mode, Rule, Stream}
use Rattle.lsp_replay.specs.Common.{StreamFault, words_of}
use Rattle.lsp_frame.proofs.Readings.{some_stream}
use Rattle.lsp_rpc.proofs.Readings.{message_or_rule}
use Rattle.lsp_extract.specs.Stream.{length_line, kind_line, IsPart, Refuses, outcome_at, RunsThrough}
use Rattle.lsp_extract.specs.Stream.{fault_of, HasParts, closing, SomeRun, OneRun}
use Rattle.lsp_verdict.specs.declared.outcome.Outcome.{Outcome}
use Rattle.lsp_extract.proofs.Framing.Due.{same_parts, due_is}

-- a content has a part, or the mode refuses it
abbrev pub PartOrRule : Mode → ℕ → List ℕ → Type 0
PartOrRule mode frame content =
    ((part : List ℕ) × IsPart mode frame content part) ⊎ ((rule : ℕ) × Refuses mode content rule)

some_part : (mode : Mode) (frame : ℕ) (content : List ℕ) → PartOrRule mode frame content
some_part Lengths frame content = inl (length_line frame content, refl)
some_part Canonical frame content = inl (canonical content, refl)
some_part Kinds frame content =
    elim (message_or_rule content) as (λ _. PartOrRule Kinds frame content) [
      | inl reads ↦ inl (kind_line frame content (words_of reads.0), (reads.0, reads.1, refl))
      | inr breaks ↦ inr breaks
    ]

abbrev pub SomeParts : Mode → ℕ → List (List ℕ) → Option StreamFault → Type 0
SomeParts mode frame contents fault =
    (parts : List ℕ) × (outcome : Outcome) × RunsThrough mode frame contents fault parts outcome

run_on : (mode : Mode) (frame : ℕ) (content : List ℕ) (contents : List (List ℕ))
    (fault : Option StreamFault) → PartOrRule mode frame content
    → SomeParts mode (frame + 1) contents fault → SomeParts mode frame (content ∷ contents) fault
run_on mode frame content contents fault (inl part) others =
    (part.0 ++ others.0, others.1, inl (part.0, others.0, part.1, others.2, refl))
run_on mode frame content contents fault (inr refused) others =
    ([], Stream frame (Rule refused.0), inr (refused.0, refused.1, refl, refl))

some_parts : (mode : Mode) (frame : ℕ) (contents : List (List ℕ)) (fault : Option StreamFault)
    → SomeParts mode frame contents fault
some_parts mode frame [] fault = ([], outcome_at frame fault, (refl, refl))
some_parts mode frame (content ∷ contents) fault =
    run_on mode frame content contents fault (some_part mode frame content)
    (some_parts mode (frame + 1) contents fault)

pub some_run_lem : SomeRun
some_run_lem limits mode stream =
    let all = some_stream limits (take limits.log stream) in
    let parts = some_parts mode 1 all.0 (fault_of all.2 (nat_lt limits.log (length stream))
    all.1) in
    let has : HasParts limits mode stream parts.0 parts.1 =
    record {
      contents = all.0;
      rest = all.1;
      fault = all.2;
      is_stream = all.3;
      runs_through = parts.2;
    } in
    (parts.0 ++ closing mode parts.1, parts.1, (parts.0, has, refl))

pub one_run_lem : OneRun
one_run_lem limits mode stream out other a b x y = (
  x.2 ∙ sym (due_is limits mode stream x.0 other a b x.1 y),
  (same_parts limits mode stream x.0 y.0 a b x.1 y.1).outcome,
)
