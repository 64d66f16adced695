-- The answer of a run for a text, by what it wrote into memory.
use Rattle.std.specs.Prelude.{ℕ, List, chars}
use Rattle.lsp_verdict.specs.Given.{verdict_view}
use Rattle.lsp_verdict.specs.Shown.{TextAnswer, text_is, no_document, no_difference, too_few}
use Rattle.lsp_verdict.specs.Shown.{refused}
use Rattle.lsp_verdict.specs.declared.outcome.Outcome.{Outcome}
use Rattle.lsp_verdict.specs.declared.outcome.Outcome.TheVariants as outcomes

-- what a run says that ended so and wrote these bytes
abbrev pub given_as : Outcome → List ℕ → TextAnswer
given_as outcomes.Done bytes = text_is (chars bytes)
given_as outcomes.NoDocument bytes = no_document
given_as outcomes.TooFew bytes = too_few
given_as outcomes.NoDifference bytes = no_difference
given_as outcomes.Unlike bytes = no_difference
given_as (outcomes.Judged v) bytes = refused (verdict_view v)
given_as (outcomes.Stream frame fault) bytes = text_is (chars bytes)
