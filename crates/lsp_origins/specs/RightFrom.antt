-- From which snapshot on the suspects make the text that the editor had.
use Rattle.std.specs.Prelude.{Bool, List, [], ◌∷◌, codes, if◌then◌else◌, Option, Some, None}
use Rattle.std.specs.Str.{chars}
use Rattle.lsp_trail.specs.Common.{Encoding, later, SentEdits, ShownText, Terms, Text}
use Rattle.lsp_facts.specs.Fact.{Fact, version_by}
use Rattle.lsp_origins.specs.Fits.{is_given}
use Rattle.lsp_origins.specs.Rearranged.{some_give}
use Rattle.lsp_origins.specs.declared.fits.Trial.{Trial}

-- **the messages after its version make the other text of the one that it has**, if there are some
abbrev pub is_right_from : Terms → Encoding → List SentEdits → Text → ShownText → Bool
is_right_from terms enc sent other s =
    some_give (λ (messages : List SentEdits). is_given terms s.version.text messages other enc)
    (later s.version.number sent)

abbrev pub right_from_facts : Terms → Encoding → Option ShownText → List SentEdits → Text
    → List Fact
right_from_facts terms enc None sent other = []
right_from_facts terms enc (Some s) sent other =
    if is_right_from terms enc sent other s
    then version_by (codes "right-from") s.version.number s.place ∷ [] else []

-- ---- as the code has it

abbrev pub some_by : Trial → Text → List SentEdits → Bool
some_by trial t sent =
    some_give (λ (messages : List SentEdits). is_given trial.docs.now.terms t messages
    (chars trial.other.now) trial.encoding) sent

abbrev pub is_right_by : Trial → List SentEdits → ShownText → Bool
is_right_by trial sent s =
    is_right_from trial.docs.now.terms trial.encoding sent (chars trial.other.now) s

abbrev pub facts_by : Trial → Option ShownText → List SentEdits → List Fact
facts_by trial shown sent =
    right_from_facts trial.docs.now.terms trial.encoding shown sent (chars trial.other.now)
