-- What is said of the suspects that would make the texts equal.
use Rattle.std.specs.Prelude.{ℕ, List, [], ◌∷◌, ◌++◌, Option, Some}
use Rattle.std.specs.Str.{chars}
use Rattle.lsp_trail.specs.Common.{agreed_encoding, Call, calls, Encoding, Event, if_later, kept_of}
use Rattle.lsp_trail.specs.Common.{recent, SentEdits, ShownText, steps, Terms, Text, uri_of}
use Rattle.lsp_trail.specs.Common.{Version}
use Rattle.lsp_facts.specs.DocumentFacts.{fits_fact}
use Rattle.lsp_facts.specs.Fact.{Fact}
use Rattle.lsp_facts.specs.TwoTexts.{TwoTexts, texts_of}
use Rattle.lsp_trail.specs.Bases.{base_at, sent_since}
use Rattle.lsp_origins.specs.Fits.{fitting, is_given, suspected}
use Rattle.lsp_trail.specs.Marking.{at_version}
use Rattle.lsp_origins.specs.OtherLines.{lines_facts}
use Rattle.lsp_origins.specs.Rearranged.{rearranged_facts}
use Rattle.lsp_origins.specs.RightFrom.{right_from_facts}
use Rattle.lsp_trail.specs.Uncompared.{uncompared}
use Rattle.lsp_origins.specs.declared.fits.Trial.{Trial}
use Rattle.lsp_origins.specs.declared.rearranged.Way.TheVariants.{AtOnce, Exchanged, Without}
use Rattle.lsp_origins.specs.declared.suspects.Until.{Until}
use Rattle.lsp_origins.specs.declared.suspects.Until.TheVariants as until
use Rattle.lsp_trail.specs.declared.mark.VersionEvent.{VersionEvent}

-- ---- the messages that may be named

-- the call itself, where the text came about by it
abbrev pub own_setter : Until → List VersionEvent
own_setter (until.Message p number) = at_version 0 p number ∷ []
own_setter limit = []

-- the last ones that set a version, and the call itself
abbrev pub setters_until : Until → List VersionEvent → List VersionEvent
setters_until limit done = done ++ own_setter limit

-- ---- what they give

-- with which other line ends the messages make the other text of this one, which of them would have
-- to be taken otherwise, and after which snapshot they make it
abbrev pub taken_otherwise : Terms → Encoding → Text → List VersionEvent → Option ShownText
    → List SentEdits → Text → List Fact
taken_otherwise terms enc t setters shown sent other =
    let gives = λ (messages : List SentEdits). is_given terms t messages other enc in
    lines_facts terms enc t sent other
    ++ rearranged_facts gives setters sent AtOnce
    ++ rearranged_facts gives setters sent Exchanged
    ++ rearranged_facts gives setters sent Without
    ++ right_from_facts terms enc shown sent other

-- **in which other encodings the messages make it, and how they would have to be taken otherwise**
abbrev pub told : Terms → Encoding → Text → List VersionEvent → Option ShownText → List SentEdits
    → Text → List Fact
told terms enc t setters shown sent other =
    fits_fact (fitting terms enc t sent other)
    ++ taken_otherwise terms enc t setters shown sent other

abbrev pub told_by : Trial → List VersionEvent → Option ShownText → List SentEdits → List Fact
told_by trial setters shown sent =
    told trial.docs.now.terms trial.encoding trial.text.now.content setters shown sent
    (chars trial.other.now)

-- ---- of a call

-- nothing without a suspect
abbrev pub fitting_any : Terms → Encoding → Text → List SentEdits → Text → List Encoding
fitting_any terms enc t [] other = []
fitting_any terms enc t (s ∷ more) other = fitting terms enc t (s ∷ more) other

abbrev pub taken_any : Terms → Encoding → Text → List VersionEvent → Option ShownText
    → List SentEdits → Text → List Fact
taken_any terms enc t setters shown [] other = []
taken_any terms enc t setters shown (s ∷ more) other =
    taken_otherwise terms enc t setters shown (s ∷ more) other

-- where there is a base, and two texts differ
abbrev pub fitting_of : Terms → Encoding → Until → List SentEdits → Call → Option Version
    → Option TwoTexts → List Encoding
fitting_of terms enc limit sent call (Some base) (Some texts) =
    fitting_any terms enc base.text (suspected base limit sent call) texts.in_editor
fitting_of terms enc limit sent call _ _ = []

abbrev pub taken_of : Terms → Encoding → Until → List VersionEvent → Option ShownText
    → List SentEdits → Call → Option Version → Option TwoTexts → List Fact
taken_of terms enc limit setters shown sent call (Some base) (Some texts) =
    taken_any terms enc base.text setters (if_later base.number shown)
    (suspected base limit sent call) texts.in_editor
taken_of terms enc limit setters shown sent call _ _ = []

abbrev pub told_of : Terms → Encoding → Until → List VersionEvent → Option ShownText
    → List SentEdits → Call → Option Version → Option TwoTexts → List Fact
told_of terms enc limit setters shown sent call base texts =
    fits_fact (fitting_of terms enc limit sent call base texts)
    ++ taken_of terms enc limit setters shown sent call base texts

-- **what is said of the suspects** where a call breaks this rule after these events: the other
-- encodings in which they make the text that the editor had, and those that would have to be taken
-- otherwise
abbrev pub told_facts : Terms → List Event → ℕ → Until → Call → List Fact
told_facts terms before rule limit call =
    let kept = kept_of terms before in
    told_of terms (agreed_encoding kept) limit
    (setters_until limit (recent (steps terms (uri_of call) before)))
    (uncompared terms before (uri_of call))
    (sent_since (uri_of call) (calls kept)) call
    (base_at terms before (uri_of call)) (texts_of terms (calls kept) call rule)
