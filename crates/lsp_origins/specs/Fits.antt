-- What the suspects make of a text, and in which other encodings they make the one that the editor
-- had.
use Rattle.std.specs.Prelude.{ℕ, int_lt, nat_lt, not, Bool, true, false, List, [], ◌∷◌, ◌++◌}
use Rattle.std.specs.Prelude.{filter, if◌then◌else◌, is_some, length, map, Option, Some, None}
use Rattle.std.specs.Prelude.{◌≡◌, MatchOption, option_and_then, option_map, take, unwrap_or}
use Rattle.std.specs.Str.{chars}
use Rattle.std.specs.List.{prefix_len}
use Rattle.std.specs.Result.{result_ok}
use Rattle.lsp_types.specs.declared.line_ends.LineEnds.{LineEnds}
use Rattle.lsp_trail.specs.Common.{applied, are_few, Call, changes, Edit, edits_of, Encoding}
use Rattle.lsp_trail.specs.Common.{findings, later, same_text, sent_edits, sent_view, SentEdits}
use Rattle.lsp_trail.specs.Common.{sents_view, Terms, Text, Utf16, Utf32, Utf8, Version}
use Rattle.lsp_origins.specs.declared.fits.Suspect.{Suspect}
use Rattle.lsp_origins.specs.declared.fits.Suspected.{Suspected}
use Rattle.lsp_origins.specs.declared.fits.Trial.{Trial}
use Rattle.lsp_origins.specs.declared.suspects.Until.{Until}
use Rattle.lsp_trail.specs.declared.base.SentChanges.{SentChanges}
use Rattle.lsp_origins.specs.declared.suspects.Until.TheVariants as until

-- ---- the changes that are suspected, message by message

-- it comes no later than the one by which the text came about
abbrev pub is_reached : Until → SentEdits → Bool
is_reached (until.Version number) s = not (int_lt number s.number)
is_reached _ s = true

abbrev pub reached : Until → List SentEdits → List SentEdits
reached limit sent = take (prefix_len (is_reached limit) sent) sent

-- those of the call itself
abbrev pub own_edits : Call → List SentEdits
own_edits (changes enc kind uri number cs) = sent_edits number cs ∷ []
own_edits _ = []

-- how many messages are named as suspects at most
abbrev pub most_named : ℕ
most_named = 17

-- none, if there are more
abbrev pub if_named : List SentEdits → List SentEdits
if_named sent = if nat_lt most_named (length sent) then [] else sent

-- those up to the version that differs, and those of the call, where all together are few
abbrev pub suspects_in : Until → List SentEdits → Call → List SentEdits
suspects_in limit sent call =
    if are_few (sent ++ own_edits call) then if_named (reached limit sent ++ own_edits call) else []

-- **the changes that may have made the texts differ**: of all, those after the base
abbrev pub suspected : Version → Until → List SentEdits → Call → List SentEdits
suspected base limit sent call = suspects_in limit (later base.number sent) call

-- ---- what they make of a text

-- **what changes make of it where columns count units of this encoding**; nothing where one is
-- refused, or has a position past the end
abbrev pub made : ℕ → Encoding → Text → List Edit → Option Text
made limit enc t edits =
    if is_some (findings limit enc t edits).past_end then None
    else result_ok (applied limit enc t edits)

-- the same of the changes of several messages, one after another
abbrev pub made_by : ℕ → Encoding → Text → List SentEdits → Option Text
made_by limit enc t [] = Some t
made_by limit enc t (s ∷ more) =
    option_and_then (λ u. made_by limit enc u more) (made limit enc t s.edits)

abbrev pub is_made : LineEnds → Text → Option Text → Bool
is_made ends other t = unwrap_or (option_map (λ u. same_text ends u other) t) false

-- ---- the encodings

abbrev pub other_encodings : Encoding → List Encoding
other_encodings Utf8 = Utf16 ∷ Utf32 ∷ []
other_encodings Utf16 = Utf8 ∷ Utf32 ∷ []
other_encodings Utf32 = Utf8 ∷ Utf16 ∷ []

-- the changes make the other text in this one
abbrev pub is_given : Terms → Text → List SentEdits → Text → Encoding → Bool
is_given terms t sent other enc = is_made terms.line_ends other (made_by terms.limit enc t sent)

-- **the other encodings in which they do**
abbrev pub fitting : Terms → Encoding → Text → List SentEdits → Text → List Encoding
fitting terms enc t sent other = filter (is_given terms t sent other) (other_encodings enc)

-- ---- as the code has it

abbrev pub held_reached : Until → List SentChanges → List SentChanges
held_reached limit sent =
    take (prefix_len (λ (s : SentChanges). is_reached limit (sent_view s)) sent) sent

abbrev pub both : Encoding × Encoding → List Encoding
both p = p.0 ∷ p.1 ∷ []

-- a message, seen as its changes
abbrev pub suspect_view : Suspect → SentEdits
suspect_view s = sent_edits s.version (edits_of s.changes.now)

abbrev pub suspects_view : List Suspect → List SentEdits
suspects_view suspects = map suspect_view suspects

-- messages make the other text of the one that they are tried on, in this encoding
abbrev pub is_given_by : Trial → List SentEdits → Encoding → Bool
is_given_by trial sent enc =
    is_given trial.docs.now.terms trial.text.now.content sent (chars trial.other.now) enc

abbrev pub fitting_by : Trial → List SentEdits → List Encoding
fitting_by trial sent =
    fitting trial.docs.now.terms trial.encoding trial.text.now.content sent (chars trial.other.now)

abbrev pub if_given : Trial → List SentEdits → Encoding → List Encoding
if_given trial sent enc = if is_given_by trial sent enc then enc ∷ [] else []

-- the text, where it is one
abbrev pub text_if : Bool → Text → Option Text
text_if b t = if b then Some t else None

abbrev pub own_view : Option Suspect → List SentEdits
own_view None = []
own_view (Some s) = suspect_view s ∷ []

abbrev pub suspected_view : Suspected → List SentEdits
suspected_view s = sents_view s.sent.now ++ own_view s.own

-- those that are looked at, of which there is one at least
pub record AreSuspects (sent : List SentEdits) (s : Suspected) : Type 0 where
  pub are : suspected_view s ≡ sent
  pub some : sent ≡ [] → ⊥

-- these, where they are few, and there are some, not more than are named
pub record AreNamed (few : Bool) (sent : List SentEdits) (o : Option Suspected) : Type 0 where
  pub is : MatchOption o ((if few then if_named sent else []) ≡ [])
      (AreSuspects (if few then if_named sent else []))
