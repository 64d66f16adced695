-- Which snapshots that wait refute the text of a version.
use Rattle.std.specs.Prelude.{ℤ, List, [], ◌∷◌, Bool, false, not, if◌then◌else◌, Option, Some, None}
use Rattle.std.specs.Prelude.{option_and_then, option_map, unwrap_or}
use Rattle.std.specs.List.{find}
use Rattle.std.specs.Result.{result_ok}
use Rattle.lsp_replay.specs.Common.{applied, Bytes, Call, changes, Edit, Encoding, held, LineEnds}
use Rattle.lsp_replay.specs.Common.{opens, same_text, Terms, uri_of, Version, versioned}
use Rattle.lsp_replay.specs.Common.{versions_of, waiting}
use Rattle.lsp_docs.specs.Calls.{Text}
use Rattle.lsp_docs.specs.Snapshots.{texts_at}
use Rattle.lsp_replay.specs.declared.heard.EventPlace.{EventPlace}

-- ---- texts

-- it is another text
abbrev pub is_other : LineEnds → Text → Text → Bool
is_other ends t u = not (same_text ends t u)

-- there is one, and it is another text
abbrev pub is_other_at : LineEnds → Text → Option Text → Bool
is_other_at ends t u = unwrap_or (option_map (is_other ends t) u) false

-- the first of these texts that is another one
abbrev pub first_other : LineEnds → Text → List Text → Option Text
first_other ends t us = find (is_other ends t) us

-- those of the snapshots with another text, where they are given by their places, and these are
-- their texts in turn
abbrev pub others_of : LineEnds → Text → List EventPlace → List Text → List EventPlace
others_of ends t (p ∷ ps) (u ∷ us) =
    if is_other ends t u then p ∷ others_of ends t ps us else others_of ends t ps us
others_of ends t _ _ = []

-- ---- calls

-- the text that changes make of what is held, where each of them can be made
abbrev pub made_text : Terms → Encoding → List Edit → Option Version → Option Text
made_text terms enc edits h =
    option_and_then (λ (v : Version). result_ok (applied terms.limit enc v.text edits)) h

-- the texts of the snapshots that wait for a version of the URI after these calls
abbrev pub waiting_texts : Terms → List Call → Bytes → ℤ → List Text
waiting_texts terms before uri number = texts_at number (versions_of uri (waiting terms before))

-- the version that a call brings its document to, where each of its changes can be made
abbrev pub brings : Terms → List Call → Call → Option Version
brings terms before (opens uri number text) = Some (versioned number text)
brings terms before (changes enc kind uri number edits) =
    option_map (versioned number) (made_text terms enc edits (held terms uri before))
brings terms before _ = None

-- **those of the snapshots that wait for that version, given by their places, that have another
-- text**
abbrev pub refuting : Terms → List Call → Call → List EventPlace → List EventPlace
refuting terms before call ps = unwrap_or (option_map
    (λ (v : Version). others_of terms.line_ends v.text ps
    (waiting_texts terms before (uri_of call) v.number)) (brings terms before call)) []
