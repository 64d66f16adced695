-- Which document a message names in its params, and whether it is open.
use Rattle.std.specs.Prelude.{ℕ, List, Bool, true, false, Option, Some, None, if◌then◌else◌}
use Rattle.std.specs.Prelude.{codes, is_some, option_and_then, option_map}
use Rattle.std.specs.Str.{bytes_eq}
use Rattle.serde_json.specs.Data.{Data}
use Rattle.lsp_replay.specs.Common.{Call, Event, held, Message, notification, request, response}
use Rattle.lsp_replay.specs.Common.{Sent, sent_of, Side, Terms}
use Rattle.lsp_outline.specs.Named.{document_in}
use Rattle.lsp_outline.specs.Versions.{Versioned, versioned, versioned_at}
use Rattle.lsp_types.specs.declared.side.Side.TheVariants.{Editor, Server}

-- ---- whether a message may name one

abbrev pub is_call : Message → Bool
is_call (response id reply) = false
is_call _ = true

abbrev pub is_diagnostics : List ℕ → Bool
is_diagnostics method = bytes_eq method (codes "textDocument/publishDiagnostics")

abbrev pub diagnoses : Message → Bool
diagnoses (notification method params) = is_diagnostics method
diagnoses _ = false

-- ---- which one

-- the params of a message; a response has none
abbrev pub params_of : Message → Option Data
params_of (request id method params) = params
params_of (notification method params) = params
params_of (response id reply) = None

-- **the document that a message of this side names**: any of the editor's may name one, and of the
-- server's the diagnostics, with the version of it
abbrev pub version_named : Side → Message → Option Versioned
version_named Editor m =
    option_map (versioned None) (option_and_then (document_in Editor) (params_of m))
version_named Server m =
    if diagnoses m then option_and_then versioned_at (params_of m) else None

abbrev pub named_by : Side → Message → Option (List ℕ)
named_by side m = option_map (λ (v : Versioned). v.uri) (version_named side m)

-- **the one that the message of an event names**
abbrev pub version_named_at : Event → Option Versioned
version_named_at event =
    option_and_then (λ (m : Sent). version_named m.side m.message) (sent_of event)

-- ---- whether it is open

-- the URI, if no document of it is open after these calls
abbrev pub if_unopened : Terms → List Call → List ℕ → Option (List ℕ)
if_unopened terms before uri = if is_some (held terms uri before) then None else Some uri
