-- What is written of a log: records.
use Rattle.std.specs.Prelude.{ℕ, ◌/◌, List, [], ◌∷◌, ◌++◌, map, max, chars, encode_utf8_all}
use Rattle.std.specs.List.{flat_map}
use Rattle.lsp_extract.specs.Normal.{cut}
use Rattle.lsp_replay.specs.Common.{Bounds, canonical, chunk, first_line, shown, Side, spelling}
use Rattle.lsp_log.specs.Log.{Record}
use Rattle.lsp_redact.specs.Broken.{refused_text}
use Rattle.lsp_redact.specs.Characters.{written_text}
use Rattle.lsp_redact.specs.Messages.{content_of}
use Rattle.lsp_redact.specs.Names.{written_uri}
use Rattle.lsp_redact.specs.Shape.{Event, Shape, message, refused, snapshot}

-- the most characters of a record: they have no more bytes than a record may have
abbrev pub most_of : Bounds → ℕ
most_of limits = max (limits.chunk / 4) 1

-- a text in pieces of so many characters, the last of which may be shorter
abbrev pub pieces : ℕ → List ℕ → List (List ℕ)
pieces most text = map encode_utf8_all (cut most (chars text))

-- the canonical frame of a content, as records of a side
abbrev pub content_records : ℕ → Side → List ℕ → List Record
content_records most side bytes = map (chunk side) (pieces most (canonical bytes))

-- the records of what is left of an event
abbrev pub records_of : ℕ → Event → List Record
records_of most (message side head params) = content_records most side (content_of head params)
records_of most (refused side content) = content_records most side (refused_text content)
records_of most (snapshot uri number text) = shown number (written_uri uri) (written_text text) ∷ []

-- **what is written of what is left of a log**, in records of so many characters
abbrev pub written : ℕ → Shape → List ℕ
written most shape = first_line shape.format
    ++ flat_map spelling (flat_map (records_of most) shape.events)
