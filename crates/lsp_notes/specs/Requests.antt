-- The last requests of the editor that are held, with the documents that they name.
use Rattle.std.specs.Prelude.{◌==◌, ℕ, List, Bool, Option, map, option_map, string_bytes}
use Rattle.lsp_replay.specs.declared.heard.EventPlace.{EventPlace}
use Rattle.lsp_trail.specs.History.{HoldsLast, last_that}
use Rattle.lsp_notes.specs.declared.requests.Request as code

-- a request of the editor: the document that it names, if it names one, and the place of its event
pub record Request : Type 0 where
  pub document : Option (List ℕ)
  pub place : EventPlace

abbrev pub request_at : EventPlace → Option (List ℕ) → Request
request_at p document = record { document = document; place = p }

abbrev pub is_by : EventPlace → Request → Bool
is_by p r = r.place.event == p.event

-- the one of these that is the event of this place
abbrev pub request_at_place : EventPlace → List Request → Option Request
request_at_place p rs = last_that (is_by p) rs

-- ---- as they are held

abbrev pub request_view : code.Request → Request
request_view r = request_at r.place (option_map (λ s. string_bytes s) r.document)

abbrev pub requests_view : List code.Request → List Request
requests_view held = map request_view held

-- these more are held, of which so many stay, the last ones
abbrev pub Holds : ℕ → List Request → List code.Request → List code.Request → Type 0
Holds most more old new = HoldsLast request_view most more old new
