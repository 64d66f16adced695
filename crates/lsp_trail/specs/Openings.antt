-- Which documents were opened and closed last, and which were changed and shown first.
use Rattle.std.specs.Prelude.{◌≡◌, ◌||◌, ℕ, List, [], ◌∷◌, ◌++◌, map, filter, length, nat_lt}
use Rattle.std.specs.Prelude.{Bool, true, false, not, if◌then◌else◌, Option, Some, None, option_map}
use Rattle.std.specs.Prelude.{string_bytes, String}
use Rattle.std.specs.Global.{Global}
use Rattle.std.specs.List.{fold, list_any}
use Rattle.std.specs.Str.{bytes_eq}
use Rattle.lsp_replay.specs.Common.{Event, Terms}
use Rattle.lsp_trail.specs.History.{KeptCall, OnDocument, doing, is_change, is_closing}
use Rattle.lsp_trail.specs.History.{is_opening, is_showing, kept_calls, last_ones, last_that}
use Rattle.lsp_trail.specs.declared.openings.Closing.{Closing}
use Rattle.lsp_trail.specs.declared.openings.Closing.TheVariants as closing
use Rattle.lsp_trail.specs.declared.openings.DocumentEvent.{DocumentEvent}
use Rattle.lsp_trail.specs.declared.openings.Openings.{Openings}
use Rattle.lsp_replay.specs.declared.heard.EventPlace.{EventPlace}

-- ---- opened and closed

-- **the messages that are kept and open documents**, in order
abbrev pub openings : Terms → List Event → List OnDocument
openings terms events = doing is_opening (kept_calls terms events)

-- **those that close documents**
abbrev pub closings : Terms → List Event → List OnDocument
closings terms events = doing is_closing (kept_calls terms events)

-- how many of the last ones are looked at
abbrev pub most_openings : ℕ
most_openings = 64

abbrev pub most_closings : ℕ
most_closings = 1024

abbrev pub is_on : List ℕ → OnDocument → Bool
is_on uri on = bytes_eq on.uri uri

-- the place of the last of these on the document of this URI
abbrev pub last_on : List ℕ → List OnDocument → Option EventPlace
last_on uri ons = option_map (λ (on : OnDocument). on.place) (last_that (is_on uri) ons)

-- the event is known, or, where all closings are looked at, that there is none
abbrev pub closing_by : Bool → Option EventPlace → Closing
closing_by all (Some p) = closing.Last p
closing_by true None = closing.Never
closing_by false None = closing.Forgotten

-- **how the document of this URI was closed**, by the last of these closings
abbrev pub closing_of : List ℕ → List OnDocument → Closing
closing_of uri ons =
    closing_by (nat_lt (length ons) most_closings) (last_on uri (last_ones most_closings ons))

-- ---- changed and shown

-- how many documents are looked at
abbrev pub most_touched : ℕ
most_touched = 64

abbrev pub has_name : List ℕ → List (List ℕ) → Bool
has_name uri names = list_any (λ name. bytes_eq name uri) names

-- after these one more, where it is another, and there is room
abbrev pub with_name : List (List ℕ) → List ℕ → List (List ℕ)
with_name names uri =
    if not (nat_lt (length names) most_touched) || has_name uri names then names
    else names ++ uri ∷ []

-- **the first 64 documents of these**
abbrev pub touched : List OnDocument → List (List ℕ)
touched ons = fold (λ names (on : OnDocument). with_name names on.uri) [] ons

-- those of these documents that are not among the others
abbrev pub others : List (List ℕ) → List (List ℕ) → List (List ℕ)
others names known = filter (λ uri. not (has_name uri known)) names

-- **the documents that were changed and have no snapshot**, where fewer than 64 have one
abbrev pub unshown : Terms → List Event → List (List ℕ)
unshown terms events =
    let shown = touched (doing is_showing (kept_calls terms events)) in
    if nat_lt (length shown) most_touched
    then others (touched (doing is_change (kept_calls terms events))) shown else []

-- ---- what is held of them

abbrev pub on_view : DocumentEvent → OnDocument
on_view d = record { uri = string_bytes d.uri; place = d.place }

abbrev pub ons_view : List DocumentEvent → List OnDocument
ons_view held = map on_view held

abbrev pub names_view : List (String Global) → List (List ℕ)
names_view names = map string_bytes names

-- these more are held, of which the last ones stay
abbrev pub Holds : ℕ → List OnDocument → List DocumentEvent → List DocumentEvent → Type 0
Holds most more old new =
    (ons : List OnDocument) → ons_view old ≡ last_ones most ons
    → ons_view new ≡ last_ones most (ons ++ more)

-- the documents of these more are touched
abbrev pub Touches : List OnDocument → List (String Global) → List (String Global) → Type 0
Touches more old new =
    names_view new ≡ fold (λ names (on : OnDocument). with_name names on.uri) (names_view old) more

-- one more kept call
pub record OpensBy (k : KeptCall) (old new : Openings) : Type 0 where
  pub opened : Holds most_openings (doing is_opening (k ∷ [])) old.opened.items new.opened.items
  pub closed : Holds most_closings (doing is_closing (k ∷ [])) old.closed.items new.closed.items
  pub changed : Touches (doing is_change (k ∷ [])) old.changed.items new.changed.items
  pub shown : Touches (doing is_showing (k ∷ [])) old.shown.items new.shown.items

-- **the last ones of these kept calls are held**, and the first documents that they touched
pub record OpenedBy (o : Openings) (calls : List KeptCall) : Type 0 where
  pub opened_are : ons_view o.opened.items ≡ last_ones most_openings (doing is_opening calls)
  pub closed_are : ons_view o.closed.items ≡ last_ones most_closings (doing is_closing calls)
  pub changed_are : names_view o.changed.items ≡ touched (doing is_change calls)
  pub shown_are : names_view o.shown.items ≡ touched (doing is_showing calls)

abbrev pub AreOpenings : Terms → Openings → List Event → Type 0
AreOpenings terms o events = OpenedBy o (kept_calls terms events)
