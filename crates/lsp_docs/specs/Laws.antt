-- Laws of the definitions, over any list of accepted calls.
use Rattle.std.specs.Prelude.{◌≡◌, ℕ, ℤ, ◌+◌, List, [], ◌∷◌, ◌++◌, ◌&&◌, true, not, length}
use Rattle.std.specs.Prelude.{if◌then◌else◌, Option, Some, None, is_some, option_map, int_lt, Bool}
use Rattle.std.specs.Prelude.{false, ◌||◌, slice_get, option_to_list}
use Rattle.std.specs.List.{list_any, list_all}
use Rattle.std.specs.Option.{option_or}
use Rattle.lsp_types.specs.declared.line_ends.LineEnds.{LineEnds}
use Rattle.lsp_types.specs.declared.rules.TheConstants as rules
use Rattle.lsp_text.specs.SameText.{SameText}
use Rattle.lsp_docs.specs.Calls.{Bytes, Call, is_close, shows, is_change, Text}
use Rattle.lsp_docs.specs.Documents.{opening, Version, versioned, is_after, held, Held, documents}
use Rattle.lsp_docs.specs.Documents.{Terms}
use Rattle.lsp_docs.specs.Snapshots.{sets, holds_number, comes_to, is_compared, kept}
use Rattle.lsp_docs.specs.Rules.{first_row, differs, call_rule, AreAccepted}

-- ---- the opening that a snapshot belongs to, and the call that sets its version

-- the place of the opening of this URI that stands after the calls
abbrev pub standing : Bytes → List Call → Option ℕ
standing uri [] = None
standing uri (c ∷ after) =
    if is_some (opening uri c) && not (list_any (is_close uri) after) then Some 0 else option_map
    (λ i. i + 1) (standing uri after)

-- the place of the first opening of this URI
abbrev pub next_opening : Bytes → List Call → Option ℕ
next_opening uri [] = None
next_opening uri (c ∷ after) =
    if is_some (opening uri c) then Some 0 else option_map (λ i. i + 1) (next_opening uri after)

-- the opening that a snapshot between these calls binds to: the one that stands there, else the
-- next one
abbrev pub binding : Bytes → List Call → List Call → Option ℕ
binding uri before after =
    option_or (standing uri before)
    (option_map (λ i. length before + 1 + i) (next_opening uri after))

-- a call that brings the URI to this version, after which the opening at this place stands: it sets
-- the version of the opening's snapshots
pub record IsSet (uri : Bytes) (number : ℤ) (calls : List Call) (place : ℕ) : Type 0 where
  pub before : List Call
  pub call : Call
  pub after : List Call
  pub whole : calls ≡ before ++ call ∷ after
  pub comes : sets uri number call ≡ true
  pub stands : standing uri (before ++ call ∷ []) ≡ Some place

-- ---- laws

-- **Versions rise.** Of one opening, with no close between: each change raises the version, and
-- without a change version and text stay.
pub record VersionsRise : Type 0 where
  pub rises : (terms : Terms) (uri : Bytes) (calls more : List Call) (v w : Version)
      → AreAccepted terms (calls ++ more) → list_any (is_close uri) more ≡ false
      → held terms uri calls ≡ Some v → held terms uri (calls ++ more) ≡ Some w
      → list_any (is_change uri) more ≡ true → int_lt v.number w.number ≡ true
  pub stays : (terms : Terms) (uri : Bytes) (calls more : List Call) (v w : Version)
      → AreAccepted terms (calls ++ more) → list_any (is_close uri) more ≡ false
      → held terms uri calls ≡ Some v → held terms uri (calls ++ more) ≡ Some w
      → list_any (is_change uri) more ≡ false → v ≡ w

-- **Snapshots agree.** A held text is the same as that of each snapshot of its version, shown
-- before or after it, with no close between.
pub record SnapshotsAgree : Type 0 where
  pub earlier : (terms : Terms) (before between : List Call) (uri : Bytes) (n : ℤ) (t : Text)
      (v : Version) → AreAccepted terms (before ++ shows uri n t ∷ between)
      → list_any (is_close uri) between ≡ false
      → held terms uri (before ++ shows uri n t ∷ between) ≡ Some v → v.number ≡ n
      → SameText terms.line_ends v.text t
  pub later : (terms : Terms) (before between : List Call) (uri : Bytes) (n : ℤ) (t : Text)
      (v : Version) → AreAccepted terms (before ++ between ++ shows uri n t ∷ [])
      → list_any (is_close uri) between ≡ false → held terms uri before ≡ Some v → v.number ≡ n
      → SameText terms.line_ends v.text t

-- **After any of the calls, a held text is the same as that of each snapshot that is bound to its
-- opening and shows its version**, wherever the snapshot is in the list.
abbrev pub HeldIsShown : Type 0
HeldIsShown = (terms : Terms) (before after front back : List Call) (uri : Bytes) (n : ℤ) (t : Text)
    (v : Version) → AreAccepted terms (before ++ after)
    → before ++ after ≡ front ++ shows uri n t ∷ back
    → binding uri front back ≡ standing uri before → held terms uri before ≡ Some v → v.number ≡ n
    → SameText terms.line_ends v.text t

-- **Each open document is held**: what the list of the open documents has at a place is what is
-- held of that URI, and no URI has two places.
pub record DocumentsAreHeld : Type 0 where
  pub each : (terms : Terms) (calls : List Call) (i : ℕ) (h : Held) → AreAccepted terms calls
      → slice_get (documents terms calls) i ≡ Some h → held terms h.uri calls ≡ Some h.version
  pub once : (terms : Terms) (calls : List Call) (i j : ℕ) (g h : Held) → AreAccepted terms calls
      → slice_get (documents terms calls) i ≡ Some g
      → slice_get (documents terms calls) j ≡ Some h → g.uri ≡ h.uri → i ≡ j

-- **A snapshot is compared exactly where a call sets its version for its opening.**
pub record SettersCompare : Type 0 where
  pub compared : (terms : Terms) (front back : List Call) (uri : Bytes) (n : ℤ) (t : Text)
      → AreAccepted terms (front ++ shows uri n t ∷ back)
      → is_compared terms front uri n back ≡ true
      → (place : ℕ) × (binding uri front back ≡ Some place)
      × IsSet uri n (front ++ shows uri n t ∷ back) place
  pub unmatched : (terms : Terms) (front back : List Call) (uri : Bytes) (n : ℤ) (t : Text)
      → AreAccepted terms (front ++ shows uri n t ∷ back)
      → is_compared terms front uri n back ≡ false
      → (place : ℕ) → binding uri front back ≡ Some place
      → IsSet uri n (front ++ shows uri n t ∷ back) place → ⊥

-- what the held version alone refuses of a snapshot: 701 a greater version is held; 702 its version
-- is held, with another text
abbrev pub held_rule : LineEnds → ℤ → Text → Option Version → Option ℕ
held_rule ends number t None = None
held_rule ends number t (Some v) =
    first_row (
    (int_lt number v.number, Some rules.LATE_SNAPSHOT)
    ∷ (differs ends v (versioned number t), Some rules.SNAPSHOT_DIFFERS)
    ∷ [])

-- the version numbers strictly rise
abbrev pub rises : List Version → Bool
rises [] = true
rises (v ∷ vs) = list_all (is_after v.number) vs && rises vs

-- **Kept versions rise**, and lie below the held one.
abbrev pub KeptVersionsRise : Type 0
KeptVersionsRise = (terms : Terms) (uri : Bytes) (calls : List Call) → AreAccepted terms calls
    → rises (kept terms uri calls ++ option_to_list (held terms uri calls)) ≡ true

-- **With nothing kept** a late snapshot is refused, and one is compared only at the held version or
-- a later one.
pub record NothingKept : Type 0 where
  pub rule : (terms : Terms) (calls : List Call) (uri : Bytes) (n : ℤ) (t : Text) → terms.kept ≡ 0
      → call_rule terms calls (shows uri n t)
      ≡ held_rule terms.line_ends n t (held terms uri calls)
  pub compared : (terms : Terms) (front back : List Call) (uri : Bytes) (n : ℤ) → terms.kept ≡ 0
      → is_compared terms front uri n back
      ≡ (holds_number n (held terms uri front) || comes_to uri n back)
