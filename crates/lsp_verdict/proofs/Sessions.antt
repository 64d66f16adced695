-- Records are exactly one session of events.
pub mod Joined
use Rattle.std.proofs.Common.{ℕ, List, [], ◌++◌, None, inl, inr, refl, subst, ap, length, arith}
use Rattle.std.proofs.Common.{◌≡◌, ◌∷◌, sym, ◌∙◌, append_assoc, append-nil}
use Rattle.std.specs.Prelude.{map, ℤ, if◌then◌else◌, Bool, true, false}
use Rattle.std.proofs.lemmas.List.{length-append}
use Rattle.std.specs.List.{AllZip}
use Rattle.lsp_frame.specs.Bounds.{Bounds, IsInRange}
use Rattle.lsp_frame.specs.Frame.{Begins, Breaks, IsStream}
use Rattle.lsp_frame.specs.Header.{blank_line}
use Rattle.lsp_types.specs.declared.side.Side.{Side}
use Rattle.lsp_types.specs.declared.side.Side.TheVariants.{Editor, Server}
use Rattle.lsp_session.specs.Sent.{same_side}
use Rattle.lsp_log.specs.Log.{Record, chunk, shown}
use Rattle.lsp_verdict.specs.Placed.{Raw, content, Brings, new_fault, PlacedAfter, joined, show}
use Rattle.lsp_verdict.specs.Placed.{Reads, IsSession}
use Rattle.lsp_verdict.proofs.Below.{frames_more, frames_first, some_stream}
use Rattle.lsp_verdict.specs.Event.{Event}
use Rattle.lsp_verdict.specs.Laws.{merged, OneSession, SomeSession}
use Rattle.lsp_verdict.proofs.OneEvent.{one_list, some_list}
use Rattle.lsp_verdict.proofs.PlacedLemmas.{cuts_dont_matter}

-- ---- no bytes

no_frame : (limits : Bounds) (bytes after : List ℕ) → Begins limits [] bytes after → ⊥
no_frame limits bytes after b =
    let ends = b.2.part.ends in
    absurd (omega (arith, ap length b.1, length-append b.0 after, ap length b.2.whole, length-append b.2.header bytes, ap length ends.1, length-append ends.0 blank_line))

pub no_fault : (limits : Bounds) → IsInRange limits → (rule : ℕ) → Breaks limits [] rule → ⊥
no_fault limits sizes rule (inl b) = absurd (omega (arith, b.1.long, sizes.header_low))
no_fault limits sizes rule (inr b) = absurd (omega (arith, ap length b.whole, length-append b.header b.after, ap length b.part.ends.1, length-append b.part.ends.0 blank_line))

-- no bytes have no content and no fault
pub no_stream : (limits : Bounds) → IsInRange limits → IsStream limits [] [] [] None
no_stream limits sizes = record { frames = refl; no_more = no_frame limits; fault = no_fault limits sizes }

-- ---- more bytes

-- more bytes bring something, be it nothing
pub some_brings : (limits : Bounds) (side : Side) (before more : List ℕ) → (now : List Raw) × Brings limits side before more now
some_brings limits side before more =
    let old = some_stream limits before in
    let new = some_stream limits (before ++ more) in
    let cut = frames_first limits (before ++ more) old.0 (old.1 ++ more) new.0 new.1 new.2 (frames_more limits before old.0 old.1 more old.3.frames) new.3 in (
      map (content side) cut.0 ++ new_fault side old.2 new.2,
      record {
        contents = old.0;
        rest = old.1;
        old_fault = old.2;
        stream = old.3;
        new_contents = cut.0;
        new_rest = new.1;
        last_fault = new.2;
        new_stream = subst (λ (w : List (List ℕ)). IsStream limits (before ++ more) w new.1 new.2) cut.1 new.3;
        brought = refl;
      },
    )

-- ---- the bytes of a side, with one more record

joined-snoc : (side : Side) (rs : List Record) (r : Record) → joined side (rs ++ r ∷ []) ≡ joined side rs ++ joined side (r ∷ [])
joined-snoc side [] r = refl
joined-snoc side (chunk by b ∷ rs) r = by_side (same_side side by) (joined-snoc side rs r)
  where
    by_side : (own : Bool) → joined side (rs ++ r ∷ []) ≡ joined side rs ++ joined side (r ∷ [])
        → (if own then b ++ joined side (rs ++ r ∷ []) else joined side (rs ++ r ∷ [])) ≡ (if own then b ++ joined side rs else joined side rs) ++ joined side (r ∷ [])
    by_side true e = ap (λ w. b ++ w) e ∙ sym (append_assoc b (joined side rs) (joined side (r ∷ [])))
    by_side false e = e
joined-snoc side (shown n uri t ∷ rs) r = joined-snoc side rs r

-- a record of a side's bytes comes behind its bytes
pub joined_own : (side : Side) (rs : List Record) (b : List ℕ) → joined side (rs ++ chunk side b ∷ []) ≡ joined side rs ++ b
joined_own Editor rs b = joined-snoc Editor rs (chunk Editor b) ∙ ap (λ w. joined Editor rs ++ w) (append-nil b)
joined_own Server rs b = joined-snoc Server rs (chunk Server b) ∙ ap (λ w. joined Server rs ++ w) (append-nil b)

pub joined_server : (rs : List Record) (b : List ℕ) → joined Server (rs ++ chunk Editor b ∷ []) ≡ joined Server rs
joined_server rs b = joined-snoc Server rs (chunk Editor b) ∙ append-nil (joined Server rs)

pub joined_editor : (rs : List Record) (b : List ℕ) → joined Editor (rs ++ chunk Server b ∷ []) ≡ joined Editor rs
joined_editor rs b = joined-snoc Editor rs (chunk Server b) ∙ append-nil (joined Editor rs)

pub joined_shown : (side : Side) (rs : List Record) (n : ℤ) (uri t : List ℕ) → joined side (rs ++ shown n uri t ∷ []) ≡ joined side rs
joined_shown side rs n uri t = joined-snoc side rs (shown n uri t) ∙ append-nil (joined side rs)

-- ---- the session, with one more record

pub placed_one : (limits : Bounds) (side : Side) (rs : List Record) (b : List ℕ) (now : List Raw) → Brings limits side (joined side rs) b now → PlacedAfter limits (joined Editor rs) (joined Server rs) (chunk side b ∷ []) now
placed_one limits Editor rs b now brings = (now, [], sym (append-nil now), brings, refl)
placed_one limits Server rs b now brings = (now, [], sym (append-nil now), brings, refl)

-- ---- there is one, and only one

pub some_placed : (limits : Bounds) → (editor server : List ℕ) (rs : List Record) → (raws : List Raw) × PlacedAfter limits editor server rs raws
some_placed limits editor server [] = ([], refl)
some_placed limits editor server (chunk Editor bytes ∷ rs) =
    let now = some_brings limits Editor editor bytes in
    let later = some_placed limits (editor ++ bytes) server rs in
    (now.0 ++ later.0, (now.0, later.0, refl, now.1, later.1))
some_placed limits editor server (chunk Server bytes ∷ rs) =
    let now = some_brings limits Server server bytes in
    let later = some_placed limits editor (server ++ bytes) rs in
    (now.0 ++ later.0, (now.0, later.0, refl, now.1, later.1))
some_placed limits editor server (shown n uri t ∷ rs) =
    let later = some_placed limits editor server rs in
    (show n uri t ∷ later.0, (later.0, refl, later.1))

-- records have a session
pub some_session : SomeSession
some_session limits rs =
    let raws = some_placed limits [] [] rs in
    let read = some_list raws.0 in
    (read.0, (raws.0, raws.1, read.1))

-- and records that differ only by how bytes are cut have the same
pub same_session : (limits : Bounds) (rs us : List Record) (es fs : List Event) → merged rs ≡ merged us → IsSession limits rs es → IsSession limits us fs → es ≡ fs
same_session limits rs us es fs cut p q =
    let raws : p.0 ≡ q.0 = cuts_dont_matter limits rs us p.0 q.0 cut p.1 q.1 in
    one_list q.0 es fs (subst (λ (w : List Raw). AllZip Reads w es) raws p.2) q.2

pub one_session : OneSession
one_session limits rs es fs p q = same_session limits rs rs es fs refl p q
