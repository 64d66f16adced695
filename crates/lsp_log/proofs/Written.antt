-- Puts one after another, and what they write of a record.
use Rattle.std.proofs.Common.{◌≡◌, List, ℕ, ℤ, [], ◌∷◌, ◌++◌, length, ◌+◌, Result, sym, ap, subst, ◌∙◌, append_assoc, append-nil}
use Rattle.std.proofs.lemmas.List.{length-append}
use Rattle.std.specs.Prelude.{codes, decimal}
use Rattle.std.specs.Fmt.{signed_decimal}
use Rattle.lsp_types.specs.declared.side.Side.{Side}
use Rattle.lsp_frame.specs.Sink.{Wrote, Stopped, Writes}
use Rattle.lsp_frame.specs.Told.{Told}
pub use Rattle.lsp_frame.proofs.Writing.{writes_then}
use Rattle.lsp_frame.proofs.Writing.{stopped_then, stopped_before, four}
use Rattle.lsp_log.specs.Log.{spelling, letter, chunk, chunk_head, shown, head_line, shown_head, with_feed}

pub due_stops : (a b : Told) (x due : List ℕ) → due ≡ x → Stopped a b x → Stopped a b due
due_stops a b x due e s = subst (λ (w : List ℕ). Stopped a b w) (sym e) s

pub due_writes : {X E : Type 0} (a b : Told) (r : Result X E) (x due : List ℕ) → due ≡ x → Writes a b r x → Writes a b r due
due_writes a b r x due e s = subst (λ (w : List ℕ). Writes a b r w) (sym e) s

-- ---- three parts, one after another

pub stopped_second_of : (a b c : Told) (x y z : List ℕ) → Wrote a b x → Stopped b c y → Stopped a c (x ++ (y ++ z))
stopped_second_of a b c x y z p s = stopped_then a b c x (y ++ z) p (stopped_before b c y z s)

pub writes_three : {X E : Type 0} (a b c d : Told) (r : Result X E) (x y z : List ℕ) → Wrote a b x → Wrote b c y → Writes c d r z → Writes a d r (x ++ (y ++ z))
writes_three a b c d r x y z p q s = writes_then a b d r x (y ++ z) p (writes_then b c d r y z q s)

-- ---- what is due

pub chunk_head_parts : (side : Side) (n : ℕ) → with_feed (head_line (chunk_head side n)) ≡ letter side ++ with_feed (decimal n)
chunk_head_parts side n = append_assoc (letter side) (decimal n) (10 ∷ [])

pub chunk_parts : (side : Side) (front back : List ℕ) → spelling (chunk side (front ++ back)) ≡ with_feed (head_line (chunk_head side (length front + length back))) ++ (front ++ with_feed back)
chunk_parts side front back =
    ap (λ (n : ℕ). with_feed (head_line (chunk_head side n)) ++ (with_feed (front ++ back) ++ [])) (length-append front back)
    ∙ ap (λ (w : List ℕ). with_feed (head_line (chunk_head side (length front + length back))) ++ w) (append-nil (with_feed (front ++ back)) ∙ append_assoc front back (10 ∷ []))

pub shown_parts : (version : ℤ) (uri text : List ℕ) → spelling (shown version uri text) ≡ with_feed (head_line (shown_head version (length uri) (length text))) ++ (with_feed uri ++ with_feed text)
shown_parts version uri text = ap (λ (w : List ℕ). with_feed (head_line (shown_head version (length uri) (length text))) ++ (with_feed uri ++ w)) (append-nil (with_feed text))

pub head_words : (version : ℤ) (uri text : ℕ) → with_feed (head_line (shown_head version uri text)) ≡ four (codes "T ") (signed_decimal version ++ 32 ∷ []) (decimal uri ++ 32 ∷ []) (with_feed (decimal text))
head_words version uri text = simp append_assoc
