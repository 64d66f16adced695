-- Puts one after another.
use Rattle.std.proofs.Common.{◌≡◌, ℕ, ◌-◌, List, [], ◌++◌, length, take, drop, Result, Ok, Err, refl, sym, ap, ◌∙◌, append_assoc, arith}
use Rattle.std.specs.Prelude.{codes, decimal}
use Rattle.std.proofs.lemmas.List.{take-append-drop, take_all, length-drop}
use Rattle.lsp_frame.specs.Header.{blank_line}
use Rattle.lsp_frame.specs.Told.{Told, Took, after_failure}
use Rattle.lsp_frame.specs.Sink.{Wrote, Stopped, Writes}
use Rattle.lsp_frame.proofs.Telling.{took_nothing, took_then}

pub wrote_nothing : (a : Told) → Wrote a a []
wrote_nothing a = record { took = took_nothing a; failures = refl }

pub wrote_then : (a b c : Told) (x y : List ℕ) → Wrote a b x → Wrote b c y → Wrote a c (x ++ y)
wrote_then a b c x y p q = record { took = took_then a b c x y p.took q.took; failures = q.failures ∙ p.failures }

pub stopped_then : (a b c : Told) (x y : List ℕ) → Wrote a b x → Stopped b c y → Stopped a c (x ++ y)
stopped_then a b c x y p q = record {
  front = x ++ q.front;
  back = q.back;
  whole = ap (λ (w : List ℕ). x ++ w) q.whole ∙ sym (append_assoc x q.front q.back);
  took = took_then a b c x q.front p.took q.took;
  failures = q.failures ∙ ap after_failure p.failures;
}

-- what is due goes on
pub stopped_before : (a b : Told) (x y : List ℕ) → Stopped a b x → Stopped a b (x ++ y)
stopped_before a b x y p = record {
  front = p.front;
  back = p.back ++ y;
  whole = ap (λ (w : List ℕ). w ++ y) p.whole ∙ append_assoc p.front p.back y;
  took = p.took;
  failures = p.failures;
}

-- so far, and what is left
pub record HasPut (start now : Told) (bytes rest : List ℕ) : Type 0 where
  pub front : List ℕ
  pub whole : bytes ≡ front ++ rest
  pub wrote : Wrote start now front

pub put_more : (start old new : Told) (bytes rest : List ℕ) (n : ℕ) → HasPut start old bytes rest → Took old new (take n rest) → new.failures ≡ old.failures → HasPut start new bytes (drop n rest)
put_more start old new bytes rest n so_far took failures = record {
  front = so_far.front ++ take n rest;
  whole = so_far.whole ∙ ap (λ (w : List ℕ). so_far.front ++ w) (sym (take-append-drop n rest)) ∙ sym (append_assoc so_far.front (take n rest) (drop n rest));
  wrote = wrote_then start old new so_far.front (take n rest) so_far.wrote (record { took = took; failures = failures });
}

pub writes_then : {X E : Type 0} (a b c : Told) (r : Result X E) (x y : List ℕ) → Wrote a b x → Writes b c r y → Writes a c r (x ++ y)
writes_then a b c (Ok v) x y p q = wrote_then a b c x y p q
writes_then a b c (Err e) x y p q = stopped_then a b c x y p q

-- ---- four parts, one after another

abbrev pub four : List ℕ → List ℕ → List ℕ → List ℕ → List ℕ
four w x y z = w ++ (x ++ y ++ z)

pub stopped_first : (a b : Told) (w x y z : List ℕ) → Stopped a b w → Stopped a b (four w x y z)
stopped_first a b w x y z s = stopped_before a b w (x ++ y ++ z) s

pub stopped_second : (a b c : Told) (w x y z : List ℕ) → Wrote a b w → Stopped b c x → Stopped a c (four w x y z)
stopped_second a b c w x y z p s =
    stopped_then a b c w (x ++ y ++ z) p (stopped_before b c (x ++ y) z (stopped_before b c x y s))

pub stopped_third : (a b c d : Told) (w x y z : List ℕ) → Wrote a b w → Wrote b c x → Stopped c d y → Stopped a d (four w x y z)
stopped_third a b c d w x y z p q s =
    stopped_then a b d w (x ++ y ++ z) p (stopped_before b d (x ++ y) z (stopped_then b c d x y q s))

pub writes_four : {X E : Type 0} (a b c d e : Told) (r : Result X E) (w x y z : List ℕ) → Wrote a b w → Wrote b c x → Wrote c d y → Writes d e r z → Writes a e r (four w x y z)
writes_four a b c d e r w x y z p q s t =
    writes_then a b e r w (x ++ y ++ z) p (writes_then b d e r (x ++ y) z (wrote_then b c d x y q s) t)

-- ---- the header part of a canonical frame, filled from its end

filled_end : drop 24 (codes "Content-Length: 00000000\r\n\r\n") ≡ blank_line
filled_end = refl

pub header_is : (len digits start : ℕ) (first second : List ℕ) → length second ≡ 28
    → drop digits first ≡ decimal len ++ drop 24 (codes "Content-Length: 00000000\r\n\r\n")
    → drop start second ≡ codes "Content-Length: " ++ drop digits first
    → take (28 - start) (drop start second) ≡ codes "Content-Length: " ++ (decimal len ++ blank_line)
header_is len digits start first second whole back front =
    take_all (28 - start) (drop start second) (omega (arith, whole, length-drop start second))
    ∙ front
    ∙ ap (λ (w : List ℕ). codes "Content-Length: " ++ w)
    (back ∙ ap (λ (w : List ℕ). decimal len ++ w) filled_end)
