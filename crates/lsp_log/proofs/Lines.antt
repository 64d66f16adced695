-- The line that bytes begin with.
use Rattle.std.proofs.Common.{◌≡◌, ℕ, ◌+◌, ◌-◌, ◌<◌, false, List, [], ◌∷◌, ◌++◌, length, take, drop, refl, sym, ap, ◌∙◌, append_assoc, append-nil, arith}
use Rattle.std.specs.Prelude.{◌==◌}
use Rattle.std.proofs.lemmas.List.{length-append, take_at, length-take}
use Rattle.lsp_frame.proofs.Frames.{take_beyond}
use Rattle.memchr.specs.Find.{Passes, Nowhere, NoneBefore, is_byte}
use Rattle.std.proofs.lemmas.Bool.{cond-false, or_parts}
use Rattle.lsp_log.specs.Log.{HasLine, holds_feed, with_feed}
use Rattle.lsp_log.proofs.Bytes.{first_cut, nowhere_none}
use Rattle.lsp_log.specs.Place.{line_of}

-- a line with its LF is the line that stands there
pub line_first : (line after : List ℕ) → holds_feed line ≡ false → line_of (with_feed line ++ after) ≡ with_feed line
line_first [] after none = refl
line_first (b ∷ line) after none =
    cond-false (b == 10) (b ∷ []) (b ∷ line_of (with_feed line ++ after)) (or_parts (b == 10) (holds_feed line) none).0
    ∙ ap (λ (w : List ℕ). b ∷ w) (line_first line after (or_parts (b == 10) (holds_feed line) none).1)

-- bytes without a LF are all one line
pub line_all : (bytes : List ℕ) → holds_feed bytes ≡ false → line_of bytes ≡ bytes
line_all [] none = refl
line_all (b ∷ bytes) none =
    cond-false (b == 10) (b ∷ []) (b ∷ line_of bytes) (or_parts (b == 10) (holds_feed bytes) none).0
    ∙ ap (λ (w : List ℕ). b ∷ w) (line_all bytes (or_parts (b == 10) (holds_feed bytes) none).1)

-- so it is where at most 64 bytes are looked at
pub line_near : (line after : List ℕ) → length line < 64 → holds_feed line ≡ false → line_of (take 64 (with_feed line ++ after)) ≡ with_feed line
line_near line after short none =
    ap line_of (take_beyond 64 (with_feed line) after (omega (arith, short, length-append line (10 ∷ []))))
    ∙ line_first line (take (64 - length (with_feed line)) after) none

-- and where more bytes follow
pub line_held : (bytes line after more : List ℕ) → HasLine bytes line after → line_of (take 64 (bytes ++ more)) ≡ with_feed line
line_held bytes line after more h =
    ap (λ (w : List ℕ). line_of (take 64 w)) (ap (λ (w : List ℕ). w ++ more) h.whole ∙ append_assoc (with_feed line) after more) ∙ line_near line (after ++ more) h.short h.one

pub line_alone : (line : List ℕ) → length line < 64 → holds_feed line ≡ false → line_of (take 64 (with_feed line)) ≡ with_feed line
line_alone line short none = ap (λ (w : List ℕ). line_of (take 64 w)) (sym (append-nil (with_feed line))) ∙ line_near line [] short none

pub line_itself : (bytes line after : List ℕ) → HasLine bytes line after → line_of (take 64 bytes) ≡ with_feed line
line_itself bytes line after h = ap (λ (w : List ℕ). line_of (take 64 w)) h.whole ∙ line_near line after h.short h.one

-- the line in front of a tape
pub line_front : (rest : List ℕ) (end : ℕ) → end < length rest → HasLine rest (take end rest) (drop (end + 1) rest) → take (end + 1) rest ≡ with_feed (take end rest)
line_front rest end below h =
    ap (take (end + 1)) h.whole ∙ take_at (with_feed (take end rest)) (drop (end + 1) rest) (end + 1) (omega (arith, below, length-append (take end rest) (10 ∷ []), length-take end rest))

-- ---- a search for it

pub line_searched : (bytes : List ℕ) (end : ℕ) → NoneBefore (Passes (is_byte 10) bytes) 0 (length bytes) end → Passes (is_byte 10) bytes end → take (end + 1) bytes ≡ line_of bytes
line_searched bytes end none is =
    let cut = first_cut 10 bytes end none is in
    let whole : bytes ≡ with_feed (take end bytes) ++ drop (end + 1) bytes = cut.whole ∙ sym (append_assoc (take end bytes) (10 ∷ []) (drop (end + 1) bytes)) in
    ap (take (end + 1)) whole
    ∙ take_at (with_feed (take end bytes)) (drop (end + 1) bytes) (end + 1) (omega (arith, none.high, length-append (take end bytes) (10 ∷ []), length-take end bytes))
    ∙ sym (line_first (take end bytes) (drop (end + 1) bytes) cut.none) ∙ ap line_of (sym whole)

pub no_line_searched : (bytes : List ℕ) → Nowhere (Passes (is_byte 10) bytes) 0 (length bytes) → bytes ≡ line_of bytes
no_line_searched bytes nowhere = sym (line_all bytes (nowhere_none 10 bytes nowhere))
