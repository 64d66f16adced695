-- A record at the front of a tape, or why there is none.
use Rattle.std.proofs.Common.{◌≡◌, ℕ, ◌+◌, ◌<◌, ◌≤◌, true, false, List, ◌++◌, length, take, drop, Option, Some, None, refl, sym, ap, subst, ◌∙◌, append_assoc, inl, inr, arith}
use Rattle.std.specs.List.{flat_map}
use Rattle.std.proofs.lemmas.List.{take_all, take-append-le}
use Rattle.lsp_frame.specs.Bounds.{Bounds}
use Rattle.lsp_frame.specs.Told.{Told}
use Rattle.lsp_log.specs.Log as log
use Rattle.lsp_log.specs.Log.{Flaw, bad_line, bad_number, cut_short, bad_end, not_utf8, EndsWith, HasLine, HasHead, head_line, in_range, lengths_of, with_feed, holds_feed, head_of, parts_of, spelling}
use Rattle.lsp_log.specs.Words.{head_view, IsHead, IsHeadFault}
use Rattle.lsp_log.specs.Tape.{Held, Pulled, Filled, Taken}
use Rattle.lsp_log.specs.Room.{AwaitsPart, AwaitsRecord}
use Rattle.lsp_log.specs.Place.{line_of}
use Rattle.lsp_log.specs.Stops.{Ends, EndsAt, HoldsLine, Refused, ReadsFew, StopAnswer, PartsBreak, HasParts, Found, is_flaw}
use Rattle.lsp_log.specs.declared.head.Head.{Head}
use Rattle.lsp_log.specs.declared.stop.Stop.{Stop}
use Rattle.lsp_log.specs.declared.stop.Stop.TheVariants.{FirstLine, Nothing, Form, Number, Short, End, Text, Read, Memory}
use Rattle.lsp_log.proofs.Lines.{line_held, line_alone, line_itself, line_front}
use Rattle.lsp_log.proofs.Tapes.{pulled_then, failed_then, taken_both}

pub full_window : (limits : Bounds) (old new : Held) (before after : Told) (piece near : List ℕ) → Filled old new before after piece → holds_feed new.rest ≡ false → near ≡ new.rest → length near ≡ 64
    → Ends (EndsAt limits new.rest) old new before after (Some bad_line)
full_window limits old new before after piece near f none same full = record {
  piece = piece;
  pulled = f.pulled;
  holds = (
    inl (
      omega (arith, ap length f.rest, ap length same, full),
      ap (λ (w : List ℕ). holds_feed (take 64 w)) (sym f.rest) ∙ ap holds_feed (take_all 64 new.rest (omega (arith, ap length same, full))) ∙ none,
    ),
    λ more _. ap line_of (sym (take-append-le 64 new.rest more (omega (arith, ap length same, full)))) ∙ ap (λ (w : List ℕ). line_of (take 64 (w ++ more))) f.rest,
    omega (arith, ap length f.rest, ap length same, full),
  );
  over = λ h. absurd cc;
}

-- a line stands there that is no head
line_kept : (old new : Held) (before after : Told) (piece line rest : List ℕ) (flaw : Option Flaw) → Filled old new before after piece → HasLine new.rest line rest → HoldsLine new.rest (old.rest ++ piece) flaw
line_kept old new before after piece line rest flaw f h more _ =
    line_itself new.rest line rest h ∙ sym (line_held new.rest line rest more h) ∙ ap (λ (w : List ℕ). line_of (take 64 (w ++ more))) f.rest

has_line : (old new : Held) (before after : Told) (piece line rest : List ℕ) → Filled old new before after piece → HasLine new.rest line rest → HasLine (old.rest ++ piece) line rest
has_line old new before after piece line rest f h = record { whole = sym f.rest ∙ h.whole; short = h.short; one = h.one }

pub head_stops : (limits : Bounds) (old new : Held) (before after : Told) (piece near : List ℕ) (end : ℕ) (stop : Stop) → Filled old new before after piece → HasLine new.rest (take end new.rest) (drop (end + 1) new.rest) → near ≡ new.rest → length new.rest ≤ 64
    → IsHeadFault limits (take end near) stop → StopAnswer (EndsAt limits new.rest) (AwaitsRecord limits) old new before after stop
head_stops limits old new before after piece near end Form f h same short bad = record {
  piece = piece;
  pulled = f.pulled;
  holds = (
    inr (take end new.rest, drop (end + 1) new.rest, has_line old new before after piece (take end new.rest) (drop (end + 1) new.rest) f h, λ head writable e. bad head writable (ap (take end) same ∙ e)),
    line_kept old new before after piece (take end new.rest) (drop (end + 1) new.rest) (Some bad_line) f h,
    omega (arith, ap length f.rest, short),
  );
  over = λ w. absurd cc;
}
head_stops limits old new before after piece near end Number f h same short bad =
    let line : take end new.rest ≡ head_line bad.0 = ap (take end) (sym same) ∙ bad.1 in
    let here : HasLine new.rest (head_line bad.0) (drop (end + 1) new.rest) = subst (λ (w : List ℕ). HasLine new.rest w (drop (end + 1) new.rest)) line h in
    record {
      piece = piece;
      pulled = f.pulled;
      holds = (
        (bad.0, drop (end + 1) new.rest, has_line old new before after piece (head_line bad.0) (drop (end + 1) new.rest) f here, bad.2, bad.3),
        line_kept old new before after piece (head_line bad.0) (drop (end + 1) new.rest) (Some bad_number) f here,
        omega (arith, ap length f.rest, short),
      );
      over = λ w. absurd cc;
    }
head_stops limits old new before after piece near end stop f h same short bad = absurd bad

-- a head was found, and the tape went past its line
pub record AtParts (limits : Bounds) (old mid : Held) (before now : Told) (h : log.Head) : Type 0 where
  pub line : List ℕ
  pub piece : List ℕ
  pub pulled : Pulled old.left mid.left before now piece
  pub whole : old.rest ++ piece ≡ with_feed line ++ mid.rest
  pub short : length line < 64
  pub one : holds_feed line ≡ false
  pub is : line ≡ head_line h
  pub range : in_range limits h ≡ true

pub at_parts : (limits : Bounds) (old new mid : Held) (before now : Told) (piece near : List ℕ) (end : ℕ) (h : Head) → Filled old new before now piece → HasLine new.rest (take end new.rest) (drop (end + 1) new.rest) → near ≡ new.rest
    → IsHead limits (take end near) h → mid ≡ record new { rest = drop (end + 1) new.rest } → AtParts limits old mid before now (head_view h)
at_parts limits old new mid before now piece near end h f line same head is = record {
  line = take end new.rest;
  piece = piece;
  pulled = subst (λ (m : Held). Pulled old.left m.left before now piece) (sym is) f.pulled;
  whole = sym f.rest ∙ line.whole ∙ ap (λ (m : Held). with_feed (take end new.rest) ++ m.rest) (sym is);
  short = line.short;
  one = line.one;
  is = ap (take end) (sym same) ∙ head.is;
  range = head.range;
}

all_bytes : (limits : Bounds) (old mid : Held) (before now : Told) (h : log.Head) (more : List ℕ) (a : AtParts limits old mid before now h) → old.rest ++ (a.piece ++ more) ≡ with_feed (head_line h) ++ (mid.rest ++ more)
all_bytes limits old mid before now h more a =
    sym (append_assoc old.rest a.piece more) ∙ ap (λ (w : List ℕ). w ++ more) a.whole ∙ append_assoc (with_feed a.line) mid.rest more ∙ ap (λ (w : List ℕ). with_feed w ++ (mid.rest ++ more)) a.is

has_head : (limits : Bounds) (old mid : Held) (before now : Told) (h : log.Head) (more : List ℕ) (a : AtParts limits old mid before now h) → HasHead limits (old.rest ++ (a.piece ++ more)) h (mid.rest ++ more)
has_head limits old mid before now h more a = record {
  line = record {
    whole = all_bytes limits old mid before now h more a;
    short = subst (λ (w : List ℕ). length w < 64) a.is a.short;
    one = ap holds_feed (sym a.is) ∙ a.one;
  };
  range = a.range;
}

-- the head's line and the parts are the spelling of the record
spelled : (limits : Bounds) (old mid : Held) (before now : Told) (h : log.Head) (more : List ℕ) (a : AtParts limits old mid before now h) (r : log.Record) (after : List ℕ) → head_of r ≡ h → mid.rest ++ more ≡ flat_map with_feed (parts_of r) ++ after
    → old.rest ++ (a.piece ++ more) ≡ spelling r ++ after
spelled limits old mid before now h more a r after heads parts =
    all_bytes limits old mid before now h more a ∙ ap (λ (k : log.Head). with_feed (head_line k) ++ (mid.rest ++ more)) (sym heads) ∙ ap (λ (w : List ℕ). with_feed (head_line (head_of r)) ++ w) parts
    ∙ sym (append_assoc (with_feed (head_line (head_of r))) (flat_map with_feed (parts_of r)) after)

parts_break : (limits : Bounds) (old mid : Held) (before now : Told) (h : log.Head) (more : List ℕ) (a : AtParts limits old mid before now h) (flaw : Option Flaw) → PartsBreak h (mid.rest ++ more) flaw → EndsWith limits (old.rest ++ (a.piece ++ more)) flaw
parts_break limits old mid before now h more a (Some cut_short) p = inr (h, mid.rest ++ more, has_head limits old mid before now h more a, p)
parts_break limits old mid before now h more a (Some bad_end) p = (h, mid.rest ++ more, has_head limits old mid before now h more a, p.0)
parts_break limits old mid before now h more a (Some not_utf8) p = (p.0, p.1, spelled limits old mid before now h more a p.0 p.1 p.2 p.3, ap (in_range limits) p.2 ∙ a.range, p.4)
parts_break limits old mid before now h more a _ p = absurd p

-- at most 64 bytes were read behind those that show the flaw
parts_few : (limits : Bounds) (old mid : Held) (before now : Told) (h : log.Head) (more : List ℕ) (a : AtParts limits old mid before now h) (flaw : Option Flaw) → PartsBreak h (mid.rest ++ more) flaw → ReadsFew limits (old.rest ++ (a.piece ++ more)) flaw
parts_few limits old mid before now h more a (Some bad_line) p = absurd p
parts_few limits old mid before now h more a (Some bad_number) p = absurd p
parts_few limits old mid before now h more a (Some bad_end) p = (h, mid.rest ++ more, has_head limits old mid before now h more a, p.1)
parts_few limits old mid before now h more a (Some not_utf8) p = (p.0, p.1, spelled limits old mid before now h more a p.0 p.1 p.2 p.3, ap (in_range limits) p.2 ∙ a.range, p.5)
parts_few limits old mid before now h more a _ p = tt

ends_parts : (limits : Bounds) (old mid new : Held) (before now after : Told) (h : log.Head) (flaw : Option Flaw) → AtParts limits old mid before now h → new.rest ≡ with_feed (head_line h) → Ends (PartsBreak h) mid new now after flaw → Ends (EndsAt limits new.rest) old new before after flaw
ends_parts limits old mid new before now after h flaw a line f = record {
  piece = a.piece ++ f.piece;
  pulled = pulled_then old.left mid.left new.left before now after a.piece f.piece a.pulled f.pulled;
  holds = (
    parts_break limits old mid before now h f.piece a flaw f.holds,
    λ more _.
        let here = (has_head limits old mid before now h f.piece a).line in
        ap (λ (w : List ℕ). line_of (take 64 w)) line ∙ line_alone (head_line h) here.short here.one ∙ sym (line_held (old.rest ++ (a.piece ++ f.piece)) (head_line h) (mid.rest ++ f.piece) more here),
    parts_few limits old mid before now h f.piece a flaw f.holds,
  );
  over = f.over;
}

head_taken : (limits : Bounds) (old mid : Held) (before now : Told) (h : log.Head) → AtParts limits old mid before now h → Taken old mid before now (with_feed (head_line h))
head_taken limits old mid before now h a = record { piece = a.piece; pulled = a.pulled; whole = a.whole ∙ ap (λ (w : List ℕ). with_feed w ++ mid.rest) a.is }

refused_at_parts : (limits : Bounds) (old mid new : Held) (before now after : Told) (h : log.Head) → AtParts limits old mid before now h → Refused (AwaitsPart (lengths_of h)) mid new now after → Refused (AwaitsRecord limits) old new before after
refused_at_parts limits old mid new before now after h a r = record {
  front = with_feed (head_line h) ++ r.front;
  awaits = record { head = h; range = a.range; parts = r.front; whole = refl; awaits = r.awaits };
  taken = taken_both old mid new before now after (with_feed (head_line h)) r.front (head_taken limits old mid before now h a) r.taken;
}

pub stop_at_parts : (limits : Bounds) (old mid new : Held) (before now after : Told) (h : log.Head) (stop : Stop) → AtParts limits old mid before now h → (is_flaw stop ≡ true → new.rest ≡ with_feed (head_line h)) → StopAnswer (PartsBreak h) (AwaitsPart (lengths_of h)) mid new now after stop
    → StopAnswer (EndsAt limits new.rest) (AwaitsRecord limits) old new before after stop
stop_at_parts limits old mid new before now after h FirstLine a line s = s
stop_at_parts limits old mid new before now after h Short a line s = ends_parts limits old mid new before now after h (Some cut_short) a (line refl) s
stop_at_parts limits old mid new before now after h End a line s = ends_parts limits old mid new before now after h (Some bad_end) a (line refl) s
stop_at_parts limits old mid new before now after h Text a line s = ends_parts limits old mid new before now after h (Some not_utf8) a (line refl) s
stop_at_parts limits old mid new before now after h Read a line s = failed_then old.left mid.left before now after a.piece a.pulled s
stop_at_parts limits old mid new before now after h Memory a line s = refused_at_parts limits old mid new before now after h a s
stop_at_parts limits old mid new before now after h _ a line s = absurd s.holds

pub found_record : (limits : Bounds) (old mid new : Held) (before now after : Told) (h : log.Head) (r : log.Record) → AtParts limits old mid before now h → HasParts mid new now after h r → Found limits old new before after r
found_record limits old mid new before now after h r a p = record {
  taken = record {
    piece = a.piece ++ p.taken.piece;
    pulled = pulled_then old.left mid.left new.left before now after a.piece p.taken.piece a.pulled p.taken.pulled;
    whole = all_bytes limits old mid before now h p.taken.piece a
        ∙ ap (λ (k : log.Head). with_feed (head_line k) ++ (mid.rest ++ p.taken.piece)) (sym p.heads)
        ∙ ap (λ (w : List ℕ). with_feed (head_line (head_of r)) ++ w) p.taken.whole
        ∙ sym (append_assoc (with_feed (head_line (head_of r))) (flat_map with_feed (parts_of r)) new.rest);
  };
  fits = record { range = ap (in_range limits) p.heads ∙ a.range; text = p.text };
}

-- the line of the head, as it stood in front
pub head_front : (limits : Bounds) (rest near : List ℕ) (end : ℕ) (h : Head) → end < length rest → HasLine rest (take end rest) (drop (end + 1) rest) → near ≡ rest → IsHead limits (take end near) h → take (end + 1) rest ≡ with_feed (head_line (head_view h))
head_front limits rest near end h below line same head = line_front rest end below line ∙ ap with_feed (ap (take end) (sym same) ∙ head.is)
