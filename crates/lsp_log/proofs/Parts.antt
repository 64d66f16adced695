-- The parts of a record at the front of a tape.
use Rattle.std.proofs.Common.{◌≡◌, ℕ, ℤ, ◌<◌, ◌≤◌, true, List, [], ◌∷◌, ◌++◌, length, Option, Some, Result, Ok, Err, refl, sym, ap, subst, ◌∙◌, append_assoc, append-nil}
use Rattle.std.specs.Prelude.{IsUtf8, IfErr}
use Rattle.std.specs.List.{flat_map}
use Rattle.lsp_frame.specs.Bounds.{Bounds}
use Rattle.lsp_frame.specs.Told.{Told}
use Rattle.lsp_log.specs.Log as log
use Rattle.lsp_log.specs.Log.{Flaw, cut_short, bad_end, not_utf8, parts_flaw, with_feed, head_line, shown, shown_head}
use Rattle.lsp_log.specs.Tape.{Held, Taken, Wants, Misses, PartAnswer}
use Rattle.lsp_log.specs.Room.{AwaitsPart}
use Rattle.lsp_log.specs.Stops.{Ends, Refused, StopAnswer, PartsLack, PartsBreak, HasParts, TwoParts, TextAnswer, PartsAnswer, FoundAnswer, is_flaw}
use Rattle.lsp_log.specs.declared.record.Record.{Record}
use Rattle.lsp_log.specs.declared.stop.Stop.{Stop}
use Rattle.lsp_log.specs.declared.stop.Stop.TheVariants.{End, Memory, Read, Short, Text}
use Rattle.lsp_log.proofs.LogLemmas.{one_part}
use Rattle.lsp_log.proofs.PartTests.{part_lacks, part_ends_badly, little_first, little_second}
use Rattle.lsp_log.proofs.Tapes.{pulled_then, failed_then, taken_both}
use Rattle.lsp_log.proofs.AtFront.{AtParts, stop_at_parts, found_record}
use Rattle.lsp_log.specs.Records.{record_view}

-- behind a whole part
behind_part : (old mid : Held) (before now : Told) (front more : List ℕ) (t : Taken old mid before now (with_feed front)) → old.rest ++ (t.piece ++ more) ≡ with_feed front ++ (mid.rest ++ more)
behind_part old mid before now front more t = sym (append_assoc old.rest t.piece more) ∙ ap (λ (w : List ℕ). w ++ more) t.whole ∙ append_assoc (with_feed front) mid.rest more

flaw_behind : (old mid : Held) (before now : Told) (front more : List ℕ) (first second : ℕ) (flaw : Flaw) (t : Taken old mid before now (with_feed front)) → length front ≡ first → parts_flaw (second ∷ []) (mid.rest ++ more) ≡ Some flaw
    → parts_flaw (first ∷ second ∷ []) (old.rest ++ (t.piece ++ more)) ≡ Some flaw
flaw_behind old mid before now front more first second flaw t len is =
    ap (parts_flaw (first ∷ second ∷ [])) (behind_part old mid before now front more t)
    ∙ ap (λ (n : ℕ). parts_flaw (n ∷ second ∷ []) (with_feed front ++ (mid.rest ++ more))) (sym len)
    ∙ one_part front (second ∷ []) (mid.rest ++ more)
    ∙ is

first_short : (old new : Held) (before after : Told) (P : List ℕ → Option Flaw → Type 0) (len : ℕ) (w : Wants old new before after len) → P (old.rest ++ w.piece) (Some cut_short) → Ends P old new before after (Some cut_short)
first_short old new before after P len w holds = record { piece = w.piece; pulled = w.pulled; holds = holds; over = λ _. w.over }

first_misses : (old new : Held) (before after : Told) (P : List ℕ → Option Flaw → Type 0) (len : ℕ) (m : Misses old new before after len) → P (old.rest ++ m.piece) (Some bad_end) → Ends P old new before after (Some bad_end)
first_misses old new before after P len m holds = record { piece = m.piece; pulled = m.pulled; holds = holds; over = λ h. absurd cc }

-- ---- memory is refused

pub refused_first : (old new : Held) (before after : Told) (n : ℕ) (ns : List ℕ) → Taken old new before after [] → 0 < n → Refused (AwaitsPart (n ∷ ns)) old new before after
refused_first old new before after n ns t some = record {
  front = [];
  awaits = record { parts = []; next = n; others = ns; are = refl; some = some; whole = refl };
  taken = t;
}

refused_second : (old mid new : Held) (before now after : Told) (front : List ℕ) (first second : ℕ) → Taken old mid before now (with_feed front) → length front ≡ first → Taken mid new now after [] → 0 < second
    → Refused (AwaitsPart (first ∷ second ∷ [])) old new before after
refused_second old mid new before now after front first second t len u some = record {
  front = with_feed front ++ [];
  awaits = record { parts = front ∷ []; next = second; others = []; are = ap (λ (n : ℕ). n ∷ second ∷ []) (sym len); some = some; whole = refl };
  taken = taken_both old mid new before now after (with_feed front) [] t u;
}

-- ---- one part, and two

-- the first of the parts of these lengths, where this is said of what is missing
pub part_stops : (old new : Held) (before after : Told) (P : List ℕ → Option Flaw → Type 0) (n : ℕ) (ns : List ℕ) → ((bytes : List ℕ) → PartsLack (n ∷ ns) bytes (Some cut_short) → P bytes (Some cut_short))
    → ((bytes : List ℕ) → PartsLack (n ∷ ns) bytes (Some bad_end) → P bytes (Some bad_end)) → (stop : Stop) → PartAnswer old new before after n (Err stop) → StopAnswer P (AwaitsPart (n ∷ ns)) old new before after stop
part_stops old new before after P n ns short other Short w = first_short old new before after P n w (short (old.rest ++ w.piece) (part_lacks n ns (old.rest ++ w.piece) w.less))
part_stops old new before after P n ns short other End m = first_misses old new before after P n m (other (old.rest ++ m.piece) (part_ends_badly n ns (old.rest ++ m.piece) m.more m.other, little_first n ns (old.rest ++ m.piece) m.near))
part_stops old new before after P n ns short other Read f = f
part_stops old new before after P n ns short other Memory r = refused_first old new before after n ns r.0 r.1
part_stops old new before after P n ns short other stop none = absurd none

pub second_stops : (old mid new : Held) (before now after : Told) (front : List ℕ) (first second : ℕ) (v : ℤ) (stop : Stop) → Taken old mid before now (with_feed front) → length front ≡ first → PartAnswer mid new now after second (Err stop)
    → StopAnswer (PartsBreak (shown_head v first second)) (AwaitsPart (first ∷ second ∷ [])) old new before after stop
second_stops old mid new before now after front first second v Short t len w = record {
  piece = t.piece ++ w.piece;
  pulled = pulled_then old.left mid.left new.left before now after t.piece w.piece t.pulled w.pulled;
  holds = flaw_behind old mid before now front w.piece first second cut_short t len (part_lacks second [] (mid.rest ++ w.piece) w.less);
  over = λ _. w.over;
}
second_stops old mid new before now after front first second v End t len m = record {
  piece = t.piece ++ m.piece;
  pulled = pulled_then old.left mid.left new.left before now after t.piece m.piece t.pulled m.pulled;
  holds = (
    flaw_behind old mid before now front m.piece first second bad_end t len (part_ends_badly second [] (mid.rest ++ m.piece) m.more m.other),
    little_second front (mid.rest ++ m.piece) (old.rest ++ (t.piece ++ m.piece)) first second len m.near (behind_part old mid before now front m.piece t),
  );
  over = λ h. absurd cc;
}
second_stops old mid new before now after front first second v Read t len f = failed_then old.left mid.left before now after t.piece t.pulled f
second_stops old mid new before now after front first second v Memory t len r = refused_second old mid new before now after front first second t len r.0 r.1
second_stops old mid new before now after front first second v stop t len none = absurd none

pub two_taken : (old mid new : Held) (before now after : Told) (front back : List ℕ) (first second : ℕ) → Taken old mid before now (with_feed front) → length front ≡ first → Taken mid new now after (with_feed back) → length back ≡ second
    → TwoParts old new before after first second front back
two_taken old mid new before now after front back first second t len u more = record {
  taken = taken_both old mid new before now after (with_feed front) (with_feed back) t u;
  front_len = len;
  back_len = more;
}

-- ---- the texts of a snapshot

both_parts : (front back rest : List ℕ) → (with_feed front ++ with_feed back) ++ rest ≡ flat_map with_feed (front ∷ back ∷ []) ++ rest
both_parts front back rest = ap (λ (w : List ℕ). (with_feed front ++ w) ++ rest) (sym (append-nil (with_feed back)))

no_text : (old new : Held) (before after : Told) (v : ℤ) (first second : ℕ) (front back : List ℕ) → TwoParts old new before after first second front back → length new.rest ≤ 64 → (IsUtf8 front × IsUtf8 back → ⊥) → Ends (PartsBreak (shown_head v first second)) old new before after (Some not_utf8)
no_text old new before after v first second front back two short none = record {
  piece = two.taken.piece;
  pulled = two.taken.pulled;
  holds = (shown v front back, new.rest, cc (two.front_len, two.back_len), two.taken.whole ∙ both_parts front back new.rest, none, short);
  over = λ h. absurd cc;
}

pub uri_stops : (old new : Held) (before after : Told) (v : ℤ) (first second : ℕ) (front back : List ℕ) (stop : Stop) → TwoParts old new before after first second front back → length new.rest ≤ 64 → TextAnswer front (Err stop) → StopAnswer (PartsBreak (shown_head v first second)) (AwaitsPart (first ∷ second ∷ [])) old new before after stop
uri_stops old new before after v first second front back Text two short bad = no_text old new before after v first second front back two short (λ t. bad t.0)
uri_stops old new before after v first second front back stop two short bad = absurd bad

pub text_stops : (old new : Held) (before after : Told) (v : ℤ) (first second : ℕ) (front back : List ℕ) (stop : Stop) → TwoParts old new before after first second front back → length new.rest ≤ 64 → TextAnswer back (Err stop) → StopAnswer (PartsBreak (shown_head v first second)) (AwaitsPart (first ∷ second ∷ [])) old new before after stop
text_stops old new before after v first second front back Text two short bad = no_text old new before after v first second front back two short (λ t. bad t.1)
text_stops old new before after v first second front back stop two short bad = absurd bad

pub snapshot_found : (old new : Held) (before after : Told) (v w : ℤ) (first second : ℕ) (front back uri text : List ℕ) → TwoParts old new before after first second front back → uri ≡ front → text ≡ back → IsUtf8 uri → IsUtf8 text → w ≡ v
    → HasParts old new before after (shown_head v first second) (shown w uri text)
snapshot_found old new before after v w first second front back uri text two is_uri is_text one other version = record {
  taken = record {
    piece = two.taken.piece;
    pulled = two.taken.pulled;
    whole = two.taken.whole ∙ both_parts front back new.rest ∙ ap (λ (w : List ℕ). flat_map with_feed (w ∷ back ∷ []) ++ new.rest) (sym is_uri) ∙ ap (λ (w : List ℕ). flat_map with_feed (uri ∷ w ∷ []) ++ new.rest) (sym is_text);
  };
  heads = cc (version, ap length is_uri, ap length is_text, two.front_len, two.back_len);
  text = (one, other);
}

-- ---- the parts behind a first line

pub parts_found : (limits : Bounds) (old mid new : Held) (before now after : Told) (h : log.Head) (result : Result Record Stop) (front : List ℕ) → AtParts limits old mid before now h → front ≡ with_feed (head_line h) → IfErr result (λ stop. is_flaw stop ≡ true → new.rest ≡ front) → PartsAnswer mid new now after h result → FoundAnswer limits old new before after result
parts_found limits old mid new before now after h (Ok r) front a is line p = found_record limits old mid new before now after h (record_view r) a p
parts_found limits old mid new before now after h (Err stop) front a is line p = stop_at_parts limits old mid new before now after h stop a (λ flaw. line flaw ∙ is) p
