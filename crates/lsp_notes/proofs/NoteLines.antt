-- Each note is a line of its own, which begins with `note `.
use Rattle.std.proofs.Common.{◌≡◌, ◌<◌, ◌+◌, ◌/◌, ◌%◌, ℕ, zero, suc, ℤ, Bool, true, false, ◌&&◌}
use Rattle.std.proofs.Common.{◌==◌, not, List, [], ◌∷◌, ◌++◌, map, drop, Option, Some, None, inl}
use Rattle.std.proofs.Common.{inr, refl, sym, ap, ◌∙◌, arith, append-nil, append_assoc}
use Rattle.std.specs.Prelude.{codes, decimal, pos, negsuc, option_and_then, option_map}
use Rattle.std.specs.Prelude.{option_to_list, nat_lt, if◌then◌else◌, take}
use Rattle.std.specs.Fmt.{digit_glyph, digits, digits_onto, signed_decimal}
use Rattle.std.specs.List.{cons_option, filter_map, flat_map}
use Rattle.std.proofs.lemmas.Bool.{and_parts, cases_lt, or_from, or_parts, true≢false}
use Rattle.std.proofs.lemmas.Bool.Decides.{eqb_tells}
use Rattle.json.specs.Print.{escape, escape_byte, quoted}
use Rattle.json.proofs.Printed.Strings.{escape_byte_plain}
use Rattle.lsp_facts.specs.Fact.{Fact, place_words}
use Rattle.lsp_trail.specs.Common.{each_from, EventPlace, line, Who}
use Rattle.lsp_verdict.specs.Report.{who_name}
use Rattle.lsp_verdict.specs.declared.verdict.Who.TheVariants as who
use Rattle.lsp_notes.specs.AllNotes.{AreNotes, IsNote, beyond, has_feed}
use Rattle.lsp_notes.specs.DocumentNotes.{DocumentNote, document_line, first_notes, if_first}
use Rattle.lsp_notes.specs.ServerEdits.{flat_from}

-- ---- bytes without a LF

abbrev pub IsWord : List ℕ → Type 0
IsWord bytes = has_feed bytes ≡ false

pub joined : (xs ys : List ℕ) → IsWord xs → IsWord ys → IsWord (xs ++ ys)
joined [] ys a b = b
joined (x ∷ xs) ys a b =
    let p = or_parts (x == 10) (has_feed xs) a in
    or_from (x == 10) (has_feed (xs ++ ys)) p.0 (joined xs ys p.1 b)

no_feed : (x : ℕ) → (x ≡ 10 → ⊥) → (x == 10) ≡ false
no_feed x h = elim (eqb_tells x 10) [ inl p ↦ absurd (h p.1) | inr p ↦ p.0 ]

first_then : (x : ℕ) (xs : List ℕ) → (x ≡ 10 → ⊥) → IsWord xs → IsWord (x ∷ xs)
first_then x xs h w = or_from (x == 10) (has_feed xs) (no_feed x h) w

either : (t : Bool) (xs ys : List ℕ) → IsWord xs → IsWord ys → IsWord (if t then xs else ys)
either true xs ys a b = a
either false xs ys a b = b

-- numbers
digit_apart : (d : ℕ) → digit_glyph false d ≡ 10 → ⊥
digit_apart d = apart (nat_lt d 10)
  where
    apart : (t : Bool) → (if t then 48 + d else (if false then 55 + d else 87 + d)) ≡ 10 → ⊥
    apart true e = let same : 48 + d ≡ 10 = e in omega (arith, same)
    apart false e = let same : 87 + d ≡ 10 = e in omega (arith, same)

digits_joined : (k n : ℕ) (acc : List ℕ) → IsWord acc → IsWord (digits_onto k 10 false n acc)
digits_joined zero n acc w = w
digits_joined (suc k) n acc w =
    let more : IsWord (digit_glyph false (n % 10) ∷ acc) =
    first_then (digit_glyph false (n % 10)) acc (digit_apart (n % 10)) w in
    either (n / 10 == 0) (digit_glyph false (n % 10) ∷ acc)
    (digits_onto k 10 false (n / 10) (digit_glyph false (n % 10) ∷ acc)) more
    (digits_joined k (n / 10) (digit_glyph false (n % 10) ∷ acc) more)

pub decimal_word : (n : ℕ) → IsWord (decimal n)
unfolding digits
decimal_word n = digits_joined 64 n [] refl

pub signed_word : (v : ℤ) → IsWord (signed_decimal v)
signed_word (pos n) = decimal_word n
signed_word (negsuc n) = decimal_word (suc n)

-- JSON strings
abbrev escapes_below : ℕ → Bool
escapes_below zero = true
escapes_below (suc n) = not (has_feed (escape_byte n)) && escapes_below n

not_true : (b : Bool) → not b ≡ true → b ≡ false
not_true true h = absurd (true≢false (sym h))
not_true false h = refl

escape_below : (n : ℕ) → escapes_below n ≡ true → (x : ℕ) → x < n → IsWord (escape_byte x)
escape_below zero e x h = absurd (omega arith)
escape_below (suc n) e x h =
    let p = and_parts (not (has_feed (escape_byte n))) (escapes_below n) e in
    elim (cases_lt x n) [
      | inl less ↦ escape_below n p.1 x less
      | inr more ↦ let same : n ≡ x = omega arith in
          ap (λ y. has_feed (escape_byte y)) (sym same) ∙ not_true (has_feed (escape_byte n)) p.0
    ]

first_escapes : escapes_below 93 ≡ true
unfolding escape_byte
first_escapes = refl

byte_word : (x : ℕ) → IsWord (escape_byte x)
byte_word x =
    elim (cases_lt x 93) [
      | inl less ↦ escape_below 93 first_escapes x less
      | inr more ↦
          ap has_feed (escape_byte_plain x (λ e. omega arith) (λ e. omega arith) (omega arith))
          ∙ first_then x [] (λ e. omega arith) refl
    ]

pub flat_word : {X : Type 0} (f : X → List ℕ) → ((x : X) → IsWord (f x)) → (xs : List X)
    → IsWord (flat_map f xs)
flat_word f each [] = refl
flat_word f each (x ∷ xs) = joined (f x) (flat_map f xs) (each x) (flat_word f each xs)

pub quoted_word : (s : List ℕ) → IsWord (quoted s)
quoted_word s = joined (escape s) (34 ∷ []) (flat_word escape_byte byte_word s) refl

-- ---- lines

abbrev pub AreWords : List (List ℕ) → Type 0
AreWords [] = Unit {0}
AreWords (w ∷ ws) = IsWord w × AreWords ws

-- words, each with a space before it
abbrev spaced_all : List (List ℕ) → List ℕ
spaced_all [] = []
spaced_all (w ∷ ws) = 32 ∷ (w ++ spaced_all ws)

spaced_word : (ws : List (List ℕ)) → AreWords ws → IsWord (spaced_all ws)
spaced_word [] c = refl
spaced_word (w ∷ ws) c = joined w (spaced_all ws) c.0 (spaced_word ws c.1)

line_is : (w : List ℕ) (ws : List (List ℕ)) → line (w ∷ ws) ≡ (w ++ spaced_all ws) ++ 10 ∷ []
line_is w [] = ap (λ (x : List ℕ). x ++ 10 ∷ []) (sym (append-nil w))
line_is w (x ∷ ws) =
    ap (λ (l : List ℕ). w ++ 32 ∷ l) (line_is x ws)
    ∙ sym (append_assoc w (32 ∷ (x ++ spaced_all ws)) (10 ∷ []))

-- the words of a note begin so
pub record BeginsNote (words : List ℕ) : Type 0 where
  pub rest : List ℕ
  pub is : words ≡ codes "note " ++ rest
  pub one_line : IsWord rest

pub note_line : (w : List ℕ) (ws : List (List ℕ)) → BeginsNote w → AreWords ws → IsNote (line (w ∷ ws))
note_line w ws b c = record {
  words = b.rest ++ spaced_all ws;
  is =
      line_is w ws ∙ ap (λ (x : List ℕ). (x ++ spaced_all ws) ++ 10 ∷ []) b.is
      ∙ ap (λ (x : List ℕ). x ++ 10 ∷ []) (append_assoc (codes "note ") b.rest (spaced_all ws));
  one_line = joined b.rest (spaced_all ws) b.one_line (spaced_word ws c);
}

who_word : (w : Who) → IsWord (who_name w)
who_word who.Editor = refl
who_word who.Server = refl
who_word who.Snapshot = refl

pub place_are : (p : EventPlace) → AreWords (place_words p)
place_are p = (refl, (decimal_word p.event, (who_word p.who, (decimal_word p.number, tt))))

pub begins : (rest : List ℕ) → IsWord rest → BeginsNote (codes "note " ++ rest)
begins rest w = record { rest = rest; is = refl; one_line = w }

-- ---- lists of notes

notes_append : (xs ys : List Fact) → AreNotes xs → AreNotes ys → AreNotes (xs ++ ys)
notes_append [] ys a b = b
notes_append (x ∷ xs) ys a b = (a.0, notes_append xs ys a.1 b)

notes_drop : (n : ℕ) (xs : List Fact) → AreNotes xs → AreNotes (drop n xs)
notes_drop zero xs a = a
notes_drop (suc n) [] a = tt
notes_drop (suc n) (x ∷ xs) a = notes_drop n xs a.1

pub notes_map : {X : Type 0} (f : X → Fact) → ((x : X) → IsNote (f x)) → (xs : List X)
    → AreNotes (map f xs)
notes_map f each [] = tt
notes_map f each (x ∷ xs) = (each x, notes_map f each xs)

pub notes_of_option : {X : Type 0} (f : X → Fact) → ((x : X) → IsNote (f x)) → (o : Option X)
    → AreNotes (option_to_list (option_map f o))
notes_of_option f each None = tt
notes_of_option f each (Some x) = (each x, tt)

abbrev pub AreAllNotes : List (List Fact) → Type 0
AreAllNotes [] = Unit {0}
AreAllNotes (xs ∷ xss) = AreNotes xs × AreAllNotes xss

pub notes_beyond : (ns : List ℕ) (xss : List (List Fact)) → AreAllNotes xss → AreNotes (beyond ns xss)
notes_beyond (n ∷ ns) (xs ∷ xss) a =
    notes_append (drop n xs) (beyond ns xss) (notes_drop n xs a.0) (notes_beyond ns xss a.1)
notes_beyond _ _ a = tt

-- ---- notes on documents

abbrev pub IsDue : DocumentNote → Type 0
IsDue n = BeginsNote n.words

abbrev pub AreDue : List DocumentNote → Type 0
AreDue [] = Unit {0}
AreDue (n ∷ ns) = IsDue n × AreDue ns

-- what an option holds is so
abbrev pub Holds : {X : Type 0} → (X → Type 0) → Option X → Type 0
Holds P None = Unit {0}
Holds P (Some x) = P x

due_append : (xs ys : List DocumentNote) → AreDue xs → AreDue ys → AreDue (xs ++ ys)
due_append [] ys a b = b
due_append (x ∷ xs) ys a b = (a.0, due_append xs ys a.1 b)

due_cons : (o : Option DocumentNote) (ns : List DocumentNote) → Holds IsDue o → AreDue ns
    → AreDue (cons_option o ns)
due_cons None ns h a = a
due_cons (Some n) ns h a = (h, a)

pub holds_unless : {X : Type 0} (P : X → Type 0) (t : Bool) (o : Option X) → Holds P o
    → Holds P (if t then None else o)
holds_unless P true o h = tt
holds_unless P false o h = h

pub holds_if : {X : Type 0} (P : X → Type 0) (t : Bool) (x : X) → P x
    → Holds P (if t then Some x else None)
holds_if P true x h = h
holds_if P false x h = tt

pub holds_map : {X Y : Type 0} (Q : X → Type 0) (P : Y → Type 0) (f : X → Y) (o : Option X)
    → Holds Q o → ((x : X) → Q x → P (f x)) → Holds P (option_map f o)
holds_map Q P f None h each = tt
holds_map Q P f (Some x) h each = each x h

pub holds_each : {X Y : Type 0} (P : Y → Type 0) (f : X → Y) (o : Option X) → ((x : X) → P (f x))
    → Holds P (option_map f o)
holds_each P f None each = tt
holds_each P f (Some x) each = each x

pub holds_then : {X Y : Type 0} (P : Y → Type 0) (f : X → Option Y) (o : Option X)
    → ((x : X) → Holds P (f x)) → Holds P (option_and_then f o)
holds_then P f None each = tt
holds_then P f (Some x) each = each x

due_firsts : (before ns : List DocumentNote) → AreDue ns → AreDue (each_from if_first before ns)
due_firsts before [] a = tt
due_firsts before (n ∷ ns) a =
    due_cons (if_first before n) (each_from if_first (before ++ n ∷ []) ns)
    (holds_unless IsDue _ (Some n) a.0) (due_firsts (before ++ n ∷ []) ns a.1)

due_take : (k : ℕ) (ns : List DocumentNote) → AreDue ns → AreDue (take k ns)
due_take (suc k) (n ∷ ns) a = (a.0, due_take k ns a.1)
due_take _ _ a = tt

pub due_first : (ns : List DocumentNote) → AreDue ns → AreDue (first_notes ns)
due_first ns a = due_take 64 (each_from if_first [] ns) (due_firsts [] ns a)

pub due_each : {X : Type 0} (f : List X → X → Option DocumentNote)
    → ((before : List X) (x : X) → Holds IsDue (f before x)) → (before xs : List X)
    → AreDue (each_from f before xs)
due_each f each before [] = tt
due_each f each before (x ∷ xs) =
    due_cons (f before x) (each_from f (before ++ x ∷ []) xs) (each before x)
    (due_each f each (before ++ x ∷ []) xs)

pub due_filter : {X : Type 0} (f : X → Option DocumentNote) → ((x : X) → Holds IsDue (f x))
    → (xs : List X) → AreDue (filter_map f xs)
due_filter f each [] = tt
due_filter f each (x ∷ xs) =
    due_cons (f x) (filter_map f xs) (each x) (due_filter f each xs)

pub due_flat : {X : Type 0} (f : List X → X → List DocumentNote)
    → ((before : List X) (x : X) → AreDue (f before x)) → (before xs : List X)
    → AreDue (flat_from f before xs)
due_flat f each before [] = tt
due_flat f each before (x ∷ xs) =
    due_append (f before x) (flat_from f (before ++ x ∷ []) xs) (each before x)
    (due_flat f each (before ++ x ∷ []) xs)

pub due_lines : (ns : List DocumentNote) → AreDue ns → AreNotes (map document_line ns)
due_lines [] a = tt
due_lines (n ∷ ns) a =
    (note_line n.words (place_words n.on.place) a.0 (place_are n.on.place), due_lines ns a.1)
