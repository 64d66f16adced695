-- Each list of bytes has a reading: what stands in front of it is a frame, a fault, or the
-- beginning of a frame.
use Rattle.std.proofs.Common.{◌≡◌, ℕ, zero, suc, ◌+◌, ◌-◌, ◌<◌, ◌≤◌, Bool, true, false, List, [], ◌∷◌, ◌++◌, length, take, drop, Option, Some, None, Result, Ok, Err, refl, sym, ap, ◌∙◌, append_assoc, arith, inl, inr, ◌⊎◌}
use Rattle.std.specs.Prelude.{nat_le, if◌then◌else◌}
use Rattle.std.specs.List.{flat_map, prefix_len}
use Rattle.std.specs.Str.{bytes_eq}
use Rattle.std.specs.Str.Parse.{digits_value}
use Rattle.std.proofs.lemmas.List.{length-append, take-append-drop, take_at, nil_from_length, length-take, length-drop}
use Rattle.std.proofs.lemmas.List.Sums.{prefix_len-le-length}
use Rattle.std.proofs.lemmas.Bool.{cases_lt, cases_eq, cases_Bool}
use Rattle.std.proofs.lemmas.Bool.Decides.{nat_tests}
use Rattle.std.proofs.lemmas.Slice.Eq.{bytes_eq-Decides}
use Rattle.lsp_frame.specs.Bounds.{Bounds}
use Rattle.lsp_frame.specs.Header.{blank_line, line_end, Field, IsField, line, is_token, is_text, Spells, is_number, content_length, length_and_charset, fits_charsets, lengths, said_by, Says}
use Rattle.lsp_frame.specs.Frame.{HoldsNoBlank, Begins, Breaks, IsStream}
use Rattle.lsp_frame.specs.Start.{StartsWithHeader, StartsUnfinished}
use Rattle.lsp_frame.specs.Reading.{NoFieldBegins}
use Rattle.lsp_frame.proofs.Fields.{same_field, parts_of, cons_lines, no_colon, no_return, no_feed, field_found}
use Rattle.lsp_frame.proofs.Frames.{breaks_no_frame}
use Rattle.lsp_frame.proofs.Starts.{Found, front_is, unfinished_header, too_long, bad_header, unfinished_content, front_of}

-- ---- where CR LF CR LF stands first

same_or_not : (xs ys : List ℕ) → (xs ≡ ys) ⊎ (xs ≡ ys → ⊥)
same_or_not xs ys = elim (cases_Bool (bytes_eq xs ys)) [
  | inl same ↦ inl ((bytes_eq-Decides xs ys).0 same)
  | inr other ↦ inr (λ e. absurd (cc ((bytes_eq-Decides xs ys).1 e, other)))
]

begins_blank : (w : List ℕ) → ((back : List ℕ) × (w ≡ blank_line ++ back)) ⊎ ((back : List ℕ) → w ≡ blank_line ++ back → ⊥)
begins_blank w = elim (same_or_not (take 4 w) blank_line) [
  | inl same ↦ inl (drop 4 w, sym (take-append-drop 4 w) ∙ ap (λ (v : List ℕ). v ++ drop 4 w) same)
  | inr other ↦ inr (λ back e. other (ap (take 4) e ∙ take_at blank_line back 4 refl))
]

pub record FirstBlank (w : List ℕ) : Type 0 where
  pub front : List ℕ
  pub back : List ℕ
  pub whole : w ≡ front ++ (blank_line ++ back)
  pub least : (f b : List ℕ) → w ≡ f ++ (blank_line ++ b) → length front ≤ length f

no_blank_in_tail : (x : ℕ) (w : List ℕ) → ((back : List ℕ) → x ∷ w ≡ blank_line ++ back → ⊥) → HoldsNoBlank w → (front back : List ℕ) → x ∷ w ≡ front ++ (blank_line ++ back) → ⊥
no_blank_in_tail x w here there [] back e = here back e
no_blank_in_tail x w here there (y ∷ front) back e = there front back (cc e)

least_in_tail : (x : ℕ) (w : List ℕ) → ((back : List ℕ) → x ∷ w ≡ blank_line ++ back → ⊥) → (first : FirstBlank w) → (f b : List ℕ) → x ∷ w ≡ f ++ (blank_line ++ b) → length (x ∷ first.front) ≤ length f
least_in_tail x w here first [] b e = absurd (here b e)
least_in_tail x w here first (y ∷ f) b e = let shorter = first.least f b (cc e) in omega arith

find_blank : (w : List ℕ) → FirstBlank w ⊎ HoldsNoBlank w
find_blank [] = inr (λ front back e. absurd (omega (arith, ap length e, length-append front (blank_line ++ back))))
find_blank (x ∷ w) = elim (begins_blank (x ∷ w)) [
  | inl at ↦ inl (record { front = []; back = at.0; whole = at.1; least = λ f b e. omega arith })
  | inr here ↦ elim (find_blank w) [
    | inl first ↦ inl (record { front = x ∷ first.front; back = first.back; whole = ap (λ (v : List ℕ). x ∷ v) first.whole; least = least_in_tail x w here first })
    | inr none ↦ inr (no_blank_in_tail x w here none)
  ]
]

-- the header part that the first CR LF CR LF ends
header_found : (limits : Bounds) (w : List ℕ) (first : FirstBlank w) → length first.front + 4 ≤ limits.header → Found limits w (length first.front + 4)
header_found limits w first short =
    let n = length first.front + 4 in
    let header = first.front ++ blank_line in
    let cut : w ≡ header ++ first.back = first.whole ∙ sym (append_assoc first.front blank_line first.back) in
    let len : length header ≡ n = omega (arith, length-append first.front blank_line) in
    let same : take n w ≡ header = ap (take n) cut ∙ take_at header first.back n len in
    record {
      fits = omega (arith, ap length cut, length-append header first.back, len);
      part = record {
        ends = (first.front, same);
        first = λ f b e.
            let there = first.least f (b ++ first.back) (cut ∙ ap (λ (v : List ℕ). v ++ first.back) (sym same ∙ e) ∙ append_assoc f (blank_line ++ b) first.back) in
            nil_from_length b (omega (arith, there, len, ap length (sym same ∙ e), length-append f (blank_line ++ b)));
        short = omega (arith, ap length same, len);
      };
    }

no_blank_near : (limits : Bounds) (w : List ℕ) → HoldsNoBlank w → HoldsNoBlank (take limits.header w)
no_blank_near limits w none front back e =
    none front (back ++ drop limits.header w) (front_is limits.header w ∙ ap (λ (v : List ℕ). v ++ drop limits.header w) e ∙ append_assoc front (blank_line ++ back) (drop limits.header w))

no_blank_before : (limits : Bounds) (w : List ℕ) (first : FirstBlank w) → limits.header < length first.front + 4 → HoldsNoBlank (take limits.header w)
no_blank_before limits w first long front back e =
    let there = first.least front (back ++ drop limits.header w) (front_is limits.header w ∙ ap (λ (v : List ℕ). v ++ drop limits.header w) e ∙ append_assoc front (blank_line ++ back) (drop limits.header w)) in
    absurd (omega (arith, there, ap length e, length-append front (blank_line ++ back), length-take limits.header w))

-- ---- what a header part says

pub head_or_not : (byte : ℕ) (w : List ℕ) → ((rest : List ℕ) × (w ≡ byte ∷ rest)) ⊎ ((rest : List ℕ) → w ≡ byte ∷ rest → ⊥)
head_or_not byte [] = inr (λ rest e. absurd cc)
head_or_not byte (x ∷ w) = elim (cases_eq x byte) [
  | inl same ↦ inl (w, ap (λ (b : ℕ). b ∷ w) same)
  | inr other ↦ inr (λ rest e. other (cc e))
]

abbrev pub FieldOrNot : List ℕ → Type 0
FieldOrNot bytes = ((f : Field) × (rest : List ℕ) × IsField f × (bytes ≡ line f ++ rest)) ⊎ NoFieldBegins bytes

no_name : (bytes : List ℕ) → prefix_len is_token bytes ≡ 0 → NoFieldBegins bytes
no_name bytes none f rest is e =
    let p = parts_of bytes f rest is e in
    absurd (omega (arith, is.named, p.name_len))

field_or_not : (bytes : List ℕ) → FieldOrNot bytes
field_or_not bytes =
    let n = prefix_len is_token bytes in
    elim (cases_lt 0 n) [
      | inr none ↦ inr (no_name bytes (omega arith))
      | inl some ↦ elim (head_or_not 58 (drop n bytes)) [
        | inr none ↦ inr (no_colon bytes (drop n bytes) n refl refl none)
        | inl colon ↦
            let value_on = colon.0 in
            let m = prefix_len is_text value_on in
            elim (head_or_not 13 (drop m value_on)) [
              | inr none ↦ inr (no_return bytes (drop n bytes) value_on (drop m value_on) n m refl refl colon.1 refl refl none)
              | inl return ↦ elim (head_or_not 10 return.0) [
                | inr none ↦ inr (no_feed bytes (drop n bytes) value_on (drop m value_on) return.0 n m refl refl colon.1 refl refl return.1 none)
                | inl feed ↦
                    let named : 0 < length (take n bytes) = omega (arith, length-take n bytes, prefix_len-le-length is_token bytes) in
                    let found = field_found bytes (take n bytes) (drop n bytes) value_on (take m value_on) (drop m value_on) return.0 feed.0 n m refl refl refl named colon.1 refl refl refl return.1 feed.1 in
                    inl (record { name = take n bytes; value = take m value_on }, feed.0, found.0, found.1)
              ]
            ]
      ]
    ]

line_some : (f : Field) → IsField f → 0 < length (line f)
line_some f is = omega (arith, is.named, length-append f.name (58 ∷ (f.value ++ line_end)))

abbrev pub SpelledOrNot : List ℕ → Type 0
SpelledOrNot rest = ((fields : List Field) × Spells rest fields) ⊎ ((fields : List Field) → Spells rest fields → ⊥)

spelled_more : (f : Field) (rest after : List ℕ) → IsField f → rest ≡ line f ++ after → (fields : List Field) → Spells after fields → Spells rest (f ∷ fields)
spelled_more f rest after is e fields spelled = record {
  lines = e ∙ ap (λ (w : List ℕ). line f ++ w) spelled.lines ∙ sym (cons_lines f fields);
  each = (is, spelled.each);
}

not_spelled_more : (f : Field) (rest after : List ℕ) → IsField f → rest ≡ line f ++ after → (rest ≡ line_end → ⊥) → ((fields : List Field) → Spells after fields → ⊥) → (fields : List Field) → Spells rest fields → ⊥
not_spelled_more f rest after is e goes_on none [] spelled = goes_on spelled.lines
not_spelled_more f rest after is e goes_on none (g ∷ fields) spelled =
    let h = same_field f g after (flat_map line fields ++ line_end) is spelled.each.0 (sym e ∙ spelled.lines ∙ cons_lines g fields) in
    none fields (record { lines = h.1; each = spelled.each.1 })

not_spelled : (rest : List ℕ) → (rest ≡ line_end → ⊥) → NoFieldBegins rest → (fields : List Field) → Spells rest fields → ⊥
not_spelled rest goes_on none [] spelled = goes_on spelled.lines
not_spelled rest goes_on none (g ∷ fields) spelled = none g (flat_map line fields ++ line_end) spelled.each.0 (spelled.lines ∙ cons_lines g fields)

spelled_or_not : (n : ℕ) (rest : List ℕ) → length rest ≤ n → SpelledOrNot rest
spelled_or_not zero rest short = inr (λ fields spelled. absurd (omega (arith, ap length spelled.lines, length-append (flat_map line fields) line_end)))
spelled_or_not (suc n) rest short = elim (same_or_not rest line_end) [
  | inl end ↦ inl ([], record { lines = end; each = tt })
  | inr goes_on ↦ elim (field_or_not rest) [
    | inr none ↦ inr (not_spelled rest goes_on none)
    | inl found ↦
        let some = line_some found.0 found.2 in
        elim (spelled_or_not n found.1 (omega (arith, some, ap length found.3, length-append (line found.0) found.1))) [
          | inl fields ↦ inl (found.0 ∷ fields.0, spelled_more found.0 rest found.1 found.2 found.3 fields.0 fields.1)
          | inr none ↦ inr (not_spelled_more found.0 rest found.1 found.2 found.3 goes_on none)
        ]
  ]
]

pub says_some : (limits : Bounds) (header : List ℕ) → (said : Result ℕ ℕ) × Says limits header said
says_some limits header = elim (spelled_or_not (length header) header (omega arith)) [
  | inl spelled ↦ (said_by limits spelled.0, inl (spelled.0, spelled.1, refl))
  | inr none ↦ (Err 102, inr (none, refl))
]

-- ---- a length that a header part gives is within the limit

abbrev pub length_at : Bool → Bool → ℕ → Result ℕ ℕ
length_at number fits value = if number then (if fits then Ok value else Err 105) else Err 104

length_within : (number fits : Bool) (value most n : ℕ) → fits ≡ nat_le value most → length_at number fits value ≡ Ok n → n ≤ most
length_within true true value most n fits is =
    let same : value ≡ n = cc is in
    let tested : nat_le value most ≡ true = sym fits in
    let within : value ≤ most = grind (arith, nat_tests) in
    omega arith
length_within _ _ value most n _ is = absurd cc

values_within : (limits : Bounds) (values : List (List ℕ)) (n : ℕ) → content_length limits values ≡ Ok n → n ≤ limits.content
values_within limits (v ∷ []) n is = length_within (is_number v) (nat_le (digits_value 10 v) limits.content) (digits_value 10 v) limits.content n refl is
values_within limits _ n is = absurd cc

charset_within : (limits : Bounds) (said : Result ℕ ℕ) (fits : Bool) (n : ℕ) → length_and_charset fits said ≡ Ok n → said ≡ Ok n
charset_within limits said true n is = is
charset_within limits (Ok m) false n is = absurd cc
charset_within limits (Err rule) false n is = absurd cc

pub says_within : (limits : Bounds) (header : List ℕ) (n : ℕ) → Says limits header (Ok n) → n ≤ limits.content
says_within limits header n (inl a) = values_within limits (lengths a.0) n (charset_within limits (content_length limits (lengths a.0)) (fits_charsets a.0) n a.2)
says_within limits header n (inr a) = absurd (cc a.1)

-- ---- what stands in front

abbrev pub WithFrame : Bounds → List ℕ → Type 0
WithFrame limits bytes = (content : List ℕ) × (rest : List ℕ) × Begins limits bytes content rest × (length rest < length bytes)

abbrev pub WithFault : Bounds → List ℕ → Type 0
WithFault limits bytes = (rule : ℕ) × Breaks limits bytes rule

abbrev pub WithNeither : Bounds → List ℕ → Type 0
WithNeither limits bytes = StartsUnfinished limits bytes × (length bytes ≤ limits.header + limits.content)

abbrev pub Front : Bounds → List ℕ → Type 0
Front limits bytes = WithFrame limits bytes ⊎ (WithFault limits bytes ⊎ WithNeither limits bytes)

frame_in_front : (limits : Bounds) (bytes : List ℕ) (n len : ℕ) → 4 ≤ n → StartsWithHeader limits bytes (record { header = n; content = len }) → n + len ≤ length bytes → WithFrame limits bytes
frame_in_front limits bytes n len some starts fits =
    let front = front_of limits bytes (record { header = n; content = len }) starts fits in (
      drop n (take (n + len) bytes),
      drop (n + len) bytes,
      (take (n + len) bytes, front_is (n + len) bytes, front.is_frame),
      omega (arith, length-drop (n + len) bytes),
    )

said_in_front : (limits : Bounds) (bytes : List ℕ) (n : ℕ) → 4 ≤ n → Found limits bytes n → (said : Result ℕ ℕ) → Says limits (take n bytes) said → Front limits bytes
said_in_front limits bytes n some found (Err rule) says = inr (inl (rule, bad_header limits bytes n rule found says))
said_in_front limits bytes n some found (Ok len) says =
    let starts : StartsWithHeader limits bytes (record { header = n; content = len }) = record { fits = found.fits; part = found.part; says = says } in
    elim (cases_lt (length bytes - n) len) [
      | inl short ↦
          let within = says_within limits (take n bytes) len says in
          let part_short = found.part.short in
          inr (inr (unfinished_content limits bytes (record { header = n; content = len }) starts short, omega (arith, within, part_short, found.fits, length-take n bytes)))
      | inr whole ↦ let fits = found.fits in inl (frame_in_front limits bytes n len some starts (omega arith))
    ]

nowhere_in_front : (limits : Bounds) (bytes : List ℕ) → HoldsNoBlank (take limits.header bytes) → Front limits bytes
nowhere_in_front limits bytes none = elim (cases_lt (length bytes) limits.header) [
  | inl short ↦ inr (inr (unfinished_header limits bytes none short, omega arith))
  | inr long ↦ inr (inl (101, too_long limits bytes none long))
]

pub front_some : (limits : Bounds) (bytes : List ℕ) → Front limits bytes
front_some limits bytes = elim (find_blank bytes) [
  | inr none ↦ nowhere_in_front limits bytes (no_blank_near limits bytes none)
  | inl first ↦ elim (cases_lt limits.header (length first.front + 4)) [
    | inl long ↦ nowhere_in_front limits bytes (no_blank_before limits bytes first long)
    | inr short ↦
        let n = length first.front + 4 in
        let says = says_some limits (take n bytes) in
        said_in_front limits bytes n (omega arith) (header_found limits bytes first short) says.0 says.1
  ]
]

-- ---- a reading of all bytes

abbrev pub Reading : Bounds → List ℕ → Type 0
Reading limits bytes = (contents : List (List ℕ)) × (rest : List ℕ) × (breaks : Option ℕ) × IsStream limits bytes contents rest breaks

fault_read : (limits : Bounds) (bytes : List ℕ) → WithFault limits bytes → Reading limits bytes
fault_read limits bytes fault = ([], bytes, Some fault.0, record { frames = refl; no_more = breaks_no_frame limits bytes fault.0 fault.1; fault = fault.1 })

rest_read : (limits : Bounds) (bytes : List ℕ) → WithNeither limits bytes → Reading limits bytes
rest_read limits bytes neither = ([], bytes, None, record { frames = refl; no_more = neither.0.no_frame; fault = neither.0.no_fault })

frame_read : (limits : Bounds) (bytes : List ℕ) (frame : WithFrame limits bytes) → Reading limits frame.1 → Reading limits bytes
frame_read limits bytes frame after = (
  frame.0 ∷ after.0,
  after.1,
  after.2,
  record { frames = (frame.1, frame.2, after.3.frames); no_more = after.3.no_more; fault = after.3.fault },
)

read_within : (limits : Bounds) (n : ℕ) (bytes : List ℕ) → length bytes ≤ n → Reading limits bytes
read_within limits zero bytes short = elim (front_some limits bytes) [
  | inl frame ↦ let less = frame.3 in absurd (omega arith)
  | inr other ↦ elim other [ inl fault ↦ fault_read limits bytes fault | inr neither ↦ rest_read limits bytes neither ]
]
read_within limits (suc n) bytes short = elim (front_some limits bytes) [
  | inl frame ↦ let less = frame.3 in frame_read limits bytes frame (read_within limits n frame.1 (omega arith))
  | inr other ↦ elim other [ inl fault ↦ fault_read limits bytes fault | inr neither ↦ rest_read limits bytes neither ]
]

-- each list of bytes is a stream
pub some_stream : (limits : Bounds) (bytes : List ℕ) → Reading limits bytes
some_stream limits bytes = read_within limits (length bytes) bytes (omega arith)

-- a rest in front of which stand neither a frame nor a fault is short
pub rest_short : (limits : Bounds) (bytes : List ℕ) (contents : List (List ℕ)) (rest : List ℕ) → IsStream limits bytes contents rest None → length rest ≤ limits.header + limits.content
rest_short limits bytes contents rest stream = elim (front_some limits rest) [
  | inl frame ↦ absurd (stream.no_more frame.0 frame.1 frame.2)
  | inr other ↦ elim other [ inl fault ↦ absurd (stream.fault fault.0 fault.1) | inr neither ↦ neither.1 ]
]
