-- Up to which byte a text can be the front of a JSON text (RFC 8259), with arrays and objects
-- nested at most 127 deep and surrogates only in pairs. How large a number is does not matter here.
use Rattle.std.specs.Prelude.{ℕ, suc, ◌-◌, List, [], ◌∷◌, ◌++◌, length, map, take, codes, Bool}
use Rattle.std.specs.Prelude.{true, false, ◌&&◌, ◌||◌, ◌==◌, nat_lt, nat_le, if◌then◌else◌}
use Rattle.std.specs.Prelude.{slice_get, Option, Some, None, option_and_then, option_map}
use Rattle.std.specs.Bool.{then_some}
use Rattle.std.specs.Char.{is_ascii_digit, is_ascii_hexdigit}
use Rattle.json.specs.Word.{is_space}
use Rattle.lsp_session.specs.Negotiation.{first_row}
use Rattle.lsp_facts.specs.declared.grammar.Around.{Around}
use Rattle.lsp_facts.specs.declared.grammar.Around.TheVariants.{Array, Object}
use Rattle.lsp_facts.specs.declared.grammar.Class.{Class}
use Rattle.lsp_facts.specs.declared.grammar.Class.TheVariants.{Byte, Digit, D, CToF}
use Rattle.lsp_facts.specs.declared.grammar.Escape.{Escape}
use Rattle.lsp_facts.specs.declared.grammar.Escape.TheVariants.{AfterBackslash, Unit, AfterD}
use Rattle.lsp_facts.specs.declared.grammar.Gap.{Gap}
use Rattle.lsp_facts.specs.declared.grammar.Gap.TheVariants as gaps
use Rattle.lsp_facts.specs.declared.grammar.Move.{Move}
use Rattle.lsp_facts.specs.declared.grammar.Move.TheVariants.{To, Open, Close}
use Rattle.lsp_facts.specs.declared.grammar.Number.{Number}
use Rattle.lsp_facts.specs.declared.grammar.Number.TheVariants as numbers
use Rattle.lsp_facts.specs.declared.grammar.Place.{Place}
use Rattle.lsp_facts.specs.declared.grammar.Place.TheVariants as places
use Rattle.lsp_facts.specs.declared.grammar.Row.{Row}
use Rattle.lsp_facts.specs.declared.grammar.Row.TheVariants as rows

-- ---- words and strings

abbrev pub is_in : ℕ → ℕ → ℕ → Bool
is_in low high x = nat_le low x && nat_le x high

abbrev pub has : Class → ℕ → Bool
has (Byte y) x = x == y
has Digit x = is_ascii_hexdigit x
has D x = x == 100 || x == 68
has CToF x = is_in 67 70 x || is_in 99 102 x

-- the classes of the bytes still to come: the rest of a word or of an escape
abbrev pub classes : Row → List Class
classes rows.True = map Byte (codes "rue")
classes rows.False = map Byte (codes "alse")
classes rows.Null = map Byte (codes "ull")
classes rows.Digits = Digit ∷ Digit ∷ Digit ∷ []
classes rows.Pair = Digit ∷ Digit ∷ Byte 92 ∷ Byte 117 ∷ D ∷ CToF ∷ []

abbrev pub after_row : Row → Gap → Place
after_row rows.Digits after = places.Text after
after_row rows.Pair after = places.Row rows.Digits 1 after
after_row row after = places.Gap after

abbrev pub next_in : Row → ℕ → Gap → Place
next_in row at after =
    if nat_lt at (length (classes row)) then places.Row row at after else after_row row after

abbrev pub in_row : Row → ℕ → Gap → ℕ → Option Place
in_row row at after x =
    option_and_then (λ class. then_some (has class x) (next_in row (suc at) after))
    (slice_get (classes row) at)

-- what may follow a backslash, but for `u`
abbrev pub is_short : ℕ → Bool
is_short x =
    x == 34 || x == 92 || x == 47 || x == 98 || x == 102 || x == 110 || x == 114 || x == 116

-- of a code unit dc00 to dfff is a second half without the first
abbrev pub in_escape : Escape → Gap → ℕ → Option Place
in_escape AfterBackslash after x =
    if x == 117 then Some (places.Escape Unit after) else then_some (is_short x) (places.Text after)
in_escape Unit after x =
    if has D x then Some (places.Escape AfterD after)
    else then_some (has Digit x) (places.Row rows.Digits 0 after)
in_escape AfterD after x =
    if is_in 48 55 x then Some (places.Row rows.Digits 1 after)
    else then_some (is_in 56 57 x || is_in 65 66 x || is_in 97 98 x) (places.Row rows.Pair 0 after)

-- a string that this gap follows
abbrev pub in_text : Gap → ℕ → Option Place
in_text after x =
    if x == 34 then Some (places.Gap after)
    else (if x == 92 then Some (places.Escape AfterBackslash after)
    else then_some (nat_le 32 x) (places.Text after))

-- ---- numbers

abbrev pub or_e : ℕ → Option Number
or_e x = then_some (x == 101 || x == 69) numbers.AfterE

abbrev pub after_whole : ℕ → Option Number
after_whole x = if x == 46 then Some numbers.AfterPoint else or_e x

-- where the number goes on
abbrev pub in_number : Number → ℕ → Option Number
in_number numbers.AfterMinus x =
    if x == 48 then Some numbers.AfterZero else then_some (is_ascii_digit x) numbers.Whole
in_number numbers.AfterZero x = after_whole x
in_number numbers.Whole x = if is_ascii_digit x then Some numbers.Whole else after_whole x
in_number numbers.AfterPoint x = then_some (is_ascii_digit x) numbers.Fraction
in_number numbers.Fraction x = if is_ascii_digit x then Some numbers.Fraction else or_e x
in_number numbers.AfterE x =
    if x == 43 || x == 45 then Some numbers.AfterSign
    else then_some (is_ascii_digit x) numbers.Exponent
in_number number x = then_some (is_ascii_digit x) numbers.Exponent

-- the number may end here
abbrev pub may_end : Number → Bool
may_end numbers.AfterMinus = false
may_end numbers.AfterPoint = false
may_end numbers.AfterE = false
may_end numbers.AfterSign = false
may_end number = true

-- ---- between values

-- a value begins, where there is room for one more array or object or not
abbrev pub begin_value : Bool → ℕ → Option Move
begin_value room x =
    first_row (
    (x == 91, then_some room (Open Array))
    ∷ (x == 123, then_some room (Open Object))
    ∷ (x == 34, Some (To (places.Text gaps.AfterValue)))
    ∷ (x == 116, Some (To (places.Row rows.True 0 gaps.AfterValue)))
    ∷ (x == 102, Some (To (places.Row rows.False 0 gaps.AfterValue)))
    ∷ (x == 110, Some (To (places.Row rows.Null 0 gaps.AfterValue)))
    ∷ (x == 45, Some (To (places.Number numbers.AfterMinus)))
    ∷ (x == 48, Some (To (places.Number numbers.AfterZero)))
    ∷ (is_ascii_digit x, Some (To (places.Number numbers.Whole)))
    ∷ [])

abbrev pub begin_key : ℕ → Option Move
begin_key x = then_some (x == 34) (To (places.Text gaps.Colon))

abbrev pub after_value : Around → ℕ → Option Move
after_value Array x =
    if x == 44 then Some (To (places.Gap gaps.Value)) else then_some (x == 93) Close
after_value Object x =
    if x == 44 then Some (To (places.Gap gaps.Key)) else then_some (x == 125) Close

-- arrays and objects nest at most so deep
abbrev pub most_open : ℕ
most_open = 127

abbrev pub last : List Around → Option Around
last opened = slice_get opened (length opened - 1)

abbrev pub after_space : Gap → List Around → ℕ → Option Move
after_space gaps.Value opened x = begin_value (nat_lt (length opened) most_open) x
after_space gaps.FirstItem opened x =
    if x == 93 then Some Close else begin_value (nat_lt (length opened) most_open) x
after_space gaps.FirstKey opened x = if x == 125 then Some Close else begin_key x
after_space gaps.Key opened x = begin_key x
after_space gaps.Colon opened x = then_some (x == 58) (To (places.Gap gaps.Value))
after_space gaps.AfterValue opened x =
    option_and_then (λ around. after_value around x) (last opened)

abbrev pub in_gap : Gap → List Around → ℕ → Option Move
in_gap gap opened x =
    if is_space x then Some (To (places.Gap gap)) else after_space gap opened x

-- ---- a text

abbrev pub or_after : Number → List Around → ℕ → Option Number → Option Move
or_after number opened x None =
    if may_end number then in_gap gaps.AfterValue opened x else None
or_after number opened x (Some later) = Some (To (places.Number later))

abbrev pub number_move : Number → List Around → ℕ → Option Move
number_move number opened x = or_after number opened x (in_number number x)

-- **what a byte leads to**, where these are open; `None` where it cannot stand
abbrev pub move_in : Place → List Around → ℕ → Option Move
move_in (places.Gap gap) opened x = in_gap gap opened x
move_in (places.Text after) opened x = option_map To (in_text after x)
move_in (places.Escape escape after) opened x = option_map To (in_escape escape after x)
move_in (places.Row row at after) opened x = option_map To (in_row row at after x)
move_in (places.Number number) opened x = number_move number opened x

abbrev pub to : Move → Place
to (To place) = place
to (Open Array) = places.Gap gaps.FirstItem
to (Open Object) = places.Gap gaps.FirstKey
to Close = places.Gap gaps.AfterValue

abbrev pub left_open : List Around → Move → List Around
left_open opened (To place) = opened
left_open opened (Open around) = opened ++ around ∷ []
left_open opened Close = take (length opened - 1) opened

-- a value may end here
abbrev pub is_end : Place → Bool
is_end (places.Gap gaps.AfterValue) = true
is_end (places.Number number) = may_end number
is_end place = false

-- a text may end here
abbrev pub is_whole : Place → List Around → Bool
is_whole place [] = is_end place
is_whole place (around ∷ opened) = false

abbrev pub break_on : ℕ → (Place → List Around → Option ℕ) → List Around → Option Move → Option ℕ
break_on n later opened None = Some n
break_on n later opened (Some by) = later (to by) (left_open opened by)

-- the number of the first of these bytes that cannot stand there, the numbers beginning here; the
-- next number, where the text ends too early
abbrev pub break_from : ℕ → Place → List Around → List ℕ → Option ℕ
break_from n place opened [] = if is_whole place opened then None else Some n
break_from n place opened (x ∷ xs) =
    break_on n (λ place opened. break_from (suc n) place opened xs) opened
    (move_in place opened x)

-- **how many bytes come before the first one that cannot stand there**, all if the text ends too
-- early; `None` of a JSON text
abbrev pub json_break : List ℕ → Option ℕ
json_break text = break_from 0 (places.Gap gaps.Value) [] text
