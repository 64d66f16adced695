-- Values, items and members between two places of a text.
use Rattle.std.proofs.Common.{◌≡◌, ℕ, suc, ◌+◌, ◌-◌, ◌<◌, ◌≤◌, ◌==◌, ◌||◌, Bool, true, false, cond}
use Rattle.std.proofs.Common.{List, [], ◌∷◌, ◌++◌, length, take, drop, get_or, Option, Some, None}
use Rattle.std.proofs.Common.{option_map, add-zero, lt_of_not-le, refl, sym, ap, ap₂, subst, ◌∙◌}
use Rattle.std.proofs.Common.{arith}
use Rattle.std.specs.Prelude.{nat_eq}
use Rattle.std.specs.Char.{is_ascii_digit}
use Rattle.std.specs.List.{starts_with}
use Rattle.std.proofs.lemmas.Bool.{ne_eqb}
use Rattle.std.proofs.lemmas.List.{drop_all, drop_more, drop-drop, get_or-drop, get_or_past}
use Rattle.std.proofs.lemmas.List.{take-append-drop}
use Rattle.std.proofs.lemmas.Slice.Eq.{bytes_eq-Decides}
use Rattle.json.specs.Token.{Token}
use Rattle.json.specs.Token as token_of
use Rattle.json.specs.Print.{IsNumber}
use Rattle.json.specs.Word.{is_operator, is_space, ends_word, word, after_whole, after_number}
use Rattle.json.specs.Lex.{Lexeme, token, comma, colon, quote, backslash, operator, space, other}
use Rattle.json.specs.Lex.{class, operator_lexeme, string_token, Mode, between, lex_byte, lex}
use Rattle.json.specs.Lex.{Place, fresh, after_value, after_comma, begins_colon, may_begin}
use Rattle.json.specs.Lex.{punctuate}
use Rattle.json.specs.Json as json
use Rattle.json.specs.Json.{after_end_array, read_key, items, members, value, parse_map}
use Rattle.json.proofs.Grammar.{left, value_is, skip_value-shorter, read_key-shorter}
use Rattle.json.proofs.Printed.Numbers.{lex-number, in_word-ended}
use Rattle.serde_json.specs.Data as tree
use Rattle.serde_json.specs.Data.{Data, Items, no_items, item, Members, no_members, put}
use Rattle.serde_json.specs.Read.{of_json, of_items, of_members, converted, number_of, max_depth}
use Rattle.serde_json.specs.Read.{read}
use Rattle.lsp_walk.specs.declared.walk.Kind.TheVariants as kinds
use Rattle.lsp_walk.specs.Walk.{kind_at, tokens_from, part, IsText, IsNumeral, IsNatural}
use Rattle.lsp_walk.specs.Walk.{IsLiteral, IsValue, AreItems, AreMembers, SomeItems, IsKey}
use Rattle.lsp_walk.proofs.Lexing.{lex_operator, lex_quote, key_first, string_first, object_first}
use Rattle.lsp_walk.proofs.Lexing.{array_first, object_last, array_last, comma_next, word_first}
use Rattle.lsp_walk.proofs.Skipping.{converted_some, some_of, array_passed, object_passed}
use Rattle.lsp_walk.proofs.Skipping.{item_passed, items_passed, member_passed, members_passed}
use Rattle.lsp_walk.proofs.Skipping.{nothing_before, parse_map-twice, whole_passed}

-- an object up to a place where a member may begin, and the members before it
pub record SomeMembers (depth : ℕ) (d : List ℕ) (from at : ℕ) (found : Members) : Type 0 where
  pub place : Place
  pub begins : may_begin place ≡ true
  pub turns : ℕ
  pub enough : length (tokens_from place d at) ≤ turns
  pub same : let ts = tokens_from fresh d from in
      converted (λ ms. of_members ms no_members) (members (value depth) (length ts) ts)
      ≡ converted (λ ms. of_members ms found)
      (members (value depth) turns (tokens_from place d at))
  pub forward : from ≤ at
  pub within : at ≤ length d

-- ---- a byte, and the lexeme that begins with it

pub byte : (d : List ℕ) (i x : ℕ) → get_or d i 0 ≡ x → 0 < x
    → (i < length d) × (drop i d ≡ x ∷ drop (i + 1) d)
byte d i x is some =
    let within : i < length d = lt_of_not-le (λ past. omega (arith, get_or_past d i 0 past)) in
    (within, drop_more d i 0 within ∙ ap (λ y. y ∷ drop (i + 1) d) is)

operator_at : (d : List ℕ) (i x : ℕ) → get_or d i 0 ≡ x → 0 < x → class x ≡ operator
    → lex between (drop i d) ≡ operator_lexeme x ∷ lex between (drop (i + 1) d)
operator_at d i x is some kind =
    let here = byte d i x is some in ap (lex between) here.1 ∙ lex_operator x _ kind

text_at : (d : List ℕ) (from end : ℕ) (s : List ℕ) → get_or d from 0 ≡ 34
    → IsText d (from + 1) end s
    → lex between (drop from d) ≡ token (token_of.string s) ∷ lex between (drop end d)
text_at d from end s is text =
    let here = byte d from 34 is (omega arith) in
    ap (lex between) here.1 ∙ lex_quote _
    ∙ ap₂ (λ o ls. token (string_token o) ∷ ls) text.text text.passed

-- ---- what is no colon

no_colon_operator : (a b c e l f : Bool) (ls : List Lexeme) → (a || b || c || e || l || f) ≡ true
    → l ≡ false
    → begins_colon (cond a (token token_of.begin_object)
    (cond b (token token_of.end_object)
    (cond c (token token_of.begin_array)
    (cond e (token token_of.end_array) (cond f comma colon)))) ∷ ls) ≡ false
no_colon_operator false false false false true f ls h none = absurd (cc)
no_colon_operator false false false false false false ls h none = absurd (cc)
no_colon_operator _ _ _ _ _ _ ls h none = refl

no_colon_class : (q b o s : Bool) (x : ℕ) (xs : List ℕ) (k : Mode → List Lexeme) → s ≡ false
    → (o ≡ true → begins_colon (operator_lexeme x ∷ k between) ≡ false)
    → begins_colon (lex_byte between (cond q quote
    (cond b backslash (cond o operator (cond s space other)))) x xs k) ≡ false
no_colon_class false false true s x xs k spaced h = h refl
no_colon_class false false false true x xs k spaced h = absurd (cc)
no_colon_class _ _ _ _ x xs k spaced h = refl

no_colon : (t : List ℕ) → is_space (get_or t 0 0) ≡ false → (get_or t 0 0 == 58) ≡ false
    → begins_colon (lex between t) ≡ false
unfolding lex
no_colon [] spaced none = refl
no_colon (x ∷ xs) spaced none =
    no_colon_class (x == 34) (x == 92) (is_operator x) (is_space x) x xs (λ next. lex next xs)
    spaced
    (λ h. no_colon_operator (x == 123) (x == 125) (x == 91) (x == 93) (x == 58) (x == 44)
    (lex between xs) h none)

pub no_colon_at : (d : List ℕ) (i : ℕ) → is_space (get_or d i 0) ≡ false
    → (get_or d i 0 == 58) ≡ false → begins_colon (lex between (drop i d)) ≡ false
no_colon_at d i spaced none =
    let here : get_or (drop i d) 0 0 ≡ get_or d i 0 =
    get_or-drop i d 0 0 ∙ ap (λ k. get_or d k 0) (add-zero i) in
    no_colon (drop i d) (ap is_space here ∙ spaced) (ap (λ x. x == 58) here ∙ none)

-- ---- values

pub string_value : (d : List ℕ) (from close end : ℕ) (s : List ℕ) → get_or d from 0 ≡ 34
    → IsText d (from + 1) close s → lex between (drop end d) ≡ lex between (drop close d)
    → begins_colon (lex between (drop end d)) ≡ false → close ≤ end → end ≤ length d → (depth : ℕ)
    → IsValue depth d from end (tree.string s)
string_value d from close end s first text same ended le within depth =
    let ls = lex between (drop end d) in
    let lexed : lex between (drop from d) ≡ token (token_of.string s) ∷ ls =
    text_at d from close s first text ∙ ap (λ l. token (token_of.string s) ∷ l) (sym same) in
    record {
      read = λ p may. ap (λ l. converted of_json (value depth (punctuate p l))) lexed
          ∙ ap (λ ts. converted of_json (value depth ts)) (string_first p s ls ended may)
          ∙ ap (converted of_json) (value_is depth _);
      kind = ap kind_at first;
      forward = omega (arith, text.forward);
      within = within;
    }

slice : (d : List ℕ) (from end : ℕ) → from ≤ end → drop from d ≡ part d from end ++ drop end d
slice d from end le =
    let there : from + (end - from) ≡ end = omega arith in
    sym (take-append-drop (end - from) (drop from d))
    ∙ ap (λ l. part d from end ++ l) (drop-drop (end - from) from d ∙ ap (λ k. drop k d) there)

pub natural_value : (depth : ℕ) (d : List ℕ) (from end : ℕ) (n : tree.Num) → IsNumeral d from end
    → number_of (part d from end) ≡ Some n → kind_at (get_or d from 0) ≡ kinds.Plain
    → IsValue depth d from end (tree.number n)
natural_value depth d from end n is reads kind =
    let s = part d from end in
    let ls = lex between (drop end d) in
    let rest = punctuate after_value ls in
    let lexed : lex between (drop from d) ≡ token (token_of.number s) ∷ ls =
    ap (lex between) (slice d from end (omega (arith, is.forward)))
    ∙ lex-number s (drop end d) is.number is.ended in
    record {
      read = λ p may. ap (λ l. converted of_json (value depth (punctuate p l))) lexed
          ∙ ap (λ ts. converted of_json (value depth ts))
          (word_first p (token_of.number s) ls refl may)
          ∙ ap (converted of_json) (value_is depth _)
          ∙ ap (λ o. option_map {U = Data × List Token} (λ x. (x, rest)) (option_map tree.number o))
          reads;
      kind = kind;
      forward = is.forward;
      within = is.within;
    }

plain_kind : (x : ℕ) → (x ≡ 123 → ⊥) → (x ≡ 91 → ⊥) → (x ≡ 110 → ⊥) → kind_at x ≡ kinds.Plain
plain_kind x a b c = λ i. cond (ne_eqb x 123 a i || ne_eqb x 91 b i) kinds.Structure
    (cond (ne_eqb x 110 c i) kinds.Null kinds.Plain)

-- a number begins with none of these
not_first : (x : ℕ) (rest : List ℕ) → is_ascii_digit x ≡ false → (x == 45) ≡ false
    → (x == 48) ≡ false → IsNumber (x ∷ rest) → ⊥
unfolding after_number
not_first x rest digit minus zero is =
    let whole : after_whole (x ∷ rest) ≡ None = rw (zero, digit) refl in
    let none : after_number (x ∷ rest) ≡ None = rw (minus, whole) refl in
    absurd (cc)

number_kind : (x : ℕ) (rest : List ℕ) → IsNumber (x ∷ rest) → kind_at x ≡ kinds.Plain
number_kind x rest is =
    plain_kind x (λ e. not_first 123 rest refl refl refl (subst (λ y. IsNumber (y ∷ rest)) e is))
    (λ e. not_first 91 rest refl refl refl (subst (λ y. IsNumber (y ∷ rest)) e is))
    (λ e. not_first 110 rest refl refl refl (subst (λ y. IsNumber (y ∷ rest)) e is))

-- so it is plain
pub numeral_kind : (d : List ℕ) (from end : ℕ) → IsNumeral d from end
    → kind_at (get_or d from 0) ≡ kinds.Plain
numeral_kind d from end is =
    let some : from < length d = omega (arith, is.forward, is.within) in
    let n : end - from ≡ suc (end - from - 1) = omega (arith, is.forward) in
    let front : part d from end ≡ get_or d from 0 ∷ take (end - from - 1) (drop (from + 1) d) =
    ap (λ k. take k (drop from d)) n
    ∙ ap (take (suc (end - from - 1))) (drop_more d from 0 some) in
    number_kind (get_or d from 0) _ (subst IsNumber front is.number)

pub number_value : (d : List ℕ) (from end : ℕ) → IsNumeral d from end
    → (x : Data) × ((depth : ℕ) → IsValue depth d from end x)
number_value d from end is =
    let n = some_of (number_of (part d from end)) is.fits in (
      tree.number n.0,
      λ depth. natural_value depth d from end n.0 is n.1 (numeral_kind d from end is),
    )

pub numeral_value : (d : List ℕ) (from end n : ℕ) → IsNatural d from end n → (depth : ℕ)
    → IsValue depth d from end (tree.number (tree.unsigned n))
numeral_value d from end n is depth =
    natural_value depth d from end (tree.unsigned n) is.numeral is.value
    (numeral_kind d from end is.numeral)

named : (d : List ℕ) (from : ℕ) (name : List ℕ) → starts_with nat_eq (drop from d) name ≡ true
    → drop from d ≡ name ++ drop (from + length name) d
named d from name h =
    let front : name ≡ take (length name) (drop from d) =
    (bytes_eq-Decides name (take (length name) (drop from d))).0 h in
    sym (take-append-drop (length name) (drop from d))
    ∙ ap₂ (λ a b. a ++ b) (sym front) (drop-drop (length name) from d)

abbrev true_text : List ℕ
true_text = 116 ∷ 114 ∷ 117 ∷ 101 ∷ []

abbrev false_text : List ℕ
false_text = 102 ∷ 97 ∷ 108 ∷ 115 ∷ 101 ∷ []

abbrev null_text : List ℕ
null_text = 110 ∷ 117 ∷ 108 ∷ 108 ∷ []

lex_true : (rest : List ℕ) → ends_word rest ≡ true
    → lex between (true_text ++ rest) ≡ token (token_of.boolean true) ∷ lex between rest
unfolding lex word
lex_true rest ended = ap₂ (λ b ls. token (cond b (token_of.boolean true) token_of.bad) ∷ ls) ended
    (in_word-ended rest ended)

lex_false : (rest : List ℕ) → ends_word rest ≡ true
    → lex between (false_text ++ rest) ≡ token (token_of.boolean false) ∷ lex between rest
unfolding lex word
lex_false rest ended = ap₂ (λ b ls. token (cond b (token_of.boolean false) token_of.bad) ∷ ls) ended
    (in_word-ended rest ended)

lex_null : (rest : List ℕ) → ends_word rest ≡ true
    → lex between (null_text ++ rest) ≡ token token_of.null ∷ lex between rest
unfolding lex word
lex_null rest ended = ap₂ (λ b ls. token (cond b token_of.null token_of.bad) ∷ ls) ended
    (in_word-ended rest ended)

module _ (depth : ℕ) (d : List ℕ) (from end : ℕ) where
  pub true_value : get_or d from 0 ≡ 116 → IsLiteral d from true_text end
      → IsValue depth d from end (tree.boolean true)
  true_value first is =
      let lexed = ap (lex between) (named d from true_text is.named
      ∙ ap (λ k. true_text ++ drop k d) (sym is.is)) ∙ lex_true (drop end d) is.ended in
      record {
        read = λ p may. ap (λ l. converted of_json (value depth (punctuate p l))) lexed
            ∙ ap (λ ts. converted of_json (value depth ts))
            (word_first p (token_of.boolean true) _ refl may)
            ∙ ap (converted of_json) (value_is depth _);
        kind = ap kind_at first;
        forward = omega (arith, is.is);
        within = omega (arith, is.within);
      }

  pub false_value : get_or d from 0 ≡ 102 → IsLiteral d from false_text end
      → IsValue depth d from end (tree.boolean false)
  false_value first is =
      let lexed = ap (lex between) (named d from false_text is.named
      ∙ ap (λ k. false_text ++ drop k d) (sym is.is)) ∙ lex_false (drop end d) is.ended in
      record {
        read = λ p may. ap (λ l. converted of_json (value depth (punctuate p l))) lexed
            ∙ ap (λ ts. converted of_json (value depth ts))
            (word_first p (token_of.boolean false) _ refl may)
            ∙ ap (converted of_json) (value_is depth _);
        kind = ap kind_at first;
        forward = omega (arith, is.is);
        within = omega (arith, is.within);
      }

  pub null_value : get_or d from 0 ≡ 110 → IsLiteral d from null_text end
      → IsValue depth d from end tree.null
  null_value first is =
      let lexed = ap (lex between) (named d from null_text is.named
      ∙ ap (λ k. null_text ++ drop k d) (sym is.is)) ∙ lex_null (drop end d) is.ended in
      record {
        read = λ p may. ap (λ l. converted of_json (value depth (punctuate p l))) lexed
            ∙ ap (λ ts. converted of_json (value depth ts)) (word_first p token_of.null _ refl may)
            ∙ ap (converted of_json) (value_is depth _);
        kind = ap kind_at first;
        forward = omega (arith, is.is);
        within = omega (arith, is.within);
      }

pub array_value : (depth : ℕ) (d : List ℕ) (from end : ℕ) (xs : Items) → get_or d from 0 ≡ 91
    → 0 < depth → AreItems (depth - 1) d (from + 1) end xs
    → IsValue depth d from end (tree.array xs)
array_value depth d from end xs first some rest =
    let lexed = operator_at d from 91 first (omega arith) refl in
    record {
      read = λ p may. ap (λ l. converted of_json (value depth (punctuate p l))) lexed
          ∙ ap (λ ts. converted of_json (value depth ts)) (array_first p _ may)
          ∙ array_passed depth _ _ xs some rest.read;
      kind = ap kind_at first;
      forward = omega (arith, rest.forward);
      within = rest.within;
    }

pub object_value : (depth : ℕ) (d : List ℕ) (from end : ℕ) (xs : Members) → get_or d from 0 ≡ 123
    → 0 < depth → AreMembers (depth - 1) d (from + 1) end xs
    → IsValue depth d from end (tree.object xs)
object_value depth d from end xs first some rest =
    let lexed = operator_at d from 123 first (omega arith) refl in
    record {
      read = λ p may. ap (λ l. converted of_json (value depth (punctuate p l))) lexed
          ∙ ap (λ ts. converted of_json (value depth ts)) (object_first p _ may)
          ∙ object_passed depth _ _ xs some rest.read;
      kind = ap kind_at first;
      forward = omega (arith, rest.forward);
      within = rest.within;
    }

-- ---- keys

pub key_value : (d : List ℕ) (from close end : ℕ) (k : List ℕ) → get_or d from 0 ≡ 34
    → IsText d (from + 1) close k → lex between (drop close d) ≡ colon ∷ lex between (drop end d)
    → close < end → end ≤ length d → IsKey d from end k
key_value d from close end k first text passed less within =
    let ls = lex between (drop end d) in
    let lexed : lex between (drop from d) ≡ token (token_of.string k) ∷ colon ∷ ls =
    text_at d from close k first text ∙ ap (λ l. token (token_of.string k) ∷ l) passed in
    record {
      read = λ p may. ap (λ l. read_key (punctuate p l)) lexed ∙ ap read_key (key_first p k ls may);
      forward = omega (arith, text.forward);
      within = within;
    }

pub colon_passed : (d : List ℕ) (from at end : ℕ)
    → lex between (drop at d) ≡ lex between (drop from d) → get_or d at 0 ≡ 58
    → lex between (drop end d) ≡ lex between (drop (at + 1) d)
    → lex between (drop from d) ≡ colon ∷ lex between (drop end d)
colon_passed d from at end same is after =
    sym same ∙ operator_at d at 58 is (omega arith) refl ∙ ap (λ ls. colon ∷ ls) (sym after)

-- ---- turns of the loops

-- a value doesn't begin with the bracket that closes an array
no_end : (depth : ℕ) (ts : List Token) (j : json.Json) (r : List Token)
    → value depth ts ≡ Some (j, r) → after_end_array ts ≡ None
no_end depth (Token.end_array ∷ ts) j r e =
    let none = sym (value_is depth (Token.end_array ∷ ts)) ∙ e in absurd (cc)
no_end depth _ j r e = refl

pub record Taken (depth : ℕ) (ts r : List Token) : Type 0 where
  pub shorter : length r < length ts
  pub going : after_end_array ts ≡ None

pub taken : (depth : ℕ) (ts r : List Token) (x : Data)
    → converted of_json (value depth ts) ≡ Some (x, r) → Taken depth ts r
taken depth ts r x e =
    let j = converted_some of_json (value depth ts) x r e in
    record {
      shorter = skip_value-shorter depth ts r (ap left j.1);
      going = no_end depth ts j.0 r j.1;
    }

-- what stands behind a value, where a comma, a bracket or a brace follows
pub comma_behind : (d : List ℕ) (end next at : ℕ)
    → lex between (drop next d) ≡ lex between (drop end d) → get_or d next 0 ≡ 44
    → lex between (drop at d) ≡ lex between (drop (next + 1) d)
    → tokens_from after_value d end ≡ tokens_from after_comma d at
comma_behind d end next at same is after =
    ap (punctuate after_value) (sym same ∙ operator_at d next 44 is (omega arith) refl)
    ∙ comma_next _ ∙ ap (punctuate after_comma) (sym after)

pub bracket_behind : (p : Place) (d : List ℕ) (end next : ℕ)
    → lex between (drop next d) ≡ lex between (drop end d) → get_or d next 0 ≡ 93
    → punctuate p (lex between (drop end d))
    ≡ punctuate p (token token_of.end_array ∷ lex between (drop (next + 1) d))
bracket_behind p d end next same is =
    ap (punctuate p) (sym same ∙ operator_at d next 93 is (omega arith) refl)

brace_behind : (p : Place) (d : List ℕ) (end next : ℕ)
    → lex between (drop next d) ≡ lex between (drop end d) → get_or d next 0 ≡ 125
    → punctuate p (lex between (drop end d))
    ≡ punctuate p (token token_of.end_object ∷ lex between (drop (next + 1) d))
brace_behind p d end next same is =
    ap (punctuate p) (sym same ∙ operator_at d next 125 is (omega arith) refl)

module _ (depth : ℕ) (d : List ℕ) (from : ℕ) where
  unfoldable pub no_items_yet : (at : ℕ) → lex between (drop at d) ≡ lex between (drop from d)
      → from ≤ at → at ≤ length d → SomeItems depth d from at
  no_items_yet at same le within =
      let reads : List Lexeme → Option (Items × List Token) =
      λ ls. converted of_items (items (value depth) (length (tokens_from fresh d from))
      (punctuate fresh ls)) in
      record {
        place = fresh;
        begins = refl;
        turns = length (tokens_from fresh d from);
        front = λ xs. xs;
        enough = omega (arith, ap (λ ls. length (punctuate fresh ls)) same);
        same = nothing_before (reads (lex between (drop from d)))
            ∙ ap (λ ls. parse_map (λ xs. xs) (reads ls)) (sym same);
        forward = le;
        within = within;
      }

  unfoldable pub item_turn : (at end next then : ℕ) (x : Data) → SomeItems depth d from at
      → IsValue depth d at end x → lex between (drop next d) ≡ lex between (drop end d)
      → get_or d next 0 ≡ 44
      → lex between (drop then d) ≡ lex between (drop (next + 1) d) → end ≤ next → next + 1 ≤ then
      → then ≤ length d → SomeItems depth d from then
  item_turn at end next then x old here_read same is after le more within =
      let ts = tokens_from old.place d at in
      let r = tokens_from after_value d end in
      let passed = here_read.read old.place old.begins in
      let took = taken depth ts r x passed in
      let behind = comma_behind d end next then same is after in
      let turn = item_passed (value depth) old.turns ts r x
      (omega (arith, took.shorter, old.enough)) took.going passed in
      let front : Items → Items = λ xs. old.front (item x xs) in
      record {
        place = after_comma;
        begins = refl;
        turns = old.turns - 1;
        front = front;
        enough = omega (arith, took.shorter, old.enough, ap length behind);
        same = old.same ∙ ap (parse_map old.front) turn ∙ parse_map-twice old.front (item x) _
            ∙ ap (λ ts. parse_map front (converted of_items
            (items (value depth) (old.turns - 1) ts))) behind;
        forward = omega (arith, old.forward, here_read.forward);
        within = within;
      }

  -- an item that ends where its comma stands
  pub tiny_turn : (at stop then : ℕ) → IsNumeral d at stop → get_or d stop 0 ≡ 44
      → lex between (drop then d) ≡ lex between (drop (stop + 1) d)
      → stop + 1 ≤ then → then ≤ length d → SomeItems depth d from at → SomeItems depth d from then
  tiny_turn at stop then is mark after more within old =
      let found = number_value d at stop is in
      item_turn at stop stop then found.0 old (found.1 depth) refl mark after (omega arith) more
      within

  unfoldable pub last_item : (at end next : ℕ) (x : Data) → SomeItems depth d from at
      → IsValue depth d at end x → lex between (drop next d) ≡ lex between (drop end d)
      → get_or d next 0 ≡ 93
      → end ≤ next → (xs : Items) × AreItems depth d from (next + 1) xs
  last_item at end next x old here_read same is le =
      let ts = tokens_from old.place d at in
      let r = tokens_from after_value d end in
      let passed = here_read.read old.place old.begins in
      let took = taken depth ts r x passed in
      let here = byte d next 93 is (omega arith) in
      let behind = bracket_behind after_value d end next same is ∙ array_last after_value _ refl in
      let turn = item_passed (value depth) old.turns ts r x
      (omega (arith, took.shorter, old.enough)) took.going passed in
      let over = items_passed (value depth) (old.turns - 1) r (tokens_from after_value d (next + 1))
      (omega (arith, took.shorter, old.enough)) (ap after_end_array behind) in (
        old.front (item x no_items),
        record {
          read = old.same ∙ ap (parse_map old.front) (turn ∙ ap (parse_map (item x)) over);
          forward = omega (arith, old.forward, here_read.forward);
          within = omega (arith, here.0);
        },
      )

  pub without_items : (at : ℕ) → lex between (drop at d) ≡ lex between (drop from d)
      → get_or d at 0 ≡ 93 → from ≤ at → AreItems depth d from (at + 1) no_items
  without_items at same is le =
      let ts = tokens_from fresh d from in
      let here = byte d at 93 is (omega arith) in
      let behind = bracket_behind fresh d from at same is ∙ array_last fresh _ refl in
      record {
        read = items_passed (value depth) (length ts) ts (tokens_from after_value d (at + 1))
            (omega arith) (ap after_end_array behind);
        forward = omega arith;
        within = omega (arith, here.0);
      }

  pub no_members_yet : (at : ℕ) → lex between (drop at d) ≡ lex between (drop from d) → from ≤ at
      → at ≤ length d → SomeMembers depth d from at no_members
  no_members_yet at same le within =
      let reads : List Lexeme → Option (Members × List Token) =
      λ ls. converted (λ ms. of_members ms no_members)
      (members (value depth) (length (tokens_from fresh d from)) (punctuate fresh ls)) in
      record {
        place = fresh;
        begins = refl;
        turns = length (tokens_from fresh d from);
        enough = omega (arith, ap (λ ls. length (punctuate fresh ls)) same);
        same = ap reads (sym same);
        forward = le;
        within = within;
      }

  pub member_turn : (at begin end next then : ℕ) (k : List ℕ) (x : Data) (found : Members)
      → SomeMembers depth d from at found → IsKey d at begin k → IsValue depth d begin end x
      → lex between (drop next d) ≡ lex between (drop end d) → get_or d next 0 ≡ 44
      → lex between (drop then d) ≡ lex between (drop (next + 1) d) → end ≤ next → next + 1 ≤ then
      → then ≤ length d → SomeMembers depth d from then (put k x found)
  member_turn at begin end next then k x found old key here_read same is after le more within =
      let ts = tokens_from old.place d at in
      let s = tokens_from fresh d begin in
      let r = tokens_from after_value d end in
      let spelled = key.read old.place old.begins in
      let passed = here_read.read fresh refl in
      let less = read_key-shorter ts (Some k) s spelled in
      let took = taken depth s r x passed in
      let behind = comma_behind d end next then same is after in
      let turn = member_passed (value depth) found old.turns k ts s r x
      (omega (arith, less, old.enough)) spelled passed in
      record {
        place = after_comma;
        begins = refl;
        turns = old.turns - 1;
        enough = omega (arith, less, took.shorter, old.enough, ap length behind);
        same = old.same ∙ turn ∙ ap (λ ts. converted (λ ms. of_members ms (put k x found))
            (members (value depth) (old.turns - 1) ts)) behind;
        forward = omega (arith, old.forward, key.forward, here_read.forward);
        within = within;
      }

  pub last_member : (at begin end next : ℕ) (k : List ℕ) (x : Data) (found : Members)
      → SomeMembers depth d from at found → IsKey d at begin k → IsValue depth d begin end x
      → lex between (drop next d) ≡ lex between (drop end d) → get_or d next 0 ≡ 125 → end ≤ next
      → AreMembers depth d from (next + 1) (put k x found)
  last_member at begin end next k x found old key here_read same is le =
      let ts = tokens_from old.place d at in
      let s = tokens_from fresh d begin in
      let r = tokens_from after_value d end in
      let spelled = key.read old.place old.begins in
      let passed = here_read.read fresh refl in
      let less = read_key-shorter ts (Some k) s spelled in
      let took = taken depth s r x passed in
      let here = byte d next 125 is (omega arith) in
      let behind = brace_behind after_value d end next same is ∙ object_last after_value _ refl in
      let turn = member_passed (value depth) found old.turns k ts s r x
      (omega (arith, less, old.enough)) spelled passed in
      let over = members_passed (value depth) (put k x found) (old.turns - 1) r
      (tokens_from after_value d (next + 1)) (omega (arith, less, took.shorter, old.enough))
      (ap read_key behind) in
      record {
        read = old.same ∙ turn ∙ over;
        forward = omega (arith, old.forward, key.forward, here_read.forward);
        within = omega (arith, here.0);
      }

  pub without_members : (at : ℕ) → lex between (drop at d) ≡ lex between (drop from d)
      → get_or d at 0 ≡ 125 → from ≤ at → AreMembers depth d from (at + 1) no_members
  without_members at same is le =
      let ts = tokens_from fresh d from in
      let here = byte d at 125 is (omega arith) in
      let behind = brace_behind fresh d from at same is ∙ object_last fresh _ refl in
      record {
        read = members_passed (value depth) no_members (length ts) ts
            (tokens_from after_value d (at + 1)) (omega arith) (ap read_key behind);
        forward = omega arith;
        within = omega (arith, here.0);
      }

-- ---- the whole text

over : (d : List ℕ) (end last : ℕ) → lex between (drop last d) ≡ lex between (drop end d)
    → length d ≤ last → tokens_from after_value d end ≡ []
unfolding lex punctuate
over d end last same past =
    ap (punctuate after_value) (sym same ∙ ap (lex between) (drop_all last d past))

-- a value with nothing but space before it and after it
pub whole_value : (d : List ℕ) (from end last : ℕ) (x : Data)
    → lex between (drop from d) ≡ lex between d → IsValue max_depth d from end x
    → lex between (drop last d) ≡ lex between (drop end d) → length d ≤ last → read d ≡ Some x
whole_value d from end last x before found behind past =
    whole_passed d x
    (ap (λ ls. converted of_json (value max_depth (punctuate fresh ls))) (sym before)
    ∙ found.read fresh refl ∙ ap (λ ts. Some (x, ts)) (over d end last behind past))

-- what reads as JSON has a byte at least
pub some_content : (content : List ℕ) (x : Data) → read content ≡ Some x → 0 < length content
unfolding lex punctuate value
some_content [] x is = absurd (cc)
some_content (c ∷ cs) x is = omega arith
