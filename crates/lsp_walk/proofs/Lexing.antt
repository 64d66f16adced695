-- One lexeme at the front of a text, what stands after it, and the token that it is.
use Rattle.std.proofs.Common.{◌≡◌, ℕ, suc, ◌+◌, ◌==◌, ◌||◌, Bool, true, false, cond, nat_lt, List}
use Rattle.std.proofs.Common.{[], ◌∷◌, drop, refl, sym, ap, ◌∙◌, arith}
use Rattle.std.proofs.lemmas.Bool.{or_parts, not-true}
use Rattle.std.specs.List.{prefix_len}
use Rattle.json.specs.Token.{Token, key, string, number, boolean, null, begin_object, end_object}
use Rattle.json.specs.Token.{begin_array, end_array, bad}
use Rattle.json.specs.Text.{content, plain}
use Rattle.json.specs.Word.{is_operator, is_space}
use Rattle.json.specs.Run.{is_plain}
use Rattle.json.specs.Lex.{Lexeme, token, comma, colon, quote, backslash, operator, space, other}
use Rattle.json.specs.Lex.{class, operator_lexeme, string_token, Mode, between, in_string, lex_byte}
use Rattle.json.specs.Lex.{lex, Place, fresh, after_value, after_comma, after_key, begins_colon}
use Rattle.json.specs.Lex.{may_begin, may_close, if_allowed, punctuate}

-- ---- lexemes

pub lex_space : (x : ℕ) (xs : List ℕ) → class x ≡ space → lex between (x ∷ xs) ≡ lex between xs
unfolding lex
lex_space x xs is = ap (λ c. lex_byte between c x xs (λ next. lex next xs)) is

pub lex_operator : (x : ℕ) (xs : List ℕ) → class x ≡ operator
    → lex between (x ∷ xs) ≡ operator_lexeme x ∷ lex between xs
unfolding lex
lex_operator x xs is = ap (λ c. lex_byte between c x xs (λ next. lex next xs)) is

pub lex_quote : (xs : List ℕ)
    → lex between (34 ∷ xs) ≡ token (string_token (content plain xs)) ∷ lex in_string xs
unfolding lex
lex_quote xs = refl

-- ---- inside a string

pub lex_close : (xs : List ℕ) → lex in_string (34 ∷ xs) ≡ lex between xs
unfolding lex
lex_close xs = refl

no_mark : (q b o s : Bool) (x : ℕ) (xs : List ℕ) (k : Mode → List Lexeme) → q ≡ false → b ≡ false
    → lex_byte in_string (cond q quote (cond b backslash (cond o operator (cond s space other)))) x
    xs k ≡ k in_string
no_mark false false true s x xs k q h = refl
no_mark false false false true x xs k q h = refl
no_mark false false false false x xs k q h = refl
no_mark _ _ o s x xs k q h = absurd (cc)

pub lex_plain : (x : ℕ) (xs : List ℕ) → is_plain x ≡ true
    → lex in_string (x ∷ xs) ≡ lex in_string xs
unfolding lex
lex_plain x xs is =
    let none = or_parts ((x == 34) || (x == 92)) (nat_lt x 32) (not-true _ is) in
    let tests = or_parts (x == 34) (x == 92) none.0 in
    no_mark (x == 34) (x == 92) (is_operator x) (is_space x) x xs (λ next. lex next xs) tests.0
    tests.1

run_byte : (p : Bool) (x n : ℕ) (xs : List ℕ) → p ≡ is_plain x
    → lex in_string xs ≡ lex in_string (drop n xs)
    → lex in_string (x ∷ xs) ≡ lex in_string (drop (cond p (1 + n) 0) (x ∷ xs))
run_byte true x n xs is more =
    let next : suc n ≡ 1 + n = omega arith in
    lex_plain x xs (sym is) ∙ more ∙ ap (λ k. lex in_string (drop k (x ∷ xs))) next
run_byte false x n xs is more = refl

-- the plain bytes that come next are passed
pub lex_run : (xs : List ℕ) → lex in_string xs ≡ lex in_string (drop (prefix_len is_plain xs) xs)
lex_run [] = refl
lex_run (x ∷ xs) = run_byte (is_plain x) x (prefix_len is_plain xs) xs refl (lex_run xs)

-- ---- tokens, where a value may begin or a bracket may close

allowed : (b : Bool) (t : Token) (k : Place → List Token) (next : Place) → b ≡ true
    → if_allowed b t k next ≡ t ∷ k next
allowed b t k next may = ap (λ x. if_allowed x t k next) may

pub key_first : (p : Place) (s : List ℕ) (ls : List Lexeme) → may_begin p ≡ true
    → punctuate p (token (string s) ∷ colon ∷ ls) ≡ key s ∷ punctuate fresh ls
unfolding punctuate
key_first p s ls may = allowed (may_begin p) (key s) (λ next. punctuate next (colon ∷ ls)) after_key
    may

string_by : (b : Bool) (p : Place) (s : List ℕ) (ls : List Lexeme) → begins_colon ls ≡ b → b ≡ false
    → may_begin p ≡ true → punctuate p (token (string s) ∷ ls) ≡ string s ∷ punctuate after_value ls
unfolding punctuate
string_by b p s ls is none may =
    rw (is, none) (allowed (may_begin p) (string s) (λ next. punctuate next ls) after_value may)

pub string_first : (p : Place) (s : List ℕ) (ls : List Lexeme) → begins_colon ls ≡ false
    → may_begin p ≡ true → punctuate p (token (string s) ∷ ls) ≡ string s ∷ punctuate after_value ls
string_first p s ls none may = string_by _ p s ls refl none may

abbrev is_plain_word : Token → Bool
is_plain_word (number s) = true
is_plain_word (boolean b) = true
is_plain_word null = true
is_plain_word _ = false

pub word_first : (p : Place) (t : Token) (ls : List Lexeme) → is_plain_word t ≡ true
    → may_begin p ≡ true → punctuate p (token t ∷ ls) ≡ t ∷ punctuate after_value ls
unfolding punctuate
word_first p (number s) ls is may =
    allowed (may_begin p) (number s) (λ next. punctuate next ls) after_value may
word_first p (boolean b) ls is may =
    allowed (may_begin p) (boolean b) (λ next. punctuate next ls) after_value may
word_first p null ls is may = allowed (may_begin p) null (λ next. punctuate next ls) after_value may
word_first p _ ls is may = absurd (cc)

pub object_first : (p : Place) (ls : List Lexeme) → may_begin p ≡ true
    → punctuate p (token begin_object ∷ ls) ≡ begin_object ∷ punctuate fresh ls
unfolding punctuate
object_first p ls may = allowed (may_begin p) begin_object (λ next. punctuate next ls) fresh may

pub array_first : (p : Place) (ls : List Lexeme) → may_begin p ≡ true
    → punctuate p (token begin_array ∷ ls) ≡ begin_array ∷ punctuate fresh ls
unfolding punctuate
array_first p ls may = allowed (may_begin p) begin_array (λ next. punctuate next ls) fresh may

pub object_last : (p : Place) (ls : List Lexeme) → may_close p ≡ true
    → punctuate p (token end_object ∷ ls) ≡ end_object ∷ punctuate after_value ls
unfolding punctuate
object_last p ls may = allowed (may_close p) end_object (λ next. punctuate next ls) after_value may

pub array_last : (p : Place) (ls : List Lexeme) → may_close p ≡ true
    → punctuate p (token end_array ∷ ls) ≡ end_array ∷ punctuate after_value ls
unfolding punctuate
array_last p ls may = allowed (may_close p) end_array (λ next. punctuate next ls) after_value may

pub comma_next : (ls : List Lexeme) → punctuate after_value (comma ∷ ls) ≡ punctuate after_comma ls
unfolding punctuate
comma_next ls = refl
