-- Positions and ranges as most programs write them.
use Rattle.std.proofs.Common.{◌≡◌, ℕ, zero, suc, ◌+◌, ◌-◌, ◌<◌, ◌≤◌, List, [], ◌∷◌, ◌++◌}
use Rattle.std.proofs.Common.{nat_lt, true, false, bytes_eq, true≢false, length, take, drop, get_or}
use Rattle.std.proofs.Common.{refl, sym, ap, ap₂, ◌∙◌, arith, codes}
use Rattle.std.proofs.lemmas.Bool.{and_parts}
use Rattle.std.proofs.lemmas.Bool.Decides.{nat_tests}
use Rattle.std.proofs.lemmas.List.{get_or-drop, drop-drop, take-append-drop, take-take}
use Rattle.std.proofs.lemmas.Nat.{le_bytes_8}
use Rattle.std.proofs.lemmas.Slice.Eq.{bytes_eq-Decides}
use Rattle.std.specs.Int.{w64, to_le_bytes, from_le_bytes}
use Rattle.std.specs.List.{list_all}
use Rattle.json.specs.Token as token_of
use Rattle.json.specs.Text.{content}
use Rattle.json.specs.Lex.{lex, between, token, colon, punctuate}
use Rattle.json.specs.Json.{read_key}
use Rattle.lsp_walk.proofs.Lexing.{key_first}
use Rattle.serde_json.specs.Data.{Data, object, no_members, put}
use Rattle.serde_json.proofs.Views.{get_member-put, get_member-put_other}
use Rattle.lsp_walk.proofs.Walking.{object_value, no_members_yet, member_turn, last_member, byte}
use Rattle.lsp_walk.specs.Places.{KeepsBoth}
use Rattle.lsp_walk.specs.Walk.{IsKey, IsValue, Stand, line_key, character_key, start_key, end_key}

pub differ : (q k : List ℕ) → bytes_eq q k ≡ false → q ≡ k → ⊥
differ q k h e = true≢false (sym ((bytes_eq-Decides q k).1 e) ∙ h)

-- ---- words

each_below : (x : ℕ) (xs : List ℕ) → x < 256 → list_all (λ y. nat_lt y 256) xs ≡ true → (i : ℕ)
    → get_or (x ∷ xs) i 0 < 256
each_below x xs fits all zero = fits
each_below x [] fits all (suc i) = omega arith
each_below x (y ∷ ys) fits all (suc i) =
    let both = and_parts (nat_lt y 256) (list_all (λ z. nat_lt z 256) ys) all in
    each_below y ys (grind (arith, nat_tests, both.0)) both.1 i

-- the bytes of a word that equals this one
word_is : (x : ℕ) (xs s : List ℕ) (word key : ℕ) → length (x ∷ xs) ≡ 8 → x < 256
    → list_all (λ y. nat_lt y 256) xs ≡ true → key ≡ from_le_bytes w64 (x ∷ xs)
    → to_le_bytes w64 word ≡ take 8 s → word ≡ key → take 8 s ≡ x ∷ xs
word_is x xs s word key long fits all is reads same =
    sym reads ∙ ap (to_le_bytes w64) same
    ∙ le_bytes_8 (x ∷ xs) key long (each_below x xs fits all) is

stand : (d : List ℕ) (from n : ℕ) (bs : List ℕ) → take n (drop from d) ≡ bs
    → drop from d ≡ bs ++ drop (from + n) d
stand d from n bs is =
    sym (take-append-drop n (drop from d)) ∙ ap₂ (λ a b. a ++ b) is (drop-drop n from d)

pub line_stands : (d : List ℕ) (from before word key : ℕ) → from + 8 ≤ length d → before < 256
    → key ≡ from_le_bytes w64 (before ∷ line_key) → to_le_bytes w64 word ≡ take 8 (drop from d)
    → word ≡ key → Stand d from (before ∷ line_key) (from + 8)
line_stands d from before word key room fits is reads same = record {
  are = stand d from 8 (before ∷ line_key)
      (word_is before line_key (drop from d) word key refl fits refl is reads same);
  is = refl;
  within = room;
}

abbrev front : ℕ → List ℕ
front before = before ∷ 34 ∷ 99 ∷ 104 ∷ 97 ∷ 114 ∷ 97 ∷ 99 ∷ []

abbrev back : List ℕ
back = 114 ∷ 97 ∷ 99 ∷ 116 ∷ 101 ∷ 114 ∷ 34 ∷ 58 ∷ []

pub character_stands : (d : List ℕ) (from before word key after end : ℕ) → from + 13 ≤ length d
    → before < 256 → key ≡ from_le_bytes w64 (front before)
    → to_le_bytes w64 word ≡ take 8 (drop from d) → word ≡ key
    → end ≡ from_le_bytes w64 back → to_le_bytes w64 after ≡ take 8 (drop (from + 5) d)
    → after ≡ end → Stand d from (before ∷ character_key) (from + 13)
character_stands d from before word key after end room fits is reads same is_back reads_back same_back =
    let s = drop from d in
    let first : take 8 s ≡ front before =
    word_is before _ s word key refl fits refl is reads same in
    let second : take 8 (drop (from + 5) d) ≡ back =
    word_is 114 _ (drop (from + 5) d) after end refl (omega arith) refl is_back reads_back same_back
    in
    let five : take 5 s ≡ take 5 (front before) = sym (take-take 5 8 s (omega arith)) ∙ ap (take 5) first in
    let there : from + 5 + 8 ≡ from + 13 = omega arith in
    record {
      are = stand d from 5 _ five
          ∙ ap (λ l. take 5 (front before) ++ l) (stand d (from + 5) 8 back second
          ∙ ap (λ k. back ++ drop k d) there);
      is = refl;
      within = room;
    }

abbrev start_front : ℕ → List ℕ
start_front before = before ∷ 34 ∷ 115 ∷ 116 ∷ 97 ∷ 114 ∷ 116 ∷ 34 ∷ []

pub start_stands : (d : List ℕ) (from before word key : ℕ) → from + 9 ≤ length d → before < 256
    → key ≡ from_le_bytes w64 (start_front before) → to_le_bytes w64 word ≡ take 8 (drop from d)
    → word ≡ key → get_or d (from + 8) 0 ≡ 58 → Stand d from (before ∷ start_key) (from + 9)
start_stands d from before word key room fits is reads same mark =
    let first : take 8 (drop from d) ≡ start_front before =
    word_is before _ (drop from d) word key refl fits refl is reads same in
    let last = byte d (from + 8) 58 mark (omega arith) in
    let there : from + 8 + 1 ≡ from + 9 = omega arith in
    record {
      are = stand d from 8 (start_front before) first
          ∙ ap (λ l. start_front before ++ l) (last.1 ∙ ap (λ k. 58 ∷ drop k d) there);
      is = refl;
      within = room;
    }

abbrev end_front : ℕ → List ℕ
end_front before = before ∷ 34 ∷ 101 ∷ 110 ∷ 100 ∷ 34 ∷ 58 ∷ 123 ∷ []

pub end_stands : (d : List ℕ) (from before word key : ℕ) → from + 8 ≤ length d → before < 256
    → key ≡ from_le_bytes w64 (end_front before) → to_le_bytes w64 word ≡ take 8 (drop from d)
    → word ≡ key → Stand d from (before ∷ end_key) (from + 7)
end_stands d from before word key room fits is reads same =
    let first : take 8 (drop from d) ≡ end_front before =
    word_is before _ (drop from d) word key refl fits refl is reads same in
    let seven : take 7 (drop from d) ≡ take 7 (end_front before) =
    sym (take-take 7 8 (drop from d) (omega arith)) ∙ ap (take 7) first in
    record {
      are = stand d from 7 _ seven;
      is = refl;
      within = omega (arith, room);
    }

-- ---- keys

lex_line : (rest : List ℕ) → lex between (line_key ++ rest)
    ≡ token (token_of.string (codes "line")) ∷ colon ∷ lex between rest
unfolding lex content
lex_line rest = refl

lex_character : (rest : List ℕ) → lex between (character_key ++ rest)
    ≡ token (token_of.string (codes "character")) ∷ colon ∷ lex between rest
unfolding lex content
lex_character rest = refl

key_read : (d : List ℕ) (from before end : ℕ) (text k : List ℕ)
    → ((rest : List ℕ) → lex between (text ++ rest)
    ≡ token (token_of.string k) ∷ colon ∷ lex between rest)
    → 0 < length text → Stand d from (before ∷ text) end
    → (get_or d from 0 ≡ before) × IsKey d (from + 1) end k
key_read d from before end text k lexes some is =
    let ls = lex between (drop end d) in
    let here : get_or d from 0 ≡ before =
    sym (get_or-drop from d 0 0 ∙ ap (λ n. get_or d n 0) (omega arith))
    ∙ ap (λ l. get_or l 0 0) is.are in
    let behind : drop (from + 1) d ≡ text ++ drop end d =
    sym (drop-drop 1 from d) ∙ ap (drop 1) is.are in
    let lexed : lex between (drop (from + 1) d) ≡ token (token_of.string k) ∷ colon ∷ ls =
    ap (lex between) behind ∙ lexes (drop end d) in (
      here,
      record {
        read = λ p may. ap (λ l. read_key (punctuate p l)) lexed ∙ ap read_key (key_first p k ls may);
        forward = omega (arith, is.is, some);
        within = is.within;
      },
    )

pub line_read : (d : List ℕ) (from before end : ℕ) → Stand d from (before ∷ line_key) end
    → (get_or d from 0 ≡ before) × IsKey d (from + 1) end (codes "line")
line_read d from before end is =
    key_read d from before end line_key (codes "line") lex_line (omega arith) is

pub character_read : (d : List ℕ) (from before end : ℕ) → Stand d from (before ∷ character_key) end
    → (get_or d from 0 ≡ before) × IsKey d (from + 1) end (codes "character")
character_read d from before end is =
    key_read d from before end character_key (codes "character") lex_character (omega arith) is

lex_start : (rest : List ℕ) → lex between (start_key ++ rest)
    ≡ token (token_of.string (codes "start")) ∷ colon ∷ lex between rest
unfolding lex content
lex_start rest = refl

lex_end : (rest : List ℕ) → lex between (end_key ++ rest)
    ≡ token (token_of.string (codes "end")) ∷ colon ∷ lex between rest
unfolding lex content
lex_end rest = refl

pub start_read : (d : List ℕ) (from before end : ℕ) → Stand d from (before ∷ start_key) end
    → (get_or d from 0 ≡ before) × IsKey d (from + 1) end (codes "start")
start_read d from before end is =
    key_read d from before end start_key (codes "start") lex_start (omega arith) is

pub end_read : (d : List ℕ) (from before end : ℕ) → Stand d from (before ∷ end_key) end
    → (get_or d from 0 ≡ before) × IsKey d (from + 1) end (codes "end")
end_read d from before end is =
    key_read d from before end end_key (codes "end") lex_end (omega arith) is

-- ---- an object of two members without space

module _ (depth : ℕ) (d : List ℕ) (from : ℕ) where
  pub two_members : (a s b e : ℕ) (first second : List ℕ) (x y : Data) → 0 < depth
      → get_or d from 0 ≡ 123 → IsKey d (from + 1) a first → IsValue (depth - 1) d a s x
      → get_or d s 0 ≡ 44 → IsKey d (s + 1) b second → IsValue (depth - 1) d b e y
      → get_or d e 0 ≡ 125
      → IsValue depth d from (e + 1) (object (put second y (put first x no_members)))
  two_members a s b e first second x y some opened key_x value_x comma key_y value_y brace =
      let none = no_members_yet (depth - 1) d (from + 1) (from + 1) refl (omega arith)
      (omega (arith, key_x.forward, key_x.within)) in
      let one = member_turn (depth - 1) d (from + 1) (from + 1) a s s (s + 1) first x no_members none
      key_x value_x refl comma refl (omega arith) (omega arith)
      (omega (arith, key_y.forward, key_y.within)) in
      object_value depth d from (e + 1) _ opened some
      (last_member (depth - 1) d (from + 1) (s + 1) b e e second y (put first x no_members) one
      key_y value_y refl brace (omega arith))

-- ---- what is kept of two members, in either order

module _ {A : Type 0} (keeps : Data → A → Type 0) (a b : List ℕ) (x y : Data) (kept : A × A) where
  pub in_order : (a ≡ b → ⊥) → keeps x kept.0 → keeps y kept.1
      → KeepsBoth keeps a b (object (put b y (put a x no_members))) kept
  in_order apart keeps_x keeps_y = record {
    one = x;
    two = y;
    has_one = get_member-put_other a b y (put a x no_members) apart ∙ get_member-put a x no_members;
    has_two = get_member-put b y (put a x no_members);
    keeps_one = keeps_x;
    keeps_two = keeps_y;
  }

  pub turned : (b ≡ a → ⊥) → keeps x kept.0 → keeps y kept.1
      → KeepsBoth keeps a b (object (put a x (put b y no_members))) kept
  turned apart keeps_x keeps_y = record {
    one = x;
    two = y;
    has_one = get_member-put a x (put b y no_members);
    has_two = get_member-put_other b a x (put b y no_members) apart ∙ get_member-put b y no_members;
    keeps_one = keeps_x;
    keeps_two = keeps_y;
  }
