-- One line of a header part is one field, and a header part has one list of them.
use Rattle.std.proofs.Common.{◌≡◌, ℕ, suc, ◌+◌, ◌<◌, Bool, true, false, cond, List, [], ◌∷◌, ◌++◌, length, take, drop, refl, sym, ap, ◌∙◌, append_assoc, arith}
use Rattle.std.specs.List.{flat_map, prefix_len, AllByRecursion, list_all}
use Rattle.std.proofs.lemmas.List.{take-append-drop, drop_at, take_at, length-append}
use Rattle.std.proofs.lemmas.List.Sums.{list_all-from_AllPass, AllPass-from_list_all}
use Rattle.std.proofs.lemmas.Bool.{and_parts}
use Rattle.std.proofs.lemmas.List.Concat.{flat_map-cons}
use Rattle.lsp_frame.specs.Reading.{NoFieldBegins}
use Rattle.lsp_frame.specs.Header.{Field, IsField, line, line_end, is_token, is_text}

-- a run of bytes that pass ends at the first that doesn't
pub prefix_len-stop : (p : ℕ → Bool) (xs : List ℕ) (y : ℕ) (ys : List ℕ) → list_all p xs ≡ true → p y ≡ false → prefix_len p (xs ++ y ∷ ys) ≡ length xs
prefix_len-stop p [] y ys all stop = rw stop refl
prefix_len-stop p (x ∷ xs) y ys all stop =
    let both = and_parts (p x) (list_all p xs) all in
    rw (both.0, prefix_len-stop p xs y ys both.1 stop) (omega arith)

-- where a field's name ends, and where its value does
pub record Parts (bytes : List ℕ) (f : Field) (rest : List ℕ) : Type 0 where
  pub name_len : prefix_len is_token bytes ≡ length f.name
  pub after_name : drop (prefix_len is_token bytes) bytes ≡ 58 ∷ (f.value ++ 13 ∷ 10 ∷ rest)
  pub value_len : prefix_len is_text (f.value ++ 13 ∷ 10 ∷ rest) ≡ length f.value
  pub after_value : drop (length f.value) (f.value ++ 13 ∷ 10 ∷ rest) ≡ 13 ∷ 10 ∷ rest

pub line_is : (f : Field) (rest : List ℕ) → line f ++ rest ≡ f.name ++ 58 ∷ (f.value ++ 13 ∷ 10 ∷ rest)
line_is f rest =
    append_assoc f.name (58 ∷ (f.value ++ line_end)) rest
    ∙ ap (λ (w : List ℕ). f.name ++ 58 ∷ w) (append_assoc f.value line_end rest)

pub parts_of : (bytes : List ℕ) (f : Field) (rest : List ℕ) → IsField f → bytes ≡ line f ++ rest → Parts bytes f rest
parts_of bytes f rest is e =
    let whole : bytes ≡ f.name ++ 58 ∷ (f.value ++ 13 ∷ 10 ∷ rest) = e ∙ line_is f rest in
    let len : prefix_len is_token bytes ≡ length f.name = rw whole (prefix_len-stop is_token f.name 58 (f.value ++ 13 ∷ 10 ∷ rest) (list_all-from_AllPass is_token f.name is.token) refl) in
    record {
      name_len = len;
      after_name = rw (len, whole) (drop_at f.name (58 ∷ (f.value ++ 13 ∷ 10 ∷ rest)) (length f.name) refl);
      value_len = prefix_len-stop is_text f.value 13 (10 ∷ rest) (list_all-from_AllPass is_text f.value is.text) refl;
      after_value = drop_at f.value (13 ∷ 10 ∷ rest) (length f.value) refl;
    }

field_is : (f g : Field) → f.name ≡ g.name → f.value ≡ g.value → f ≡ g
field_is f g names values =
    let with_name : f ≡ record { name = g.name; value = f.value } = ap (λ (n : List ℕ). record { name = n; value = f.value }) names in
    with_name ∙ ap (λ (v : List ℕ). record { name = g.name; value = v }) values

-- two fields at the front of the same bytes are one
pub same_field : (f g : Field) (rest after : List ℕ) → IsField f → IsField g → line f ++ rest ≡ line g ++ after → (f ≡ g) × (rest ≡ after)
same_field f g rest after is_f is_g e =
    let p = parts_of (line f ++ rest) f rest is_f refl in
    let q = parts_of (line f ++ rest) g after is_g e in
    let names : f.name ≡ g.name =
    sym (take_at f.name (58 ∷ (f.value ++ 13 ∷ 10 ∷ rest)) (length f.name) refl)
    ∙ ap (λ (n : ℕ). take n (f.name ++ 58 ∷ (f.value ++ 13 ∷ 10 ∷ rest))) (sym p.name_len ∙ q.name_len)
    ∙ ap (take (length g.name)) (sym (line_is f rest) ∙ e ∙ line_is g after)
    ∙ take_at g.name (58 ∷ (g.value ++ 13 ∷ 10 ∷ after)) (length g.name) refl
    in
    let tails : f.value ++ 13 ∷ 10 ∷ rest ≡ g.value ++ 13 ∷ 10 ∷ after = cc (p.after_name, q.after_name) in
    let lens : length f.value ≡ length g.value = sym p.value_len ∙ ap (prefix_len is_text) tails ∙ q.value_len in
    let values : f.value ≡ g.value =
    sym (take_at f.value (13 ∷ 10 ∷ rest) (length f.value) refl)
    ∙ ap (λ (n : ℕ). take n (f.value ++ 13 ∷ 10 ∷ rest)) lens
    ∙ ap (take (length g.value)) tails
    ∙ take_at g.value (13 ∷ 10 ∷ after) (length g.value) refl
    in
    let ends : 13 ∷ 10 ∷ rest ≡ 13 ∷ 10 ∷ after = sym p.after_value ∙ ap (drop (length f.value)) tails ∙ ap (λ (n : ℕ). drop n (g.value ++ 13 ∷ 10 ∷ after)) lens ∙ q.after_value in
    (field_is f g names values, cc ends)

-- a line is no header's end
line_long : (f : Field) (rest : List ℕ) → IsField f → line f ++ rest ≡ line_end → ⊥
line_long f rest is e = absurd (omega (arith, is.named, ap length e, length-append {A = ℕ}))

pub cons_lines : (f : Field) (fs : List Field) → flat_map line (f ∷ fs) ++ line_end ≡ line f ++ (flat_map line fs ++ line_end)
cons_lines f fs = ap (λ (w : List ℕ). w ++ line_end) (flat_map-cons line f fs) ∙ append_assoc (line f) (flat_map line fs) line_end

cons_rest : (f : Field) (fs : List Field) (rest : List ℕ) → flat_map line (f ∷ fs) ++ rest ≡ line f ++ (flat_map line fs ++ rest)
cons_rest f fs rest = ap (λ (w : List ℕ). w ++ rest) (flat_map-cons line f fs) ∙ append_assoc (line f) (flat_map line fs) rest

-- a header part has one list of fields
pub same_fields : (fs gs : List Field) → AllByRecursion IsField fs → AllByRecursion IsField gs → flat_map line fs ++ line_end ≡ flat_map line gs ++ line_end → fs ≡ gs
same_fields [] [] is_f is_g e = refl
same_fields [] (g ∷ gs) is_f is_g e = absurd (line_long g (flat_map line gs ++ line_end) is_g.0 (sym (e ∙ cons_lines g gs)))
same_fields (f ∷ fs) [] is_f is_g e = absurd (line_long f (flat_map line fs ++ line_end) is_f.0 (sym (cons_lines f fs) ∙ e))
same_fields (f ∷ fs) (g ∷ gs) is_f is_g e =
    let h = same_field f g (flat_map line fs ++ line_end) (flat_map line gs ++ line_end) is_f.0 is_g.0 (sym (cons_lines f fs) ∙ e ∙ cons_lines g gs) in
    let t = same_fields fs gs is_f.1 is_g.1 h.1 in
    cc (h.0, t)

-- what goes on behind fields that were read is the rest of the one list
pub rest_of_fields : (front fs : List Field) (rest : List ℕ) → AllByRecursion IsField front → AllByRecursion IsField fs → flat_map line front ++ rest ≡ flat_map line fs ++ line_end
    → (gs : List Field) × AllByRecursion IsField gs × (rest ≡ flat_map line gs ++ line_end)
rest_of_fields [] fs rest is_front is_fs e = (fs, is_fs, e)
rest_of_fields (f ∷ front) [] rest is_front is_fs e = absurd (line_long f (flat_map line front ++ rest) is_front.0 (sym (cons_rest f front rest) ∙ e))
rest_of_fields (f ∷ front) (g ∷ fs) rest is_front is_fs e =
    let h = same_field f g (flat_map line front ++ rest) (flat_map line fs ++ line_end) is_front.0 is_fs.0 (sym (cons_rest f front rest) ∙ e ∙ cons_lines g fs) in
    rest_of_fields front fs rest is_front.1 is_fs.1 h.1

-- ---- what `split_field` finds

omega_one : (n : ℕ) → 1 + n ≡ suc n
omega_one n = omega arith

passes-cons : (p : ℕ → Bool) (x : ℕ) (xs : List ℕ) (b : Bool) → p x ≡ b → list_all p (take (prefix_len p xs) xs) ≡ true → list_all p (take (cond b (1 + prefix_len p xs) 0) (x ∷ xs)) ≡ true
passes-cons p x xs true is h = rw (omega_one (prefix_len p xs), is) h
passes-cons p x xs false is h = refl

pub passes-prefix : (p : ℕ → Bool) (xs : List ℕ) → list_all p (take (prefix_len p xs) xs) ≡ true
passes-prefix p [] = refl
passes-prefix p (x ∷ xs) = passes-cons p x xs (p x) refl (passes-prefix p xs)

pub no_colon : (bytes after : List ℕ) (n : ℕ) → n ≡ prefix_len is_token bytes → after ≡ drop n bytes → ((r : List ℕ) → after ≡ 58 ∷ r → ⊥) → NoFieldBegins bytes
no_colon bytes after n at cut none f rest is e =
    let p = parts_of bytes f rest is e in
    none (f.value ++ 13 ∷ 10 ∷ rest) (cut ∙ ap (λ (k : ℕ). drop k bytes) at ∙ p.after_name)

after_value_is : (bytes after value_on after_value : List ℕ) (n m : ℕ) (f : Field) (rest : List ℕ) → n ≡ prefix_len is_token bytes → after ≡ drop n bytes → after ≡ 58 ∷ value_on
    → m ≡ prefix_len is_text value_on → after_value ≡ drop m value_on → IsField f → bytes ≡ line f ++ rest → after_value ≡ 13 ∷ 10 ∷ rest
after_value_is bytes after value_on after_value n m f rest at cut colon value_at value_cut is e =
    let p = parts_of bytes f rest is e in
    let both : 58 ∷ value_on ≡ 58 ∷ (f.value ++ 13 ∷ 10 ∷ rest) = sym colon ∙ cut ∙ ap (λ (k : ℕ). drop k bytes) at ∙ p.after_name in
    let same : value_on ≡ f.value ++ 13 ∷ 10 ∷ rest = cc both in
    let len : m ≡ length f.value = value_at ∙ ap (prefix_len is_text) same ∙ p.value_len in
    value_cut ∙ ap (λ (k : ℕ). drop k value_on) len ∙ ap (drop (length f.value)) same ∙ p.after_value

pub no_return : (bytes after value_on after_value : List ℕ) (n m : ℕ) → n ≡ prefix_len is_token bytes → after ≡ drop n bytes → after ≡ 58 ∷ value_on
    → m ≡ prefix_len is_text value_on → after_value ≡ drop m value_on → ((r : List ℕ) → after_value ≡ 13 ∷ r → ⊥) → NoFieldBegins bytes
no_return bytes after value_on after_value n m at cut colon value_at value_cut none f rest is e =
    none (10 ∷ rest) (after_value_is bytes after value_on after_value n m f rest at cut colon value_at value_cut is e)

pub no_feed : (bytes after value_on after_value feed_on : List ℕ) (n m : ℕ) → n ≡ prefix_len is_token bytes → after ≡ drop n bytes → after ≡ 58 ∷ value_on
    → m ≡ prefix_len is_text value_on → after_value ≡ drop m value_on → after_value ≡ 13 ∷ feed_on → ((r : List ℕ) → feed_on ≡ 10 ∷ r → ⊥) → NoFieldBegins bytes
no_feed bytes after value_on after_value feed_on n m at cut colon value_at value_cut return none f rest is e =
    let same : 13 ∷ feed_on ≡ 13 ∷ 10 ∷ rest = sym return ∙ after_value_is bytes after value_on after_value n m f rest at cut colon value_at value_cut is e in
    none rest (cc same)

pub field_found : (bytes name after value_on value after_value feed_on rest : List ℕ) (n m : ℕ) → n ≡ prefix_len is_token bytes → name ≡ take n bytes → after ≡ drop n bytes → 0 < length name → after ≡ 58 ∷ value_on
    → m ≡ prefix_len is_text value_on → value ≡ take m value_on → after_value ≡ drop m value_on → after_value ≡ 13 ∷ feed_on → feed_on ≡ 10 ∷ rest
    → IsField (record { name = name; value = value }) × (bytes ≡ line (record { name = name; value = value }) ++ rest)
field_found bytes name after value_on value after_value feed_on rest n m at name_is cut some colon value_at value_is value_cut return feed =
    let f : Field = record { name = name; value = value } in
    let tail : value_on ≡ value ++ 13 ∷ 10 ∷ rest =
    sym (take-append-drop m value_on) ∙ ap (λ (w : List ℕ). w ++ drop m value_on) (sym value_is) ∙ ap (λ (w : List ℕ). value ++ w) (sym value_cut ∙ return ∙ ap (λ (w : List ℕ). 13 ∷ w) feed)
    in
    let whole : bytes ≡ name ++ 58 ∷ (value ++ 13 ∷ 10 ∷ rest) =
    sym (take-append-drop n bytes) ∙ ap (λ (w : List ℕ). w ++ drop n bytes) (sym name_is) ∙ ap (λ (w : List ℕ). name ++ w) (sym cut ∙ colon ∙ ap (λ (w : List ℕ). 58 ∷ w) tail)
    in
    let token : list_all is_token name ≡ true = ap (list_all is_token) (name_is ∙ ap (λ (k : ℕ). take k bytes) at) ∙ passes-prefix is_token bytes in
    let text : list_all is_text value ≡ true = ap (list_all is_text) (value_is ∙ ap (λ (k : ℕ). take k value_on) value_at) ∙ passes-prefix is_text value_on in (
      record { named = some; token = AllPass-from_list_all is_token name token; text = AllPass-from_list_all is_text value text },
      whole ∙ sym (line_is f rest),
    )
