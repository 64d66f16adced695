-- What is shown of names, one after another.
use Rattle.std.proofs.Common.{◌≡◌, [], List, Option, ℕ, refl, sym, ap, subst, ◌∙◌, append_assoc}
use Rattle.std.proofs.Common.{append-nil}
use Rattle.lsp_redact.specs.Names.{Names, joined, no_names}
use Rattle.lsp_redact.specs.Naming.{Begins, Shows, Stands, Writes}
use Rattle.lsp_redact.specs.declared.names.Names as code
use Rattle.lsp_redact.specs.declared.redaction.Redaction.{Redaction}

-- ---- names that are joined

pub joined-assoc : (a b c : Names) → joined (joined a b) c ≡ joined a (joined b c)
joined-assoc a b c = λ i. record {
  uris = append_assoc a.uris b.uris c.uris i;
  ids = append_assoc a.ids b.ids c.ids i;
  methods = append_assoc a.methods b.methods c.methods i;
  encodings = append_assoc a.encodings b.encodings c.encodings i;
}

pub joined-none : (a : Names) → joined a no_names ≡ a
joined-none a = λ i. record {
  uris = append-nil a.uris i;
  ids = append-nil a.ids i;
  methods = append-nil a.methods i;
  encodings = append-nil a.encodings i;
}

-- ---- what is shown

-- something is made of it
pub shows_made : {X Y : Type 0} {old new : code.Names} {a : Names} {f : Names → X} {x : X}
    (make : X → Y) (y : Y) → y ≡ make x → Shows old new a f x → Shows old new a (λ n. make (f n)) y
shows_made make y is h = record {
  stands = h.stands;
  value = λ before whole stands begins. is ∙ ap make (h.value before whole stands begins);
}

-- one thing is shown after another
pub shows_both : {X Y Z : Type 0} {old mid new : code.Names} {a b : Names} {f : Names → X}
    {g : Names → Y} {x : X} {y : Y} (make : X → Y → Z) (z : Z) → z ≡ make x y → Shows old mid a f x
    → Shows mid new b g y → Shows old new (joined a b) (λ n. make (f n) (g n)) z
shows_both {old = old} {mid = mid} {new = new} {a = a} {b = b} {f = f} {g = g} {x = x} {y = y} make z is h k = record {
  stands = λ before stands. subst (Stands new) (joined-assoc before a b)
      (k.stands (joined before a) (h.stands before stands));
  value = λ before whole stands begins.
      let more : Names = begins.0 in
      let first : Begins (joined before a) whole = (
        joined b more,
        begins.1 ∙ joined-assoc before (joined a b) more
            ∙ ap (joined before) (joined-assoc a b more)
            ∙ sym (joined-assoc before a (joined b more)),
      ) in
      let second : Begins (joined (joined before a) b) whole =
      (more, begins.1 ∙ ap (λ (n : Names). joined n more) (sym (joined-assoc before a b))) in
      is ∙ (λ i. make (h.value before whole stands first i)
      (k.value (joined before a) whole (h.stands before stands) second i));
}

-- ---- what is written, while one character stays apart

pub writes_made : {X Y : Type 0} {old new : Redaction} {a : Names} {f : Names → X} {x : X}
    (make : X → Y) (y : Y) → y ≡ make x → Writes old new a f x → Writes old new a (λ n. make (f n)) y
writes_made make y is h = record { same = h.same; shows = shows_made make y is h.shows }

pub writes_both : {X Y Z : Type 0} {old mid new : Redaction} {a b : Names} {f : Names → X}
    {g : Names → Y} {x : X} {y : Y} (make : X → Y → Z) (z : Z) → z ≡ make x y → Writes old mid a f x
    → Writes mid new b g y → Writes old new (joined a b) (λ n. make (f n) (g n)) z
writes_both make z is h k = record {
  same = k.same ∙ h.same;
  shows = shows_both make z is h.shows k.shows;
}

-- what is written after something has the character that stayed apart before it
pub writes_after : {X Y : Type 0} {old mid new : Redaction} {a b : Names} {f : Names → X} {x : X}
    (g : Option ℕ → Names → Y) (y : Y) → Writes old mid a f x → Writes mid new b (g mid.apart) y
    → Writes mid new b (g old.apart) y
writes_after {mid = mid} {new = new} {b = b} g y h k =
    subst (λ (apart : Option ℕ). Writes mid new b (g apart) y) h.same k

-- ---- small steps

-- no more names are seen
pub writes_joined : {X : Type 0} {old new : Redaction} {a : Names} {f : Names → X} {x : X}
    → Writes old new a f x → Writes old new (joined a no_names) f x
writes_joined {old = old} {new = new} {a = a} {f = f} {x = x} h =
    subst (λ (names : Names). Writes old new names f x) (sym (joined-none a)) h

-- what has no names
pub shows_same : {X : Type 0} (names : code.Names) (x y : X) → y ≡ x
    → Shows names names no_names (λ n. x) y
shows_same names x y is = record {
  stands = λ before s. subst (Stands names) (sym (joined-none before)) s;
  value = λ before whole s begins. is;
}

pub writes_same : {X : Type 0} (r : Redaction) (x y : X) → y ≡ x → Writes r r no_names (λ n. x) y
writes_same r x y is = record { same = refl; shows = shows_same r.names x y is }

-- nothing is written yet
pub writes_start : {X : Type 0} (r : Redaction) (xs : List X) → xs ≡ []
    → Writes r r no_names (λ n. []) xs
writes_start r xs is = writes_same r [] xs is

-- something is made of it where it is as it should be
pub writes_good : {X Y : Type 0} {old new : Redaction} {a : Names} {f : Names → X} {x : X}
    (make : X → Y) (y : Y) (IsGood : X → Type 0) → ((n : Names) → IsGood (f n))
    → (IsGood x → y ≡ make x) → Writes old new a f x → Writes old new a (λ n. make (f n)) y
writes_good make y IsGood good is h = record {
  same = h.same;
  shows = record {
    stands = h.shows.stands;
    value = λ before whole stands begins.
        let e = h.shows.value before whole stands begins in
        is (subst IsGood (sym e) (good whole)) ∙ ap make e;
  };
}
