-- The message that its members make, apart from what its params and its result hold.
use Rattle.std.proofs.Common.{◌≡◌, inl, inr, ℕ, ℤ, List, Bool, true, false, Option, Some, None}
use Rattle.std.proofs.Common.{option_map, option_and_then, codes, true≢false, refl, sym, ap, ◌∙◌}
use Rattle.std.specs.Prelude.{◌⊎◌, is_some, unwrap_or}
use Rattle.serde_json.specs.Data.{Data, null, boolean, number, string, array, object, Members}
use Rattle.serde_json.specs.Find.{get_member}
use Rattle.lsp_rpc.specs.Ident.{Ident}
use Rattle.lsp_rpc.specs.Message.{Message, request, notification, response, result, error}
use Rattle.lsp_rpc.specs.Outline.{outline, without_params, IsOrIsOutline}
use Rattle.lsp_rpc.specs.Reading.{code_of}
use Rattle.lsp_rpc.specs.Shape.{as_id, is_id_or_null, unless_null, is_structure_or_null}
use Rattle.lsp_rpc.specs.Shape.{holds_unless_absent}
use Rattle.lsp_rpc.specs.Words.{words_of}
use Rattle.lsp_rpc.proofs.OutlineWords.{words_by_outline}
use Rattle.lsp_outline.specs.declared.outline.Results.{Results}
use Rattle.lsp_outline.specs.declared.outline.Results.TheVariants.{LeftOut}
use Rattle.lsp_outline.specs.Outlined.{id_in, call_in, response_in, lacks_result, Tells, IsLeft}
use Rattle.lsp_outline.specs.declared.params.Told.{Told}

-- ---- what is there

absent : {X : Type 0} (f : Data → X) (o : Option Data) → option_map f o ≡ None → o ≡ None
absent f None h = refl
absent f (Some d) h = absurd (cc)

present : {X : Type 0} (f : Data → X) (o : Option Data) (x : X) → option_map f o ≡ Some x
    → (d : Data) × (o ≡ Some d) × (f d ≡ x)
present {X = X} f None x h = absurd (cc)
present {X = X} f (Some d) x h = (d, refl, ap (λ (p : Option X). unwrap_or p x) h)

there : (o : Option Data) → is_some o ≡ true → (d : Data) × (o ≡ Some d)
there None h = absurd (cc)
there (Some d) h = (d, refl)

missing : (o : Option Data) → is_some o ≡ false → o ≡ None
missing None h = refl
missing (Some d) h = absurd (cc)

-- ---- ids

wrapped : (o : Option Ident) (i : Ident) → option_map Some o ≡ Some (Some i) → o ≡ Some i
wrapped None i h = absurd (cc)
wrapped (Some j) i h = ap (λ (o : Option (Option Ident)). unwrap_or o None) h

not_null : (o : Option Ident) → option_map Some o ≡ Some None → ⊥
not_null None h = cc
not_null (Some j) h = cc

own_id : (d : Data) (i : Ident) → id_in d ≡ Some (Some i) → as_id d ≡ Some i
own_id null i h = absurd (cc)
own_id (boolean b) i h = wrapped (as_id (boolean b)) i h
own_id (number n) i h = wrapped (as_id (number n)) i h
own_id (string s) i h = wrapped (as_id (string s)) i h
own_id (array ds) i h = wrapped (as_id (array ds)) i h
own_id (object ms) i h = wrapped (as_id (object ms)) i h

no_id : (d : Data) → id_in d ≡ Some None → d ≡ null
no_id null h = refl
no_id (boolean b) h = absurd (not_null (as_id (boolean b)) h)
no_id (number n) h = absurd (not_null (as_id (number n)) h)
no_id (string s) h = absurd (not_null (as_id (string s)) h)
no_id (array ds) h = absurd (not_null (as_id (array ds)) h)
no_id (object ms) h = absurd (not_null (as_id (object ms)) h)

id_of_response : (d : Data) (id : Option Ident) → id_in d ≡ Some id
    → (is_id_or_null d ≡ true) × (as_id d ≡ id)
id_of_response d None h = (ap is_id_or_null (no_id d h), ap as_id (no_id d h))
id_of_response d (Some i) h =
    let own = own_id d i h in
    let good : is_id_or_null d ≡ true = rw own in
    (good, own)

pub some_id : (d : Data) (i : Ident) → as_id d ≡ Some i → id_in d ≡ Some (Some i)
some_id (number n) i h = ap (option_map Some) h
some_id (string s) i h = ap (option_map Some) h
some_id _ i h = absurd (cc)

-- ---- the message

-- what was told of the params stays beside the message
abbrev Outlines : Members → Message → Type 0
Outlines ms m = (told : Option Told) → Tells ms told → IsLeft ms m told

same : (a m : Message) → Some a ≡ Some m → m ≡ a
same a m h = sym (ap (λ (o : Option Message). unwrap_or o m) h)

module _ (ms : Members) (version : get_member (codes "jsonrpc") ms ≡ Some (string (codes "2.0")))
    (good : holds_unless_absent is_structure_or_null (get_member (codes "params") ms) ≡ true) where
  abbrev own_params : Option Data
  own_params = option_and_then unless_null (get_member (codes "params") ms)

  pub call_made : (name : List ℕ) (id : Option (Option Ident)) (m : Message)
      → get_member (codes "method") ms ≡ Some (string name)
      → option_map id_in (get_member (codes "id") ms) ≡ option_map Some id
      → call_in name id ≡ Some m → Outlines ms m
  call_made name None m method id is =
      let none = absent id_in _ id in λ told tells. record {
        whole = notification name own_params;
        is = record { keeps_rules = rw (version, method, none, good); made = rw (method, none) };
        rest = same (notification name None) m is;
        params = refl;
        tells = tells;
      }
  call_made name (Some None) m method id is = absurd (cc)
  call_made name (Some (Some i)) m method id is =
      let d = present id_in _ (Some (Some i)) id in
      let own = own_id d.0 i d.2 in λ told tells. record {
        whole = request i name own_params;
        is = record {
          keeps_rules = rw (version, method, d.1, own, good);
          made = rw (method, d.1, own);
        };
        rest = same (request i name None) m is;
        params = refl;
        tells = tells;
      }

  result_made : (id : Option Ident) (d value : Data) (m : Message)
      → get_member (codes "method") ms ≡ None → get_member (codes "id") ms ≡ Some d
      → (is_id_or_null d ≡ true) × (as_id d ≡ id)
      → get_member (codes "result") ms ≡ Some value → get_member (codes "error") ms ≡ None
      → Some (response id (result null)) ≡ Some m → Outlines ms m
  result_made id d value m method own i there none is = λ told tells. record {
    whole = response id (result value);
    is = record {
      keeps_rules = rw (version, method, own, i.0, there, none);
      made = rw (method, own, i.1, there);
    };
    rest = same (response id (result null)) m is;
    params = tt;
    tells = tells;
  }

  error_made : (id : Option Ident) (d fault : Data) (code : ℤ) (m : Message)
      → get_member (codes "method") ms ≡ None → get_member (codes "id") ms ≡ Some d
      → (is_id_or_null d ≡ true) × (as_id d ≡ id)
      → get_member (codes "result") ms ≡ None → get_member (codes "error") ms ≡ Some fault
      → code_of fault ≡ Some code → Some (response id (error code)) ≡ Some m → Outlines ms m
  error_made id d fault code m method own i none there is_code is = λ told tells. record {
    whole = response id (error code);
    is = record {
      keeps_rules = rw (version, method, own, i.0, none, there, is_code);
      made = rw (method, own, i.1, none, there, is_code);
    };
    rest = same (response id (error code)) m is;
    params = tt;
    tells = tells;
  }

  pub response_made : (id : Option Ident) (r : Bool) (e : Option ℤ) (m : Message)
      → get_member (codes "method") ms ≡ None
      → option_map id_in (get_member (codes "id") ms) ≡ Some (Some id)
      → is_some (get_member (codes "result") ms) ≡ r
      → option_map code_of (get_member (codes "error") ms) ≡ option_map Some e
      → response_in id r e ≡ Some m → Outlines ms m
  response_made id true None m method own r e is =
      let d = present id_in _ (Some id) own in
      let value = there _ r in
      result_made id d.0 value.0 m method d.1 (id_of_response d.0 id d.2) value.1
      (absent code_of _ e) is
  response_made id false (Some code) m method own r e is =
      let d = present id_in _ (Some id) own in
      let fault = present code_of _ (Some code) e in
      error_made id d.0 fault.0 code m method d.1 (id_of_response d.0 id d.2) (missing _ r)
      fault.1 fault.2 is
  response_made id _ _ m method own r e is = absurd (cc)

-- where the outline lacks no result, it lacks the params alone
pub lacks_params : (m whole : Message) → lacks_result m ≡ false → m ≡ outline whole
    → m ≡ without_params whole
lacks_params m (response id (result value)) none h =
    absurd (true≢false (sym (ap lacks_result h) ∙ none))
lacks_params m _ none h = h

pub what_is_left : (results : Results) (m whole : Message)
    → (results ≡ LeftOut) ⊎ (lacks_result m ≡ false) → m ≡ outline whole
    → (m ≡ without_params whole) ⊎ ((results ≡ LeftOut) × (m ≡ outline whole))
what_is_left results m whole (inl out) is = inr (out, is)
what_is_left results m whole (inr none) is = inl (lacks_params m whole none is)

-- a message and its outline have the same words
pub same_words : (m whole : Message) → IsOrIsOutline m whole → words_of m ≡ words_of whole
same_words m whole (inl is) = ap words_of is
same_words m whole (inr is) = ap words_of is ∙ sym (words_by_outline whole)
