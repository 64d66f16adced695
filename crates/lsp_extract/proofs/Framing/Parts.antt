-- Parts of contents, one after another.
use Rattle.std.proofs.Common.{◌≡◌, ℕ, suc, ◌+◌, List, [], ◌∷◌, ◌++◌, length, Option, refl, sym, ap}
use Rattle.std.proofs.Common.{subst, ◌∙◌, append_assoc, arith, inl, inr}
use Rattle.std.proofs.lemmas.List.{append-nil}
use Rattle.lsp_replay.specs.Common.{Canonical, Kinds, Lengths, Message, Mode, Rule, Stream}
use Rattle.lsp_replay.specs.Common.{StreamFault, words_of}
use Rattle.lsp_rpc.proofs.Readings.{one_message, one_rule, not_both}
use Rattle.lsp_extract.specs.Stream.{kind_line, IsPart, Refuses, outcome_at, RunsThrough, AreParts}
use Rattle.lsp_verdict.specs.declared.outcome.Outcome.{Outcome}

-- ---- one answer for each content

-- a frame has one part
pub one_part : (mode : Mode) (frame : ℕ) (content p q : List ℕ) → IsPart mode frame content p
    → IsPart mode frame content q → p ≡ q
one_part Kinds frame content p q a b =
    a.2 ∙ ap (λ (m : Message). kind_line frame content (words_of m))
    (one_message content a.0 b.0 a.1 b.1) ∙ sym b.2
one_part _ frame content p q a b = a ∙ sym b

-- a content that has a part is not refused
pub not_refused : (mode : Mode) (frame : ℕ) (content part : List ℕ) (rule : ℕ)
    → IsPart mode frame content part → Refuses mode content rule → ⊥
not_refused Kinds frame content part rule is refused = not_both content is.0 rule is.1 refused
not_refused _ frame content part rule is refused = refused

-- a content is refused by one rule
pub one_refusal : (mode : Mode) (content : List ℕ) (r s : ℕ) → Refuses mode content r
    → Refuses mode content s → r ≡ s
one_refusal Kinds content r s a b = one_rule content r s a b
one_refusal _ content r s a b = absurd a

-- ---- one answer for all contents

pub record SameRun (p q : List ℕ) (a b : Outcome) : Type 0 where
  pub parts : p ≡ q
  pub outcome : a ≡ b

pub one_run : (mode : Mode) (frame : ℕ) (contents : List (List ℕ)) (fault : Option StreamFault)
    (p q : List ℕ) (a b : Outcome) → RunsThrough mode frame contents fault p a
    → RunsThrough mode frame contents fault q b → SameRun p q a b
one_run mode frame [] fault p q a b x y = record { parts = x.0 ∙ sym y.0; outcome = x.1 ∙ sym y.1 }
one_run mode frame (c ∷ cs) fault p q a b (inl x) (inl y) =
    let first = one_part mode frame c x.0 y.0 x.2 y.2 in
    let others = one_run mode (frame + 1) cs fault x.1 y.1 a b x.3 y.3 in
    record {
      parts = x.4 ∙ ap (λ (w : List ℕ). w ++ x.1) first ∙ ap (λ (w : List ℕ). y.0 ++ w) others.parts
          ∙ sym y.4;
      outcome = others.outcome;
    }
one_run mode frame (c ∷ cs) fault p q a b (inl x) (inr y) =
    absurd (not_refused mode frame c x.0 y.0 x.2 y.1)
one_run mode frame (c ∷ cs) fault p q a b (inr x) (inl y) =
    absurd (not_refused mode frame c y.0 x.0 y.2 x.1)
one_run mode frame (c ∷ cs) fault p q a b (inr x) (inr y) = record {
  parts = x.2 ∙ sym y.2;
  outcome = x.3 ∙ ap (λ (r : ℕ). Stream frame (Rule r)) (one_refusal mode c x.0 y.0 x.1 y.1)
      ∙ sym y.3;
}

-- a run through contents begins with the parts of the first ones, where each of these has one
pub run_begins : (mode : Mode) (frame : ℕ) (contents more : List (List ℕ))
    (fault : Option StreamFault) (parts out : List ℕ) (outcome : Outcome)
    → AreParts mode frame contents parts
    → RunsThrough mode frame (contents ++ more) fault out outcome
    → (left : List ℕ) × (out ≡ parts ++ left)
run_begins mode frame [] more fault parts out outcome are run =
    (out, ap (λ (w : List ℕ). w ++ out) (sym are))
run_begins mode frame (c ∷ cs) more fault parts out outcome are (inl x) =
    let first = one_part mode frame c x.0 are.0 x.2 are.2 in
    let others = run_begins mode (frame + 1) cs more fault are.1 x.1 outcome are.3 x.3 in (
      others.0,
      x.4 ∙ ap (λ (w : List ℕ). w ++ x.1) first ∙ ap (λ (w : List ℕ). are.0 ++ w) others.1
          ∙ sym (append_assoc are.0 are.1 others.0)
          ∙ ap (λ (w : List ℕ). w ++ others.0) (sym are.4),
    )
run_begins mode frame (c ∷ cs) more fault parts out outcome are (inr x) =
    absurd (not_refused mode frame c are.0 x.0 are.2 x.1)

-- ---- runs from parts

part_here : (mode : Mode) (m n : ℕ) (content part : List ℕ) → m ≡ n → IsPart mode m content part
    → IsPart mode n content part
part_here mode m n content part same is = subst (λ (k : ℕ). IsPart mode k content part) same is

plus_none : (n : ℕ) → n + 0 ≡ n
plus_none n = omega arith

plus_more : (n k : ℕ) → n + suc k ≡ n + 1 + k
plus_more n k = omega arith

-- one content more is one part more
pub parts_push : (mode : Mode) (frame : ℕ) (contents : List (List ℕ)) (content parts part : List ℕ)
    → AreParts mode frame contents parts → IsPart mode (frame + length contents) content part
    → AreParts mode frame (contents ++ content ∷ []) (parts ++ part)
parts_push mode frame [] content parts part a is = (
  part,
  [],
  part_here mode (frame + 0) frame content part (plus_none frame) is,
  refl,
  ap (λ (w : List ℕ). w ++ part) a ∙ sym (append-nil part),
)
parts_push mode frame (c ∷ cs) content parts part a is =
    let others = parts_push mode (frame + 1) cs content a.1 part a.3
    (part_here mode (frame + suc (length cs)) (frame + 1 + length cs) content part
    (plus_more frame (length cs)) is) in
    (a.0, a.1 ++ part, a.2, others, ap (λ (w : List ℕ). w ++ part) a.4 ∙ append_assoc a.0 a.1 part)

-- where each content has a part, the fault after them stands
pub run_through : (mode : Mode) (frame : ℕ) (contents : List (List ℕ)) (fault : Option StreamFault)
    (parts : List ℕ) (at : ℕ) → at ≡ frame + length contents → AreParts mode frame contents parts
    → RunsThrough mode frame contents fault parts (outcome_at at fault)
run_through mode frame [] fault parts at is are =
    (are, ap (λ (n : ℕ). outcome_at n fault) (is ∙ plus_none frame))
run_through mode frame (c ∷ cs) fault parts at is are =
    inl (
      are.0,
      are.1,
      are.2,
      run_through mode (frame + 1) cs fault are.1 at (is ∙ plus_more frame (length cs)) are.3,
      are.4,
    )

-- a content that is refused after them ends the run
pub run_refused : (mode : Mode) (frame : ℕ) (contents : List (List ℕ)) (content : List ℕ)
    (more : List (List ℕ)) (fault : Option StreamFault) (parts : List ℕ) (rule at : ℕ)
    → at ≡ frame + length contents → AreParts mode frame contents parts → Refuses mode content rule
    → RunsThrough mode frame (contents ++ content ∷ more) fault parts (Stream at (Rule rule))
run_refused mode frame [] content more fault parts rule at is are refused =
    inr (rule, refused, are, ap (λ (n : ℕ). Stream n (Rule rule)) (is ∙ plus_none frame))
run_refused mode frame (c ∷ cs) content more fault parts rule at is are refused =
    inl (
      are.0,
      are.1,
      are.2,
      run_refused mode (frame + 1) cs content more fault are.1 rule at
          (is ∙ plus_more frame (length cs)) are.3 refused,
      are.4,
    )
