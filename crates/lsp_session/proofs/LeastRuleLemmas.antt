-- The rules on ids are less than those of the lifecycle, and these less than those of the
-- negotiation.
use Rattle.std.proofs.Common.{◌≡◌, ◌⊎◌, ℕ, ◌≤◌, List, [], ◌∷◌, Option, Some, None, is_some, inl}
use Rattle.std.proofs.Common.{inr, Bool, true, false, not, ◌&&◌, if◌then◌else◌, true≢false, refl}
use Rattle.std.proofs.Common.{sym, ap, ◌∙◌, subst, arith}
use Rattle.std.specs.Prelude.{nat_le}
use Rattle.std.specs.Option.{option_or}
use Rattle.std.proofs.lemmas.Bool.{and_parts, leb-true}
use Rattle.std.proofs.lemmas.Option.{same_Some}
use Rattle.lsp_rpc.specs.Act.{Act, Offer, Picked}
use Rattle.lsp_rpc.specs.Message.{Message, request, notification, response}
use Rattle.lsp_rpc.specs.Results.{picked_at}
use Rattle.lsp_types.specs.declared.side.Side.{Side}
use Rattle.lsp_types.specs.declared.side.Side.TheVariants.{Editor, Server}
use Rattle.lsp_session.specs.Entry.{Entry, has_id}
use Rattle.lsp_session.specs.Handshake.{Settled, settled_by}
use Rattle.lsp_session.specs.Laws.{LeastRule}
use Rattle.lsp_session.specs.Lifecycle.{Row, first_answer, fits, lifecycle_rule, table}
use Rattle.lsp_session.specs.Negotiation.{encoding_named, first_row, negotiation_rule, offers}
use Rattle.lsp_session.specs.Negotiation.{pick_rule, register_rule, registers_synchronisation}
use Rattle.lsp_session.specs.Negotiation.{settled_rule}
use Rattle.lsp_session.specs.Requests.{id_rule, open_requests, request_rule}
use Rattle.lsp_session.specs.Rules.{rule_after}
use Rattle.lsp_session.specs.Sent.{Sent, other_side}

-- the rule, if there is one, lies between these
abbrev is_within : ℕ → ℕ → Option ℕ → Bool
is_within low high None = true
is_within low high (Some rule) = nat_le low rule && nat_le rule high

if_within : (low high : ℕ) (b : Bool) (x y : Option ℕ) → is_within low high x ≡ true
    → is_within low high y ≡ true → is_within low high (if b then x else y) ≡ true
if_within low high true x y p q = p
if_within low high false x y p q = q

or_within : (low high : ℕ) (x y : Option ℕ) → is_within low high x ≡ true
    → is_within low high y ≡ true → is_within low high (option_or x y) ≡ true
or_within low high None y p q = q
or_within low high (Some x) y p q = p

ids_within : (own other : List Entry) (message : Message)
    → is_within 301 302 (id_rule own other message) ≡ true
ids_within own other (request id method params) =
    if_within 301 302 (has_id id own) (Some 302) None refl refl
ids_within own other (response (Some id) reply) =
    if_within 301 302 (has_id id other) None (Some 301) refl refl
ids_within own other _ = refl

abbrev all_within : ℕ → ℕ → List Row → Bool
all_within low high [] = true
all_within low high (row ∷ rows) = is_within low high row.answer && all_within low high rows

answer_within : (low high : ℕ) (test : Row → Bool) (rows : List Row)
    → all_within low high rows ≡ true → is_within low high (first_answer test rows) ≡ true
answer_within low high test [] h = refl
answer_within low high test (row ∷ rows) h =
    let parts = and_parts (is_within low high row.answer) (all_within low high rows) h in
    if_within low high (test row) row.answer (first_answer test rows) parts.0
    (answer_within low high test rows parts.1)

pick_within : (offer : Offer) (picked : Option Picked)
    → is_within 501 504 (pick_rule offer picked) ≡ true
pick_within offer None = refl
pick_within offer (Some picked) =
    go (not (offers offer picked.encoding)) (not (is_some (encoding_named picked.encoding)))
  where
    go : (a b : Bool) → is_within 501 504 (first_row ((a, Some 502) ∷ (b, Some 503) ∷ [])) ≡ true
    go true b = refl
    go false true = refl
    go false false = refl

settled_within : (settled : Option Settled) → is_within 501 504 (settled_rule settled) ≡ true
settled_within None = refl
settled_within (Some settled) = pick_within settled.offer (picked_at settled.value)

register_within : (side : Side) (act : Act) → is_within 501 504 (register_rule side act) ≡ true
register_within Editor act = refl
register_within Server act =
    if_within 501 504 (registers_synchronisation act) (Some 504) None refl refl

-- ---- the least

bounds : (low high rule : ℕ) → is_within low high (Some rule) ≡ true → (low ≤ rule) × (rule ≤ high)
bounds low high rule h =
    let parts = and_parts (nat_le low rule) (nat_le rule high) h in
    (leb-true low rule parts.0, leb-true rule high parts.1)

least : (a b c : Option ℕ) → is_within 301 302 a ≡ true → is_within 401 412 b ≡ true
    → is_within 501 504 c ≡ true
    → (rule : ℕ) → option_or a (option_or b c) ≡ Some rule
    → ((a ≡ Some rule) ⊎ ((b ≡ Some rule) ⊎ (c ≡ Some rule)))
    × ((other : ℕ) → (a ≡ Some other) ⊎ ((b ≡ Some other) ⊎ (c ≡ Some other)) → rule ≤ other)
least (Some x) b c p q r rule e =
    let own : x ≡ rule = same_Some x rule e in
    let range = bounds 301 302 x p in (
      inl e,
      λ other h. elim h [
        | inl k ↦ let same : x ≡ other = same_Some x other k in omega arith
        | inr g ↦ elim g [
          | inl k ↦ let above = bounds 401 412 other
              (subst (λ o. is_within 401 412 o ≡ true) k q) in omega arith
          | inr k ↦ let above = bounds 501 504 other
              (subst (λ o. is_within 501 504 o ≡ true) k r) in omega arith
        ]
      ],
    )
least None (Some y) c p q r rule e =
    let own : y ≡ rule = same_Some y rule e in
    let range = bounds 401 412 y q in (
      inr (inl e),
      λ other h. elim h [
        | inl k ↦ absurd (true≢false (sym (ap is_some k)))
        | inr g ↦ elim g [
          | inl k ↦ let same : y ≡ other = same_Some y other k in omega arith
          | inr k ↦ let above = bounds 501 504 other
              (subst (λ o. is_within 501 504 o ≡ true) k r) in omega arith
        ]
      ],
    )
least None None c p q r rule e = (
  inr (inr e),
  λ other h. elim h [
    | inl k ↦ absurd (true≢false (sym (ap is_some k)))
    | inr g ↦ elim g [
      | inl k ↦ absurd (true≢false (sym (ap is_some k)))
      | inr k ↦ let same : rule ≡ other = same_Some rule other (sym e ∙ k) in omega arith
    ]
  ],
)

pub least_rule : LeastRule
least_rule before m rule e =
    least (request_rule before m) (lifecycle_rule before m) (negotiation_rule before m)
    (ids_within (open_requests m.side before) (open_requests (other_side m.side) before) m.message)
    (answer_within 401 412 (fits before m) table refl)
    (or_within 501 504 (settled_rule (settled_by before m)) (register_rule m.side m.act)
    (settled_within (settled_by before m)) (register_within m.side m.act))
    rule e

-- no rule of a session is above 504
pub rules_end : (before : List Sent) (m : Sent) (rule : ℕ) → rule_after before m ≡ Some rule
    → rule ≤ 504
rules_end before m rule e = elim (least_rule before m rule e).0 [
  | inl k ↦ let range = bounds 301 302 rule
      (subst (λ o. is_within 301 302 o ≡ true) k
      (ids_within (open_requests m.side before) (open_requests (other_side m.side) before)
      m.message)) in omega arith
  | inr g ↦ elim g [
    | inl k ↦ let range = bounds 401 412 rule
        (subst (λ o. is_within 401 412 o ≡ true) k
        (answer_within 401 412 (fits before m) table refl)) in omega arith
    | inr k ↦ let range = bounds 501 504 rule (subst (λ o. is_within 501 504 o ≡ true) k
        (or_within 501 504 (settled_rule (settled_by before m)) (register_rule m.side m.act)
        (settled_within (settled_by before m)) (register_within m.side m.act))) in omega arith
  ]
]
