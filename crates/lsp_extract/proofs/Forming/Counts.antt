-- The verdict that ends a normal form has exact numbers: a log has no more events than bytes.
use Rattle.std.specs.Prelude.{filter, option_map}
use Rattle.std.specs.Option.{option_or}
use Rattle.std.proofs.Common.{◌≡◌, ℕ, ◌+◌, ◌^◌, ◌<◌, List, [], ◌∷◌, ◌++◌, length, Bool, true, false}
use Rattle.std.proofs.Common.{Option, Some, None, refl, sym, ap, subst, ◌∙◌, length-append, arith}
use Rattle.std.proofs.lemmas.Option.{same_Some}
use Rattle.lsp_replay.specs.Common.{as_given, Bounds, broken, capped, content, ending, first_from}
use Rattle.lsp_replay.specs.Common.{Format, IsInRange, IsLog, LogCode, no, Placed, show, Side}
use Rattle.lsp_replay.specs.Common.{who_of}
use Rattle.lsp_types.specs.declared.side.Side.TheVariants.{Editor, Server}
use Rattle.lsp_log.specs.Log.{Record}
use Rattle.lsp_verdict.specs.Placed.{Raw}
use Rattle.lsp_verdict.specs.Verdict.{Verdict}
use Rattle.lsp_verdict.proofs.EventCounts.{count_few}
use Rattle.lsp_verdict.proofs.ExactCounts.{capped_is, raws_within}
use Rattle.lsp_extract.specs.Normal.{is_of, no_next, no_at, first_broken, rest_of, fault_of}

next_exact : (rule : ℕ) (side : Side) (before : List Raw) → length before + 1 < 2 ^ 64
    → as_given (no_next rule side before) ≡ no_next rule side before
next_exact rule side before small =
    let number = capped_is (length (filter (is_of side) before) + 1)
    (omega (arith, small, count_few (is_of side) before)) in
    let event = capped_is (length before + 1) small in
    ap (λ n. no rule (who_of side) n (capped (length before + 1))) number
    ∙ ap (λ n. no rule (who_of side) (length (filter (is_of side) before) + 1) n) event

broken_from : (before raws : List Raw) (v : Verdict) → length before + length raws < 2 ^ 64
    → first_from no_at before raws ≡ Some v → as_given v ≡ v
broken_from before [] v small e = absurd cc
broken_from before (content side bytes ∷ raws) v small e =
    broken_from (before ++ content side bytes ∷ []) raws v
    (omega (arith, small, length-append before (content side bytes ∷ []))) e
broken_from before (broken side rule ∷ raws) v small e =
    subst (λ (w : Verdict). as_given w ≡ w) (same_Some _ _ e)
    (next_exact rule side before (omega (arith, small)))
broken_from before (show number uri text ∷ raws) v small e =
    broken_from (before ++ show number uri text ∷ []) raws v
    (omega (arith, small, length-append before (show number uri text ∷ []))) e

-- at a fault of the frames
pub broken_exact : (limits : Bounds) → IsInRange limits
    → (log : List ℕ) (format : Option Format) (records : List Record) (fault : Option (ℕ × LogCode))
    (raws : List Raw) (v : Verdict) → IsLog limits log format records fault
    → Placed limits records raws → first_broken raws ≡ Some v → as_given v ≡ v
broken_exact limits sizes log format records fault raws v is_log placed e =
    broken_from [] raws v (omega (
      arith,
      sizes.log_high,
      raws_within limits log format records fault raws is_log placed,
    )) e

rest_exact : (raws : List Raw) (editor server : Bool) → length raws + 1 < 2 ^ 64
    → option_map as_given (rest_of raws editor server) ≡ rest_of raws editor server
rest_exact raws true server small = ap Some (next_exact 107 Editor raws small)
rest_exact raws false true small = ap Some (next_exact 107 Server raws small)
rest_exact raws false false small = refl

-- at the end of a log without a fault
pub end_exact : (limits : Bounds) → IsInRange limits
    → (log : List ℕ) (format : Option Format) (records : List Record) (raws : List Raw)
    (editor server : List ℕ) → IsLog limits log format records None → Placed limits records raws
    → first_broken raws ≡ None
    → option_map as_given (fault_of raws (ending None editor server))
    ≡ fault_of raws (ending None editor server)
end_exact limits sizes log format records raws editor server is_log placed sound =
    let end = ending None editor server in
    let rest : Option Verdict = rest_of raws end.editor_rest end.server_rest in
    let small : length raws + 1 < 2 ^ 64 =
    omega (
      arith,
      sizes.log_high,
      raws_within limits log format records None raws is_log
          placed,
    ) in
    let is : fault_of raws end ≡ rest = ap (λ (o : Option Verdict). option_or o rest) sound in
    ap (option_map as_given) is ∙ rest_exact raws end.editor_rest end.server_rest small ∙ sym is
