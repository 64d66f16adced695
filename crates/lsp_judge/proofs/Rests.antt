-- Which streams end inside a frame, where no event offends.
use Rattle.std.proofs.Common.{◌≡◌, ℕ, List, [], ◌∷◌, ◌++◌, None, refl, ap, subst, ◌∙◌}
use Rattle.std.specs.List.{AllZip}
use Rattle.lsp_replay.specs.Common.{Bounds, broken, content, decoder_of, ends_inside, Event}
use Rattle.lsp_replay.specs.Common.{first_from, first_no, HasRest, is_rest, joined, no_at, Reads}
use Rattle.lsp_replay.specs.Common.{show, Side, Terms}
use Rattle.lsp_log.specs.Log.{Record}
use Rattle.lsp_replay.specs.Streams as frames
use Rattle.lsp_replay.proofs.Fronts.{faults_in, side_rest, side_ends}
use Rattle.lsp_verdict.specs.Placed.{Raw}
use Rattle.lsp_verdict.proofs.Below.{one_stream}
use Rattle.lsp_verdict.proofs.LookBackLemmas.{or_none_parts}

-- where no event offends, none is a fault of the frames
clean_sound : (terms : Terms) (before events : List Event) (raws : List Raw)
    → AllZip Reads raws events → first_from (no_at terms) before events ≡ None → faults_in raws ≡ 0
clean_sound terms before [] [] reads none = refl
clean_sound terms before (e ∷ events) (content side bytes ∷ raws) reads none =
    clean_sound terms (before ++ e ∷ []) events raws reads.1
    (or_none_parts (no_at terms before e) (first_from (no_at terms) (before ++ e ∷ []) events)
    none).1
clean_sound terms before (e ∷ events) (show number uri text ∷ raws) reads none =
    clean_sound terms (before ++ e ∷ []) events raws reads.1
    (or_none_parts (no_at terms before e) (first_from (no_at terms) (before ++ e ∷ []) events)
    none).1
clean_sound terms before (e ∷ events) (broken side rule ∷ raws) reads none =
    let first = (or_none_parts (no_at terms before e)
    (first_from (no_at terms) (before ++ e ∷ []) events) none).0 in
    let same = subst (λ (x : Event). no_at terms before x ≡ None) reads.0 first in
    absurd cc
clean_sound terms before _ _ reads none = absurd reads

-- **a side's frames end inside one just where bytes are left**
pub inside_is : (terms : Terms) (limits : Bounds) (s : frames.State) (records : List Record)
    (raws : List Raw) (events : List Event) (side : Side) (rest : List ℕ)
    → frames.Stands limits s records raws [] → AllZip Reads raws events
    → first_no terms events ≡ None
    → HasRest limits (joined side records) rest → ends_inside (decoder_of side s) ≡ is_rest rest
inside_is terms limits s records raws events side rest h read clean has =
    let sound = clean_sound terms [] events raws read clean in
    let held = side_rest limits s records raws h sound side in
    side_ends limits s records raws h sound side
    ∙ ap is_rest (one_stream limits (joined side records) held.0 has.0 (decoder_of side s).rest
    rest held.1 has.1 held.2 has.2).rest
