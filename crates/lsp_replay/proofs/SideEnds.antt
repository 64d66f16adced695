-- What is left of the bytes of a side at the end of a log, and whether its stream ends inside a
-- frame.
use Rattle.std.specs.Prelude.{not, ◌&&◌, is_some}
use Rattle.std.specs.List.{AllZip, list_any}
use Rattle.std.proofs.Common.{◌≡◌, ℕ, false, List, [], Option, Some, None, refl, sym, ap, ◌∙◌}
use Rattle.std.proofs.Math.Bool.{and-false, and-true}
use Rattle.lsp_frame.specs.Bounds.{Bounds}
use Rattle.lsp_types.specs.declared.side.Side.{Side}
use Rattle.lsp_log.specs.Log.{Record}
use Rattle.lsp_replay.specs.Streams as streams
use Rattle.lsp_replay.specs.Streams.{State, Stands, decoder_of, ends_at}
use Rattle.lsp_replay.proofs.FrameRules.{faults_are}
use Rattle.lsp_replay.proofs.Fronts.{whole_rest}
use Rattle.lsp_verdict.specs.Offences.{IsNoted, Noted, events_of, is_frame_fault}
use Rattle.lsp_verdict.specs.Outcome.{HasRest, is_rest}
use Rattle.lsp_verdict.specs.Placed.{Raw, joined}
use Rattle.lsp_verdict.specs.Survey.{ends_inside}
use Rattle.lsp_verdict.proofs.Below.{one_stream}

module _ (limits : Bounds) (s : State) (records : List Record) (past : List Raw)
    (notes : List Noted) (side : Side) (rest : List ℕ) (h : Stands limits s records past [])
    (all : AllZip IsNoted past notes) (has : HasRest limits (joined side records) rest) where
  -- of a stream whose frames have no fault the decoder holds the rest
  held : (decoder_of side s).fault ≡ None → rest ≡ (decoder_of side s).rest
  held whole =
      let own = whole_rest limits s records past h side whole in
      (one_stream limits (joined side records) has.0 own.0 rest (decoder_of side s).rest has.1 own.1
      has.2 own.2).rest

  pub rest_held : list_any (is_frame_fault side) (events_of notes) ≡ false
      → rest ≡ (decoder_of side s).rest
  rest_held none = held (no_fault (decoder_of side s).fault
      (sym (faults_are limits s records past [] notes side h all) ∙ none))
    where
      no_fault : (f : Option ℕ) → is_some f ≡ false → f ≡ None
      no_fault None e = refl
      no_fault (Some rule) e = absurd cc

  pub inside_is : streams.ends_inside (decoder_of side s)
      ≡ ends_inside side (events_of notes) (is_rest rest)
  inside_is = by_fault (decoder_of side s).fault refl
    where
      faults : (f : Option ℕ) → (decoder_of side s).fault ≡ f
          → list_any (is_frame_fault side) (events_of notes) ≡ is_some f
      faults f is = faults_are limits s records past [] notes side h all ∙ ap is_some is

      by_fault : (f : Option ℕ) → (decoder_of side s).fault ≡ f
          → streams.ends_inside (decoder_of side s)
          ≡ ends_inside side (events_of notes) (is_rest rest)
      by_fault None is =
          ap (λ (f : Option ℕ). ends_at f (decoder_of side s).rest) is
          ∙ ap is_rest (sym (held is))
          ∙ sym (and-true (is_rest rest))
          ∙ ap (λ b. is_rest rest && not b) (sym (faults None is))
      by_fault (Some rule) is =
          ap (λ (f : Option ℕ). ends_at f (decoder_of side s).rest) is
          ∙ sym (and-false (is_rest rest))
          ∙ ap (λ b. is_rest rest && not b) (sym (faults (Some rule) is))
