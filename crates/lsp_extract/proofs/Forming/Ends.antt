-- How a log without a fault ends, after events that were counted.
use Rattle.std.specs.Option.{option_or}
use Rattle.std.proofs.Common.{◌≡◌, List, [], ◌∷◌, ◌++◌, Bool, true, false, Option, Some, None, refl}
use Rattle.std.proofs.Common.{sym, ap, subst, ◌∙◌}
use Rattle.lsp_replay.specs.Common.{Bounds, broken, content, ending, ends_inside, first_from}
use Rattle.lsp_replay.specs.Common.{is_rest, show}
use Rattle.lsp_log.specs.Log.{Record}
use Rattle.lsp_extract.specs.Normal.{first_broken, fault_of, no_at, no_next, rest_of, CarriesCapped}
use Rattle.lsp_extract.specs.Normal.{EndsWhole}
use Rattle.lsp_replay.specs.Streams.{State, Stands}
use Rattle.lsp_types.specs.declared.side.Side.TheVariants.{Editor, Server}
use Rattle.lsp_verdict.specs.Placed.{Raw}
use Rattle.lsp_verdict.specs.Verdict.{Verdict}
use Rattle.lsp_verdict.specs.declared.outcome.Outcome.{Outcome}
use Rattle.lsp_replay.proofs.Fronts.{faults_in, side_rest, side_ends}

sound_from : (before raws : List Raw) → first_from no_at before raws ≡ None → faults_in raws ≡ 0
sound_from before [] sound = refl
sound_from before (content side bytes ∷ raws) sound =
    sound_from (before ++ content side bytes ∷ []) raws sound
sound_from before (broken side rule ∷ raws) sound = absurd cc
sound_from before (show number uri text ∷ raws) sound =
    sound_from (before ++ show number uri text ∷ []) raws sound

module _ (limits : Bounds) (s : State) (records : List Record) (given : List Raw)
    (h : Stands limits s records given []) (sound : first_broken given ≡ None) where
  none_broken : faults_in given ≡ 0
  none_broken = sound_from [] given sound

  rests_are : (editor server : Bool) (outcome : Outcome) → ends_inside s.editor ≡ editor
      → ends_inside s.server ≡ server → CarriesCapped outcome (rest_of given editor server)
      → EndsWhole limits records given outcome
  rests_are editor server outcome of_editor of_server carries =
      let e : is_rest s.editor.rest ≡ editor =
      sym (side_ends limits s records given h none_broken Editor) ∙ of_editor in
      let f : is_rest s.server.rest ≡ server =
      sym (side_ends limits s records given h none_broken Server) ∙ of_server in
      let due : rest_of given editor server
      ≡ fault_of given (ending None s.editor.rest s.server.rest) =
      ap (λ (b : Bool). rest_of given b server) (sym e)
      ∙ ap (rest_of given (is_rest s.editor.rest)) (sym f)
      ∙ ap (λ (o : Option Verdict). option_or o
      (rest_of given (is_rest s.editor.rest) (is_rest s.server.rest))) (sym sound) in
      record {
        editor = s.editor.rest;
        server = s.server.rest;
        editor_rest = side_rest limits s records given h none_broken Editor;
        server_rest = side_rest limits s records given h none_broken Server;
        carries = subst (CarriesCapped outcome) due carries;
      }

  -- inside a frame of the editor's
  pub editor_ends : (outcome : Outcome) → ends_inside s.editor ≡ true
      → CarriesCapped outcome (Some (no_next 107 Editor given))
      → EndsWhole limits records given outcome
  editor_ends outcome inside carries =
      rests_are true (ends_inside s.server) outcome inside refl carries

  -- inside a frame of the server's
  pub server_ends : (outcome : Outcome) → ends_inside s.editor ≡ false → ends_inside s.server ≡ true
      → CarriesCapped outcome (Some (no_next 107 Server given))
      → EndsWhole limits records given outcome
  server_ends outcome editor inside carries = rests_are false true outcome editor inside carries

  -- with nothing left
  pub whole_ends : (outcome : Outcome) → ends_inside s.editor ≡ false → ends_inside s.server ≡ false
      → CarriesCapped outcome None → EndsWhole limits records given outcome
  whole_ends outcome editor server carries = rests_are false false outcome editor server carries
