use Rattle.lsp_replay.proofs.JsonSteps.{json_closes}
use Rattle.lsp_replay.proofs.as_json.JsonAccount.end.Goals as goal

pub returns : goal.returns
returns g c = record {
  closes = λ terms heard stands stood few.
      json_closes c.clear.ensures.bytes c.as_str.ensures.value c.in_ok-push_objects.ensures.ok
      (c.in_ok-outcome.ensures.closes terms heard stands.0 stood few);
}
