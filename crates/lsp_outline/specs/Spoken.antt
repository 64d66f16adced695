-- What a content says on its side.
use Rattle.std.specs.Prelude.{◌≡◌, ◌⊎◌, ℕ, List, Some}
use Rattle.lsp_rpc.specs.Act.{Act}
use Rattle.lsp_rpc.specs.Message.{Message}
use Rattle.lsp_rpc.specs.Outline.{outline, without_params}
use Rattle.lsp_rpc.specs.Params.{act_at}
use Rattle.lsp_rpc.specs.Reading.{Reads}
use Rattle.lsp_outline.specs.declared.outline.Results.{Results}
use Rattle.lsp_outline.specs.declared.outline.Results.TheVariants.{LeftOut}
use Rattle.lsp_types.specs.declared.side.Side.{Side}

-- the content is a message that means this on its side, and this is left of it: the message without
-- its params, and without the value of its result where that may be left out
pub record Says (results : Results) (side : Side) (content : List ℕ) (left : Message) (act : Act)
    : Type 0 where
  pub whole : Message
  pub reads : Reads content whole
  pub means : act_at side whole ≡ Some act
  pub rest : (left ≡ without_params whole) ⊎ ((results ≡ LeftOut) × (left ≡ outline whole))
