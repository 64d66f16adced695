use Rattle.std.proofs.Common.{◌≡◌, [], refl, ap}
use Rattle.lsp_frame.specs.Decoder.{State}
use Rattle.lsp_types.specs.declared.side.Side.{Side}
use Rattle.lsp_types.specs.declared.side.Side.TheVariants.{Editor, Server}
use Rattle.lsp_replay.specs.Streams.{IsDue, of_side}
use Rattle.lsp_replay.proofs.Giving.{new_due}
use Rattle.lsp_replay.proofs.streams.Streams.new.Goals as goal

pub returns : goal.returns
returns c = record {
  range = c.header-header.ensures.range;
  placed = refl;
  own = own;
  sides = sides;
  shows = refl;
  holds = tt;
}
  where
    own : (side : Side) → (of_side side c.new.result c.new-2.result).limits ≡ c.args.limits
    own Editor = ap (λ (s : State). s.limits) c.new.ensures.value
    own Server = ap (λ (s : State). s.limits) c.new-2.ensures.value

    sides : (side : Side) → IsDue side (of_side side c.new.result c.new-2.result) [] []
    sides Editor =
        new_due c.args.limits c.header-header.ensures.range Editor c.new.result c.new.ensures.value
        c.new.ensures.stands
    sides Server =
        new_due c.args.limits c.header-header.ensures.range Server c.new-2.result
        c.new-2.ensures.value c.new-2.ensures.stands
