use Rattle.lsp_frame.proofs.Steps.{push_stands_ok, push_room_ok}
use Rattle.lsp_frame.proofs.decoder.Decoder.push.Goals as goal

pub returns-clause-stands : goal.returns-clause-stands
returns-clause-stands c = push_stands_ok c.append.result c.args.self.now c.append.new.self c.args.piece.now c.append.ensures.ok

pub returns-clause-held : goal.returns-clause-held
returns-clause-held c = push_room_ok c.append.result c.args.self.now c.append.new.self c.args.piece.now c.append.ensures.ok
