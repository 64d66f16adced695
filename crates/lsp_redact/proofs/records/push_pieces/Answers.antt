use Rattle.std.proofs.Common.{max, string_bytes, arith}
use Rattle.lsp_redact.proofs.CutTexts.{no_characters_left, pieces_end, pieces_on, some_character}
use Rattle.lsp_redact.proofs.records.push_pieces.Goals as goal

pub loop-rest-preserved : goal.loop-rest-preserved
loop-rest-preserved c =
    let most = max c.args.most 1 in
    let rest = c.loop-rest.rest.now in
    let parts = c.split_front.result in
    record {
      utf8 = c.split_front.ensures.utf8.1;
      spelled = pieces_on c.args.side most rest parts.0.now parts.1.now
          (string_bytes c.loop-rest.text) (string_bytes c.push_piece.new.text) _ (omega arith)
          (some_character rest c.loop-rest.invariant.utf8 c.is_empty.result c.is_empty.ensures
          c.loop-rest-test.true) c.split_front.ensures.utf8.0 c.split_front.ensures.front
          c.split_front.ensures.back c.in_ok-push_piece.ensures c.loop-rest.invariant.spelled;
    }

pub returns : goal.returns
returns c =
    pieces_end c.args.side (max c.args.most 1) (string_bytes c.loop-rest.text) _ c.loop-rest.rest.now
    (no_characters_left c.loop-rest.rest.now c.is_empty.result c.is_empty.ensures
    c.loop-rest-test.false) c.loop-rest.invariant.spelled
