use Rattle.std.proofs.Common.{◌≡◌, [], ◌∷◌, ◌++◌, w32, ap, ◌∙◌}
use Rattle.std.specs.Prelude.{codes, decimal}
use Rattle.std.specs.Fmt.{signed_decimal}
use Rattle.std.proofs.lemmas.Int.{to_z-of_z}
use Rattle.std.proofs.lemmas.Result.{err_from_is_err_and}
use Rattle.lsp_frame.proofs.Writing.{stopped_first, stopped_second, stopped_third, writes_four, four}
use Rattle.lsp_log.specs.Log.{head_line, shown_head, with_feed}
use Rattle.lsp_log.proofs.Written.{due_stops, due_writes, head_words}
use Rattle.lsp_log.proofs.write.put_snapshot_head.Goals as goal

pub returns-in_err-put_all : goal.returns-in_err-put_all
returns-in_err-put_all g c =
    let p = err_from_is_err_and c.from_residual.result c.from_residual.ensures.1 in
    rw p.1 (due_stops _ _ _ _ (head_words c.args.version c.args.uri c.args.text)
    (stopped_first _ _ (codes "T ") (signed_decimal c.args.version ++ 32 ∷ []) (decimal c.args.uri ++ 32 ∷ []) (with_feed (decimal c.args.text)) c.in_err-put_all.ensures))

pub returns-in_err-put_word : goal.returns-in_err-put_word
returns-in_err-put_word g c =
    let p = err_from_is_err_and c.from_residual-in_err-put_word.result c.from_residual-in_err-put_word.ensures.1 in
    let version : c.as_bytes.result.now ≡ signed_decimal c.args.version = c.as_bytes.ensures.value ∙ c.format.ensures.text ∙ ap signed_decimal (to_z-of_z w32 c.args.version c.ranges.version) in
    let due : with_feed (head_line (shown_head c.args.version c.args.uri c.args.text)) ≡ four (codes "T ") (c.as_bytes.result.now ++ 32 ∷ []) (decimal c.args.uri ++ 32 ∷ []) (with_feed (decimal c.args.text)) = cc (head_words c.args.version c.args.uri c.args.text) in
    rw p.1 (due_stops _ _ _ _ due (stopped_second _ _ _ (codes "T ") (c.as_bytes.result.now ++ 32 ∷ []) (decimal c.args.uri ++ 32 ∷ []) (with_feed (decimal c.args.text)) c.in_ok-put_all.ensures c.in_err-put_word.ensures))

pub returns-in_err-put_word-2 : goal.returns-in_err-put_word-2
returns-in_err-put_word-2 g c =
    let p = err_from_is_err_and c.from_residual-in_err-put_word-2.result c.from_residual-in_err-put_word-2.ensures.1 in
    let version : c.as_bytes.result.now ≡ signed_decimal c.args.version = c.as_bytes.ensures.value ∙ c.format.ensures.text ∙ ap signed_decimal (to_z-of_z w32 c.args.version c.ranges.version) in
    let uri : c.as_bytes-2.result.now ≡ decimal c.args.uri = c.as_bytes-2.ensures.value ∙ c.format-2.ensures.text in
    let due : with_feed (head_line (shown_head c.args.version c.args.uri c.args.text)) ≡ four (codes "T ") (c.as_bytes.result.now ++ 32 ∷ []) (c.as_bytes-2.result.now ++ 32 ∷ []) (with_feed (decimal c.args.text)) = cc (head_words c.args.version c.args.uri c.args.text) in
    rw p.1 (due_stops _ _ _ _ due (stopped_third _ _ _ _ (codes "T ") (c.as_bytes.result.now ++ 32 ∷ []) (c.as_bytes-2.result.now ++ 32 ∷ []) (with_feed (decimal c.args.text)) c.in_ok-put_all.ensures c.in_ok-put_word.ensures c.in_err-put_word-2.ensures))

pub returns : goal.returns
returns g c =
    let version : c.as_bytes.result.now ≡ signed_decimal c.args.version = c.as_bytes.ensures.value ∙ c.format.ensures.text ∙ ap signed_decimal (to_z-of_z w32 c.args.version c.ranges.version) in
    let uri : c.as_bytes-2.result.now ≡ decimal c.args.uri = c.as_bytes-2.ensures.value ∙ c.format-2.ensures.text in
    let text : c.as_bytes-3.result.now ≡ decimal c.args.text = c.as_bytes-3.ensures.value ∙ c.format-3.ensures.text in
    let due : with_feed (head_line (shown_head c.args.version c.args.uri c.args.text)) ≡ four (codes "T ") (c.as_bytes.result.now ++ 32 ∷ []) (c.as_bytes-2.result.now ++ 32 ∷ []) (with_feed c.as_bytes-3.result.now) = cc (head_words c.args.version c.args.uri c.args.text) in
    due_writes _ _ c.put_line.result _ _ due
    (writes_four _ _ _ _ _ c.put_line.result (codes "T ") (c.as_bytes.result.now ++ 32 ∷ []) (c.as_bytes-2.result.now ++ 32 ∷ []) (with_feed c.as_bytes-3.result.now) c.in_ok-put_all.ensures c.in_ok-put_word.ensures c.in_ok-put_word-2.ensures c.put_line.ensures)
