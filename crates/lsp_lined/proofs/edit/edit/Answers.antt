use Rattle.std.proofs.Common.{ℕ, List, length, Result, Ok, arith, ap, sym, ◌∙◌}
use Rattle.std.specs.Str.{chars}
use Rattle.lsp_text.proofs.Splices.{replaced-reversed, replaced-over, replaced-within}
use Rattle.lsp_text.proofs.Spans.{past_found}
use Rattle.lsp_lined.proofs.StepCounts.{counted_first, counted_second, counted_all, on_err, within_limit}
use Rattle.lsp_lined.proofs.edit.edit.Goals as goal

pub returns-in_default-clause-err_counted : goal.returns-in_default-clause-err_counted
returns-in_default-clause-err_counted c =
    counted_first (chars c.args.lines.now) (chars c.args.text.now) c.args.span c.args.steps.now c.read_at-line.new.steps c.read_at-line.ensures.counted

pub returns-in_default-find_second-clause-err_counted : goal.returns-in_default-find_second-clause-err_counted
returns-in_default-find_second-clause-err_counted c =
    counted_second (chars c.args.lines.now) (chars c.args.text.now) c.args.span c.args.steps.now c.read_at-line.new.steps c.find_second.new.steps c.read_at-line.ensures.counted c.find_second.ensures.counted

pub returns-then-second-first-clause-fault : goal.returns-then-second-first-clause-fault
returns-then-second-first-clause-fault c =
    replaced-reversed c.args.encoding c.args.lines.now (chars c.args.text.now) c.args.span c.args.limit c.in-Some.first.offset c.in-Some-find_second.second.offset c.byte_len-bytes.ensures.utf8
    c.in-Some.ensures.place c.in-Some-find_second.ensures.place c.if-second-first.true

pub returns-then-second-first-clause-err_counted : goal.returns-then-second-first-clause-err_counted
returns-then-second-first-clause-err_counted c =
    counted_second (chars c.args.lines.now) (chars c.args.text.now) c.args.span c.args.steps.now c.read_at-line.new.steps c.find_second.new.steps c.read_at-line.ensures.counted c.find_second.ensures.counted

pub returns-then-is_over-clause-fault : goal.returns-then-is_over-clause-fault
returns-then-is_over-clause-fault c =
    let le = c.in-Some-find_second.ensures.place.boundary.0 in
    let over = c.is_over.ensures.0 c.if-is_over.true in
    replaced-over c.args.encoding c.args.lines.now c.args.text.now c.args.span c.args.limit c.in-Some.first.offset c.in-Some-find_second.second.offset c.byte_len-bytes.ensures.utf8 c.utf8.text
    c.in-Some.ensures.place c.in-Some-find_second.ensures.place c.if-second-first.false (omega (arith, c.byte_len-bytes.ensures.value))

pub returns-then-is_over-clause-err_counted : goal.returns-then-is_over-clause-err_counted
returns-then-is_over-clause-err_counted c =
    counted_second (chars c.args.lines.now) (chars c.args.text.now) c.args.span c.args.steps.now c.read_at-line.new.steps c.find_second.new.steps c.read_at-line.ensures.counted c.find_second.ensures.counted

pub replace-requires : goal.replace-requires
replace-requires c = record { order = c.if-second-first.false; first = c.in-Some.ensures.place.boundary; second = c.in-Some-find_second.ensures.place.boundary }

pub returns-in_err-replace-clause-err_counted : goal.returns-in_err-replace-clause-err_counted
returns-in_err-replace-clause-err_counted c =
    on_err c.from_residual.result
    (counted_second (chars c.args.lines.now) (chars c.args.text.now) c.args.span c.args.steps.now c.read_at-line.new.steps c.find_second.new.steps c.read_at-line.ensures.counted c.find_second.ensures.counted)

pub returns-clause-ok : goal.returns-clause-ok
returns-clause-ok c =
    let le = c.in-Some-find_second.ensures.place.boundary.0 in
    let done : List ℕ → Result (List ℕ) ℕ = λ x. Ok x in
    let within = within_limit c.in-Some.first.offset c.in-Some-find_second.second.offset c.byte_len-bytes.result (length c.args.text.now) c.args.limit c.is_over.result c.is_over.ensures c.if-is_over.false in
    replaced-within c.args.encoding c.args.lines.now c.args.text.now c.args.span c.args.limit c.in-Some.first.offset c.in-Some-find_second.second.offset c.byte_len-bytes.ensures.utf8 c.utf8.text
    c.in-Some.ensures.place c.in-Some-find_second.ensures.place c.if-second-first.false (omega (arith, c.byte_len-bytes.ensures.value, within))
    ∙ ap done (ap chars (sym c.in_ok-replace.ensures.ok))

pub returns-clause-counted : goal.returns-clause-counted
returns-clause-counted c =
    counted_all (chars c.args.lines.now) c.args.text.now c.args.span c.args.steps.now c.read_at-line.new.steps c.find_second.new.steps c.add.new.self c.utf8.text c.read_at-line.ensures.counted c.find_second.ensures.counted c.add.ensures

pub returns-clause-past : goal.returns-clause-past
returns-clause-past c =
    past_found c.args.encoding (chars c.args.lines.now) c.args.span c.in-Some.first.extent
    c.in-Some-find_second.second.extent c.past_end_of.result c.in-Some.ensures.extent
    c.in-Some-find_second.ensures.extent c.past_end_of.ensures
