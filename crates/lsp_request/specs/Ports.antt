-- What is known of an input, with its first bytes, and of an output.
use Rattle.std.specs.Prelude.{ℕ, List, take, Option}
use Rattle.std.specs.Io.Buffered.{writer_buffer}
use Rattle.std.specs.declared.io.Error.{Error}
use Rattle.lsp_request.specs.declared.beginning.Beginning.{Beginning}
use Rattle.lsp_request.specs.declared.input.BufferedInput.{BufferedInput}
use Rattle.lsp_request.specs.declared.output.BufferedOutput.{BufferedOutput}

-- ---- the first bytes of an input

-- the bytes that are kept
abbrev pub kept : Beginning → List ℕ
kept b = take b.count b.bytes

-- ---- what is known of an input and an output

-- the bytes that an output took and has not written
abbrev pub unwritten : {W V : Type 0} → BufferedOutput W V → List ℕ
unwritten o = writer_buffer o.writer.writer

-- the first bytes that an input gave
abbrev pub first_bytes : {R V : Type 0} → BufferedInput R V → List ℕ
first_bytes i = kept i.beginning

-- the error by which an input last failed
abbrev pub input_error : {R V : Type 0} → BufferedInput R V → Option Error
input_error i = i.reader.tally.cause

-- the error by which an output last failed
abbrev pub output_error : {W V : Type 0} → BufferedOutput W V → Option Error
output_error o = o.writer.tally.cause

-- the error of its writer by which an output has still to fail
abbrev pub late_error : {W V : Type 0} → BufferedOutput W V → Option Error
late_error o = o.writer.late
