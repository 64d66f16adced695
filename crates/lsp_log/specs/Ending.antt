-- How the code finds what ends a log.
use Rattle.std.specs.Prelude.{◌≡◌, ℕ, ◌+◌, ◌-◌, ◌^◌, ◌≤◌, min, length, Option, Some, None, IsSome, Bool, false, Result, Ok, Err}
use Rattle.lsp_frame.specs.Told.{Told}
use Rattle.lsp_frame.specs.declared.format.Format.{Format}
use Rattle.lsp_log.specs.Log.{bad_line, bad_number, cut_short, bad_end, not_utf8, first_line, code_of}
use Rattle.lsp_log.specs.Tape.{Held, ReadFailed, FailsShort, IsCutAt, Taken}
use Rattle.lsp_log.specs.Stops.{LacksFirst, FoundAnswer}
use Rattle.lsp_log.specs.Reader.{State, passed}
use Rattle.lsp_log.specs.declared.record.Record.{Record}
use Rattle.lsp_log.specs.declared.fault.LogCode.{LogCode}
use Rattle.lsp_log.specs.declared.fault.LogCode.TheVariants.{L1}
use Rattle.lsp_log.specs.declared.fault.LogFault.{LogFault}
use Rattle.lsp_log.specs.declared.fault.LogFault.TheVariants as log_fault
use Rattle.lsp_log.specs.declared.stop.Stop.{Stop}
use Rattle.lsp_log.specs.declared.stop.Stop.TheVariants.{FirstLine, Nothing, Form, Number, Short, End, Text, Read, Memory}
use Rattle.lsp_log.specs.declared.reader.Progress.TheVariants as progress

-- the reader is after its first line: it was, or it reads the line now
pub data Starts (old mid : State) (before now : Told) : Type 0 where
  started : mid ≡ old → now ≡ before → Starts old mid before now
  starts : (format : Format) → old.progress ≡ progress.FirstLine → mid ≡ record old { tape = mid.tape; progress = progress.Records; format = Some format; place = mid.place } → mid.place ≡ passed mid → Taken old.tape mid.tape before now (first_line format) → Starts old mid before now

-- the reader failed; where the first line was not yet read, before all of it was there
abbrev pub FailsBehind : Option Format → Held → Told → Told → Type 0
FailsBehind None tape before after = FailsShort tape before after 14
FailsBehind (Some format) tape before after = ReadFailed tape.left before after

-- the next record, or why there is none
abbrev pub FoundFrom : State → Held → Told → Told → Result Record Stop → Type 0
FoundFrom s tape before after (Err FirstLine) = (s.progress ≡ progress.FirstLine) × (s.format ≡ None) × LacksFirst s.tape tape before after × (length tape.rest ≤ 64)
FoundFrom s tape before after (Err Read) = FailsBehind s.format s.tape before after
FoundFrom s tape before after result = (s.progress ≡ progress.Records) × IsSome s.format × (length tape.rest ≤ 64) × FoundAnswer s.limits s.tape tape before after result

-- the same, where the first line may have to be read before
pub record FindAnswer (old new : State) (before after : Told) (result : Result Record Stop) : Type 0 where
  pub mid : State
  pub now : Told
  pub begins : Starts old mid before now
  pub found : FoundFrom mid new.tape now after result
  pub same : new ≡ record mid { tape = new.tape }

abbrev pub StartAnswer : {X : Type 0} → State → State → Told → Told → Result X Stop → Type 0
StartAnswer old new before after (Ok x) = Starts old new before after × (new.progress ≡ progress.Records) × IsSome new.format
StartAnswer old new before after (Err stop) = FindAnswer old new before after (Err stop)

-- the number of the record after this many
abbrev pub next_number : ℕ → ℕ
next_number given = min (given + 1) (2 ^ 64 - 1)

abbrev pub end_of : ℕ → Option LogCode → Result (Unit {0}) LogFault
end_of given None = Ok tt
end_of given (Some code) = Err (log_fault.Bad (next_number given) code)

-- the final answer
abbrev pub fault_of : ℕ → Bool → Stop → Result (Unit {0}) LogFault
fault_of given cut FirstLine = Err (log_fault.Bad 0 L1)
fault_of given cut Nothing = end_of given (code_of None cut)
fault_of given cut Form = end_of given (code_of (Some bad_line) cut)
fault_of given cut Number = end_of given (code_of (Some bad_number) cut)
fault_of given cut Short = end_of given (code_of (Some cut_short) cut)
fault_of given cut End = end_of given (code_of (Some bad_end) cut)
fault_of given cut Text = end_of given (code_of (Some not_utf8) cut)
fault_of given cut Read = Err log_fault.Read
fault_of given cut Memory = Err log_fault.Memory

-- one byte more is asked for, to see whether the log continues past its limit
abbrev pub CutEnd : State → Told → Told → Stop → Result (Unit {0}) LogFault → Type 0
CutEnd s before after stop (Err log_fault.Read) = (s.tape.left ≡ 0) × ReadFailed 0 before after
CutEnd s before after stop result = (cut : Bool) × IsCutAt s.tape.left before after cut × (result ≡ fault_of s.given cut stop)

-- the final answer; a byte more is asked for only where bytes are wanted
abbrev pub EndAnswer : State → Told → Told → Stop → Result (Unit {0}) LogFault → Type 0
EndAnswer s before after Nothing result = CutEnd s before after Nothing result
EndAnswer s before after Short result = CutEnd s before after Short result
EndAnswer s before after stop result = (after ≡ before) × (result ≡ fault_of s.given false stop)
