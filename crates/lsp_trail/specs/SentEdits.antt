-- The changes of messages: how many are looked at, and how large they are.
use Rattle.std.specs.Prelude.{ℕ, ℤ, ◌+◌, ◌&&◌, nat_lt, not, Bool, List, length, map}
use Rattle.std.specs.List.{sum_by}
use Rattle.lsp_replay.specs.Common.{byte_len, Edit, edits_of}
use Rattle.lsp_trail.specs.declared.base.SentChanges.{SentChanges}

-- those of a message, and the version that it set
pub record SentEdits : Type 0 where
  pub number : ℤ
  pub edits : List Edit

abbrev pub sent_edits : ℤ → List Edit → SentEdits
sent_edits number edits = record { number = number; edits = edits }

-- ---- how many of them are looked at, and how large they may be

abbrev pub most_sent : ℕ
most_sent = 33

abbrev pub most_size : ℕ
most_size = 1048576

-- what a change counts beside its text
abbrev pub per_change : ℕ
per_change = 64

abbrev pub weight : Edit → ℕ
weight edit = per_change + byte_len edit.text

abbrev pub edits_size : List Edit → ℕ
edits_size edits = sum_by weight edits

abbrev pub sent_size : SentEdits → ℕ
sent_size s = edits_size s.edits

abbrev pub total_size : List SentEdits → ℕ
total_size sent = sum_by sent_size sent

-- they are few enough, and small enough
abbrev pub are_few : List SentEdits → Bool
are_few sent = not (nat_lt most_sent (length sent)) && not (nat_lt most_size (total_size sent))

-- ---- as they are held

abbrev pub sent_view : SentChanges → SentEdits
sent_view s = sent_edits s.version (edits_of s.changes.items)

abbrev pub sents_view : List SentChanges → List SentEdits
sents_view held = map sent_view held
