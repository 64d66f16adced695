-- What a caller of `next` concludes of the records given.
use Rattle.std.proofs.Common.{◌≡◌, ℕ, [], List, None, append-nil, subst}
use Rattle.lsp_log.specs.Log as log
use Rattle.lsp_log.specs.Reader.{State, StandsFor, Begins, kept_by}
use Rattle.lsp_log.proofs.Ended.{begins_at}

-- **The records given so far stand first in every log that begins with the bytes read.**
pub begins_open : (s : State) (bytes : List ℕ) (records : List log.Record) → kept_by s ≡ None → StandsFor s bytes records → Begins s.limits bytes s.format records
begins_open s bytes records free stands = subst (λ (w : List ℕ). Begins s.limits w s.format records) (append-nil bytes) (begins_at s bytes [] records s.progress free stands.1)
