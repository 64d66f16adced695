-- What the code keeps of an event, as the definitions see it.
use Rattle.std.specs.Prelude.{Bool, option_map, string_bytes, chars}
use Rattle.lsp_replay.specs.Common.{act_view, id_view, message_view, Side, Spoken}
use Rattle.lsp_rpc.specs.View.{picked_view}
use Rattle.lsp_redact.specs.Kept.{Head, request, notification, response}
use Rattle.lsp_redact.specs.Kept.{Kept, head_of, message, snapshot, Reply, picks, nothing, failed}
use Rattle.lsp_redact.specs.declared.kept.Head as head
use Rattle.lsp_redact.specs.declared.kept.Head.TheVariants as heads
use Rattle.lsp_redact.specs.declared.kept.Kept as kept
use Rattle.lsp_redact.specs.declared.kept.Kept.TheVariants as events
use Rattle.lsp_redact.specs.declared.kept.Reply as reply
use Rattle.lsp_redact.specs.declared.kept.Reply.TheVariants as replies

abbrev pub reply_view : reply.Reply → Reply
reply_view (replies.Picks picked) = picks (picked_view picked)
reply_view replies.Nothing = nothing
reply_view (replies.Error code) = failed code

abbrev pub head_view : head.Head → Head
head_view (heads.Request id method) = request (id_view id) (string_bytes method)
head_view (heads.Notification method) = notification (string_bytes method)
head_view (heads.Response id reply) = response (option_map id_view id) (reply_view reply)

abbrev pub kept_view : kept.Kept → Kept
kept_view (events.Message side head act) = message side (head_view head) (act_view act)
kept_view (events.Snapshot version uri text) =
    snapshot (string_bytes uri) version (chars (string_bytes text))

-- of a message of a side that is spoken, where an `initialize` is open or not
abbrev pub spoken_kept : Side → Bool → Spoken → Kept
spoken_kept side awaited s =
    message side (head_of awaited (message_view s.message)) (act_view s.act)
