-- What is left of what is kept of events.
use Rattle.std.specs.Prelude.{ℕ, map, Option, option_map}
use Rattle.lsp_rpc.specs.Act as act
use Rattle.lsp_redact.specs.Characters.{bytes_left, text_of}
use Rattle.lsp_redact.specs.Kept as kept
use Rattle.lsp_redact.specs.Names.{Names, shown_encoding, shown_id, shown_method, uri_of}
use Rattle.lsp_redact.specs.Shape as shape

abbrev pub shown_offer : Names → act.Offer → shape.Offer
shown_offer names offer = record {
  encodings = option_map (map (shown_encoding names)) offer.encodings;
  token = option_map (shown_id names) offer.token;
}

abbrev pub shown_picked : Names → act.Picked → shape.Picked
shown_picked names picked = record {
  encoding = shown_encoding names picked.encoding;
  kind = picked.kind;
}

abbrev pub shown_change : Option ℕ → act.Change → shape.Change
shown_change apart change = record {
  span = change.span;
  range_length = change.range_length;
  text = bytes_left apart change.text;
}

-- what a message means
abbrev pub shown_act : Names → Option ℕ → act.Act → shape.Params
shown_act names apart (act.initialize offer) = shape.initialize (shown_offer names offer)
shown_act names apart (act.did_open uri version text) =
    shape.did_open (uri_of names uri) version (bytes_left apart text)
shown_act names apart (act.did_change uri version changes) =
    shape.did_change (uri_of names uri) version (map (shown_change apart) changes)
shown_act names apart (act.did_close uri) = shape.did_close (uri_of names uri)
shown_act names apart (act.did_save uri text) =
    shape.did_save (uri_of names uri) (option_map (bytes_left apart) text)
shown_act names apart (act.cancel id) = shape.cancel (shown_id names id)
shown_act names apart (act.progress token) = shape.progress (shown_id names token)
shown_act names apart (act.register methods) = shape.register (map (shown_method names) methods)
shown_act names apart _ = shape.unread

abbrev pub shown_reply : Names → kept.Reply → shape.Reply
shown_reply names (kept.picks picked) = shape.picks (shown_picked names picked)
shown_reply names kept.nothing = shape.nothing
shown_reply names (kept.failed code) = shape.failed code

abbrev pub shown_head : Names → kept.Head → shape.Head
shown_head names (kept.request id method) =
    shape.request (shown_id names id) (shown_method names method)
shown_head names (kept.notification method) = shape.notification (shown_method names method)
shown_head names (kept.response id reply) =
    shape.response (option_map (shown_id names) id) (shown_reply names reply)

-- **what is left of what is kept of an event**
abbrev pub shown_kept : Names → Option ℕ → kept.Kept → shape.Event
shown_kept names apart (kept.message side head act) =
    shape.message side (shown_head names head) (shown_act names apart act)
shown_kept names apart (kept.snapshot uri number text) =
    shape.snapshot (uri_of names uri) number (text_of apart text)
