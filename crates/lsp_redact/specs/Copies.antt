-- What a message says about a document.
use Rattle.lsp_rpc.specs.Act.{Act, did_open, did_change, did_close, did_save, other}

-- what it means, if that is about a document
abbrev pub call_of : Act → Act
call_of (did_open uri number text) = did_open uri number text
call_of (did_change uri number changes) = did_change uri number changes
call_of (did_close uri) = did_close uri
call_of (did_save uri text) = did_save uri text
call_of _ = other
