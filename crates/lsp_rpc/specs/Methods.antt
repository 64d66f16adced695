-- What a call means by its method, whatever its name is spelled like, and its params.
use Rattle.std.specs.Prelude.{◌≡◌, Option, Some, option_and_then}
use Rattle.serde_json.specs.Data.{Data}
use Rattle.lsp_rpc.specs.Act.{Act, initialized, shutdown, exit, early, other}
use Rattle.lsp_rpc.specs.Message.{Message, request, notification, response}
use Rattle.lsp_rpc.specs.Params.{initialize_at, did_open_at, did_change_at, did_close_at}
use Rattle.lsp_rpc.specs.Params.{did_save_at, cancel_at, progress_at, register_at}
use Rattle.lsp_rpc.specs.Params.{act_by, requests, notifications}
use Rattle.lsp_rpc.specs.declared.methods.Method.{Method}
use Rattle.lsp_rpc.specs.declared.methods.Method.TheVariants as methods
use Rattle.lsp_types.specs.declared.side.Side.{Side}

-- what a call of the method means with these params; `None` where they do not have its shape
abbrev pub meaning : Method → Option Data → Option Act
meaning methods.Initialize params = option_and_then initialize_at params
meaning methods.Initialized params = Some initialized
meaning methods.Shutdown params = Some shutdown
meaning methods.Exit params = Some exit
meaning methods.DidOpen params = option_and_then did_open_at params
meaning methods.DidChange params = option_and_then did_change_at params
meaning methods.DidClose params = option_and_then did_close_at params
meaning methods.DidSave params = option_and_then did_save_at params
meaning methods.Cancel params = option_and_then cancel_at params
meaning methods.Progress params = option_and_then progress_at params
meaning methods.Register params = option_and_then register_at params
meaning methods.Early params = Some early
meaning methods.Other params = Some other

-- a message of the side is of this method: it means the same with any params
abbrev pub IsMethod : Side → Message → Method → Type 0
IsMethod side (request id name own) method =
    (params : Option Data) → act_by (requests side) name params ≡ meaning method params
IsMethod side (notification name own) method =
    (params : Option Data) → act_by (notifications side) name params ≡ meaning method params
IsMethod side (response id reply) method =
    (params : Option Data) → Some other ≡ meaning method params
