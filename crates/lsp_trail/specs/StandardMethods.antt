-- The methods of LSP 3.17: which have requests, which notifications, and which side sends them. The
-- list is that of the standard's meta model, in its order.
use Rattle.std.specs.Prelude.{◌≡◌, ℕ, List, [], ◌∷◌, map, if◌then◌else◌, Option, Some, None, codes}
use Rattle.std.specs.Str.{bytes_eq}
use Rattle.lsp_types.specs.declared.side.Side.TheVariants.{Editor, Server}
use Rattle.lsp_trail.specs.declared.standard_methods.MethodUse.{MethodUse}
use Rattle.lsp_trail.specs.declared.standard_methods.MethodUse.TheVariants as uses
use Rattle.lsp_trail.specs.declared.standard_methods.TheConstants.{METHODS}

-- a method, and what has it
abbrev pub Row : Type 0
Row = List ℕ × MethodUse

-- ---- the standard

-- **the methods of LSP 3.17**: those of requests, then those of notifications
unfoldable pub standard : List Row
standard =
    (codes "textDocument/implementation", uses.Request Editor)
    ∷ (codes "textDocument/typeDefinition", uses.Request Editor)
    ∷ (codes "workspace/workspaceFolders", uses.Request Server)
    ∷ (codes "workspace/configuration", uses.Request Server)
    ∷ (codes "textDocument/documentColor", uses.Request Editor)
    ∷ (codes "textDocument/colorPresentation", uses.Request Editor)
    ∷ (codes "textDocument/foldingRange", uses.Request Editor)
    ∷ (codes "textDocument/declaration", uses.Request Editor)
    ∷ (codes "textDocument/selectionRange", uses.Request Editor)
    ∷ (codes "window/workDoneProgress/create", uses.Request Server)
    ∷ (codes "textDocument/prepareCallHierarchy", uses.Request Editor)
    ∷ (codes "callHierarchy/incomingCalls", uses.Request Editor)
    ∷ (codes "callHierarchy/outgoingCalls", uses.Request Editor)
    ∷ (codes "textDocument/semanticTokens/full", uses.Request Editor)
    ∷ (codes "textDocument/semanticTokens/full/delta", uses.Request Editor)
    ∷ (codes "textDocument/semanticTokens/range", uses.Request Editor)
    ∷ (codes "workspace/semanticTokens/refresh", uses.Request Server)
    ∷ (codes "window/showDocument", uses.Request Server)
    ∷ (codes "textDocument/linkedEditingRange", uses.Request Editor)
    ∷ (codes "workspace/willCreateFiles", uses.Request Editor)
    ∷ (codes "workspace/willRenameFiles", uses.Request Editor)
    ∷ (codes "workspace/willDeleteFiles", uses.Request Editor)
    ∷ (codes "textDocument/moniker", uses.Request Editor)
    ∷ (codes "textDocument/prepareTypeHierarchy", uses.Request Editor)
    ∷ (codes "typeHierarchy/supertypes", uses.Request Editor)
    ∷ (codes "typeHierarchy/subtypes", uses.Request Editor)
    ∷ (codes "textDocument/inlineValue", uses.Request Editor)
    ∷ (codes "workspace/inlineValue/refresh", uses.Request Server)
    ∷ (codes "textDocument/inlayHint", uses.Request Editor)
    ∷ (codes "inlayHint/resolve", uses.Request Editor)
    ∷ (codes "workspace/inlayHint/refresh", uses.Request Server)
    ∷ (codes "textDocument/diagnostic", uses.Request Editor)
    ∷ (codes "workspace/diagnostic", uses.Request Editor)
    ∷ (codes "workspace/diagnostic/refresh", uses.Request Server)
    ∷ (codes "client/registerCapability", uses.Request Server)
    ∷ (codes "client/unregisterCapability", uses.Request Server)
    ∷ (codes "initialize", uses.Request Editor)
    ∷ (codes "shutdown", uses.Request Editor)
    ∷ (codes "window/showMessageRequest", uses.Request Server)
    ∷ (codes "textDocument/willSaveWaitUntil", uses.Request Editor)
    ∷ (codes "textDocument/completion", uses.Request Editor)
    ∷ (codes "completionItem/resolve", uses.Request Editor)
    ∷ (codes "textDocument/hover", uses.Request Editor)
    ∷ (codes "textDocument/signatureHelp", uses.Request Editor)
    ∷ (codes "textDocument/definition", uses.Request Editor)
    ∷ (codes "textDocument/references", uses.Request Editor)
    ∷ (codes "textDocument/documentHighlight", uses.Request Editor)
    ∷ (codes "textDocument/documentSymbol", uses.Request Editor)
    ∷ (codes "textDocument/codeAction", uses.Request Editor)
    ∷ (codes "codeAction/resolve", uses.Request Editor)
    ∷ (codes "workspace/symbol", uses.Request Editor)
    ∷ (codes "workspaceSymbol/resolve", uses.Request Editor)
    ∷ (codes "textDocument/codeLens", uses.Request Editor)
    ∷ (codes "codeLens/resolve", uses.Request Editor)
    ∷ (codes "workspace/codeLens/refresh", uses.Request Server)
    ∷ (codes "textDocument/documentLink", uses.Request Editor)
    ∷ (codes "documentLink/resolve", uses.Request Editor)
    ∷ (codes "textDocument/formatting", uses.Request Editor)
    ∷ (codes "textDocument/rangeFormatting", uses.Request Editor)
    ∷ (codes "textDocument/onTypeFormatting", uses.Request Editor)
    ∷ (codes "textDocument/rename", uses.Request Editor)
    ∷ (codes "textDocument/prepareRename", uses.Request Editor)
    ∷ (codes "workspace/executeCommand", uses.Request Editor)
    ∷ (codes "workspace/applyEdit", uses.Request Server)
    ∷ (codes "workspace/didChangeWorkspaceFolders", uses.Notification Editor)
    ∷ (codes "window/workDoneProgress/cancel", uses.Notification Editor)
    ∷ (codes "workspace/didCreateFiles", uses.Notification Editor)
    ∷ (codes "workspace/didRenameFiles", uses.Notification Editor)
    ∷ (codes "workspace/didDeleteFiles", uses.Notification Editor)
    ∷ (codes "notebookDocument/didOpen", uses.Notification Editor)
    ∷ (codes "notebookDocument/didChange", uses.Notification Editor)
    ∷ (codes "notebookDocument/didSave", uses.Notification Editor)
    ∷ (codes "notebookDocument/didClose", uses.Notification Editor)
    ∷ (codes "initialized", uses.Notification Editor)
    ∷ (codes "exit", uses.Notification Editor)
    ∷ (codes "workspace/didChangeConfiguration", uses.Notification Editor)
    ∷ (codes "window/showMessage", uses.Notification Server)
    ∷ (codes "window/logMessage", uses.Notification Server)
    ∷ (codes "telemetry/event", uses.Notification Server)
    ∷ (codes "textDocument/didOpen", uses.Notification Editor)
    ∷ (codes "textDocument/didChange", uses.Notification Editor)
    ∷ (codes "textDocument/didClose", uses.Notification Editor)
    ∷ (codes "textDocument/didSave", uses.Notification Editor)
    ∷ (codes "textDocument/willSave", uses.Notification Editor)
    ∷ (codes "workspace/didChangeWatchedFiles", uses.Notification Editor)
    ∷ (codes "textDocument/publishDiagnostics", uses.Notification Server)
    ∷ (codes "$/setTrace", uses.Notification Editor)
    ∷ (codes "$/logTrace", uses.Notification Server)
    ∷ (codes "$/cancelRequest", uses.Shared)
    ∷ (codes "$/progress", uses.Shared) ∷ []

-- what the first of these rows with this method says
unfoldable pub use_among : List Row → List ℕ → Option MethodUse
use_among [] name = None
use_among (row ∷ rows) name = if bytes_eq row.0 name then Some row.1 else use_among rows name

-- **what has this method**; nothing where LSP 3.17 does not have it
unfoldable pub use_of : List ℕ → Option MethodUse
use_of name = use_among standard name

-- ---- the table of the code

unfoldable pub table : List Row
table = map (λ row. (row.0.now, row.1)) METHODS

-- ---- laws

-- **Each method of the standard has a row of the table, with its kind and its side.**
abbrev pub MethodsHaveRows : Type 0
MethodsHaveRows = (name : List ℕ) (has : MethodUse)
    → use_of name ≡ Some has → use_among table name ≡ Some has

-- **Each row of the table is that of a method of the standard.**
abbrev pub RowsAreStandard : Type 0
RowsAreStandard = (name : List ℕ) (has : MethodUse)
    → use_among table name ≡ Some has → use_of name ≡ Some has
