use Rattle.lsp_lined.proofs.Walks.{bytes_taken}
use Rattle.lsp_lined.proofs.walk.take_bytes.Goals as goal

pub returns : goal.returns
returns c =
    rw c.then_some-2.ensures
    (bytes_taken c.is_joined.result c.args.left c.in-Rest.text c.in_ok-rest-2.rest c.args.bytes.now
    c.in-Rest.is c.in_ok-rest-2.ensures c.is_joined.ensures)
