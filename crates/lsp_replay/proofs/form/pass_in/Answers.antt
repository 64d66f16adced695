use Rattle.lsp_replay.proofs.form.pass_in.Goals as goal

pub returns-in-Lines : goal.returns-in-Lines
returns-in-Lines g c = rw c.in-Lines.is (record { passes = c.pass.ensures.passes })

pub pass-requires-in-Json : goal.pass-requires-in-Json
pass-requires-in-Json g c = record {
  begins = λ terms. rw c.new-account.ensures (c.requires.begins terms, c.requires.quiet);
}

pub returns-in-Json : goal.returns-in-Json
returns-in-Json g c = rw c.in-Json.is (record {
  passes = rw c.new-account.ensures at c.pass-in-Json.ensures.passes;
})
