use Rattle.std.specs.Borrow.{Bor}
use Rattle.std.specs.Prelude.{option_map}
use Rattle.std.proofs.Common.{Option, ◌∙◌, ap, subst, sym}
use Rattle.lsp_trail.specs.Common.{is_shutdown, MaySpeak, Spoken}
use Rattle.lsp_notes.specs.AllNotes as spec
use Rattle.lsp_notes.proofs.NotedSteps.{asks_none}
use Rattle.lsp_notes.proofs.along.asks_shutdown.Goals as goal

-- it is a message
pub returns-in-Some : goal.returns-in-Some
returns-in-Some c = λ kept event speaks.
    let said = subst (λ (o : Option (Bor Spoken)). MaySpeak kept event (option_map (λ s. s.now) o))
    c.in-Some.is speaks in
    c.is_shutdown.ensures ∙ ap is_shutdown (sym said.1.means)
    ∙ sym (ap spec.asks_shutdown said.1.is)

-- it is none
pub returns-in-None : goal.returns-in-None
returns-in-None c = λ kept event speaks.
    asks_none event (subst (λ (o : Option (Bor Spoken)). MaySpeak kept event
    (option_map (λ s. s.now) o)) c.in-None.is speaks)
