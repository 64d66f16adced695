use Rattle.std.proofs.Common.{◌≡◌, ◌∙◌, ◌&&◌, not, refl, sym, ap, ap₂, true≢false, Bool, true}
use Rattle.std.proofs.Common.{false, IfOk, IsOkAnd, Result, Ok, Err}
use Rattle.std.proofs.lemmas.Result.{IfOk-weaker}
use Rattle.clap.specs.Words.{AddsSubcommand, App, Shape, app_of, shape_of, with_subcommand}
use Rattle.clap.specs.declared.builder.command.Command.TheViews.{out-Command}
use Rattle.clap.specs.declared.builder.command.Command.{Command}
use Rattle.lsp_words.specs.CommandLine.{AreModes, Modes, check, event, explain}
use Rattle.lsp_words.specs.CommandLine.{frames, normal, redact, show, text, upgrade}
use Rattle.lsp_words.proofs.commands.command_line.Goals as goal

third_is_false : (a b g rest : Bool) → (a && (b && (not g && rest))) ≡ true → g ≡ false
third_is_false true true false rest e = refl
third_is_false true true true rest e = sym e
third_is_false _ _ g rest e = absurd (true≢false (sym e))

-- a command whose words are read plainly has no global argument
is_local : (c : Command) (s : Shape) → shape_of c ≡ s → s.is_plain ≡ true → (out-Command c).has_globals ≡ false
is_local c s is plain = third_is_false _ _ _ _ (ap (λ (x : Shape). x.is_plain) is ∙ plain)

-- one more command
adds : {E : Type 0} (r : Result Command E) (old new : Command) (a : App) (s : Shape) → s.is_plain ≡ true → app_of old ≡ a → IfOk r (λ c. shape_of c ≡ s)
    → IsOkAnd r (λ c. AddsSubcommand old c new) → app_of new ≡ with_subcommand a s
adds (Ok c) old new a s plain above is added = added.shape (is_local c s is plain) ∙ ap₂ with_subcommand above is
adds (Err e) old new a s plain above is added = absurd added

-- the last command, whose shape names where its modes lie
adds_frames : {E : Type 0} (r : Result Command E) (old new : Command) (a : App) → app_of old ≡ a
    → IfOk r (λ c. (modes : Modes) × AreModes modes × (shape_of c ≡ frames modes)) → IsOkAnd r (λ c. AddsSubcommand old c new)
    → (modes : Modes) × AreModes modes × (app_of new ≡ with_subcommand a (frames modes))
adds_frames (Ok c) old new a above is added = (is.0, is.1, added.shape (is_local c _ is.2 refl) ∙ ap₂ with_subcommand above is.2)
adds_frames (Err e) old new a above is added = absurd added

pub returns : goal.returns
returns c =
    let one = adds _ _ _ _ check refl c.program-program.ensures c.check.ensures c.in_ok-program.ensures in
    let two = adds _ _ _ _ explain refl one c.explain.ensures c.in_ok-program-2.ensures in
    let three = adds _ _ _ _ show refl two c.show.ensures c.in_ok-program-3.ensures in
    let four = adds _ _ _ _ text refl three c.text.ensures c.in_ok-program-4.ensures in
    let five = adds _ _ _ _ event refl four c.event.ensures c.in_ok-program-5.ensures in
    let six = adds _ _ _ _ normal refl five c.normal.ensures c.in_ok-program-6.ensures in
    let seven = adds _ _ _ _ upgrade refl six c.upgrade.ensures c.in_ok-program-7.ensures in
    let eight = adds _ _ _ _ redact refl seven c.redact.ensures c.in_ok-program-8.ensures in
    IfOk-weaker c.with-9.result _ _ (λ new added. adds_frames c.frames.result _ new _ eight c.frames.ensures added) c.with-9.ensures
