use Rattle.std.proofs.Common.{◌≡◌, ◌+◌, ℕ, None, length, map, string_bytes, sym, ap, ◌∙◌}
use Rattle.std.specs.Map.{lookup}
use Rattle.std.specs.Option.{option_copied}
use Rattle.lsp_types.specs.Texts.{is_text}
use Rattle.lsp_redact.proofs.Numbering.{numbered_new, numbered_old, numbered_push, seen_new, seen_old}
use Rattle.lsp_redact.proofs.names.Numbers.of.Goals as goal

pub returns-in-Some-clause-seen : goal.returns-in-Some-clause-seen
returns-in-Some-clause-seen c =
    rw (← c.self.view_is)
    (seen_old c.args.name.now c.self.inside.seen c.in-Some.number.now (sym c.in-Some.ensures))

pub returns-in-Some-clause-number : goal.returns-in-Some-clause-number
returns-in-Some-clause-number c =
    rw (← c.self.view_is)
    (numbered_old c.args.name.now c.self.inside.seen c.in-Some.number.now (sym c.in-Some.ensures)
    c.self.invariant)

pub push-requires : goal.push-requires
push-requires c =
    ap (λ b. lookup (is_text b) c.self.inside.seen) c.in_ok-key.ensures.ok
    ∙ sym c.get_str.ensures ∙ ap option_copied c.in_default.is

pub invariant_of-self-2 : goal.invariant_of-self-2
invariant_of-self-2 c =
    let number : c.in_ok-number.number ≡ length c.self.inside.seen + 1 =
    c.in_ok-number.ensures ∙ ap (λ (n : ℕ). n + 1) c.len.ensures.count in
    rw c.in_ok-push.ensures.ok
    (numbered_push c.self.inside.seen c.in_ok-key.key c.in_ok-number.number number
    c.self.invariant)

pub returns-clause-seen : goal.returns-clause-seen
returns-clause-seen c =
    let none : lookup (is_text c.args.name.now) c.self.inside.seen ≡ None =
    sym c.get_str.ensures ∙ ap option_copied c.in_default.is in
    rw (← c.self.view_is) (λ names is.
    ap (map (λ e. string_bytes e.0)) c.in_ok-push.ensures.ok
    ∙ seen_new c.args.name.now c.self.inside.seen c.in_ok-key.key c.in_ok-number.number
    c.in_ok-key.ensures.ok none names is)

pub returns-clause-number : goal.returns-clause-number
returns-clause-number c =
    let none : lookup (is_text c.args.name.now) c.self.inside.seen ≡ None =
    sym c.get_str.ensures ∙ ap option_copied c.in_default.is in
    let number : c.in_ok-number.number ≡ length c.self.inside.seen + 1 =
    c.in_ok-number.ensures ∙ ap (λ (n : ℕ). n + 1) c.len.ensures.count in
    rw (← c.self.view_is)
    (numbered_new c.args.name.now c.self.inside.seen c.in_ok-number.number number none)
