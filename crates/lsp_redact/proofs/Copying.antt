-- Copies of what a message means.
use Rattle.std.proofs.Common.{◌≡◌, refl}
use Rattle.lsp_replay.specs.Common.{act_view, other}
use Rattle.lsp_rpc.specs.declared.act.Act as code
use Rattle.lsp_rpc.specs.declared.act.Act.TheVariants as acts
use Rattle.lsp_redact.specs.Copies.{call_of}

-- what is about no document
pub says_nothing : (a : code.Act) → ((u v t : _) → a ≡ acts.DidOpen u v t → ⊥)
    → ((u v cs : _) → a ≡ acts.DidChange u v cs → ⊥) → ((u : _) → a ≡ acts.DidClose u → ⊥)
    → ((u t : _) → a ≡ acts.DidSave u t → ⊥) → call_of (act_view a) ≡ other
says_nothing (acts.DidOpen u v t) f0 f1 f2 f3 = absurd (f0 u v t refl)
says_nothing (acts.DidChange u v cs) f0 f1 f2 f3 = absurd (f1 u v cs refl)
says_nothing (acts.DidClose u) f0 f1 f2 f3 = absurd (f2 u refl)
says_nothing (acts.DidSave u t) f0 f1 f2 f3 = absurd (f3 u t refl)
says_nothing _ f0 f1 f2 f3 = refl

-- what is about one, or nothing
pub is_call : (a : code.Act) → ((o : _) → a ≡ acts.Initialize o → ⊥)
    → (a ≡ acts.Initialized → ⊥) → (a ≡ acts.Shutdown → ⊥) → (a ≡ acts.Exit → ⊥)
    → ((i : _) → a ≡ acts.Cancel i → ⊥) → ((t : _) → a ≡ acts.Progress t → ⊥)
    → (a ≡ acts.Early → ⊥) → ((ms : _) → a ≡ acts.Register ms → ⊥)
    → call_of (act_view a) ≡ act_view a
is_call (acts.Initialize o) f0 f1 f2 f3 f4 f5 f6 f7 = absurd (f0 o refl)
is_call acts.Initialized f0 f1 f2 f3 f4 f5 f6 f7 = absurd (f1 refl)
is_call acts.Shutdown f0 f1 f2 f3 f4 f5 f6 f7 = absurd (f2 refl)
is_call acts.Exit f0 f1 f2 f3 f4 f5 f6 f7 = absurd (f3 refl)
is_call (acts.Cancel i) f0 f1 f2 f3 f4 f5 f6 f7 = absurd (f4 i refl)
is_call (acts.Progress t) f0 f1 f2 f3 f4 f5 f6 f7 = absurd (f5 t refl)
is_call acts.Early f0 f1 f2 f3 f4 f5 f6 f7 = absurd (f6 refl)
is_call (acts.Register ms) f0 f1 f2 f3 f4 f5 f6 f7 = absurd (f7 ms refl)
is_call _ f0 f1 f2 f3 f4 f5 f6 f7 = refl
