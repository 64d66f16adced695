-- What a content says on its side, of what was read of it.
use Rattle.std.proofs.Common.{◌≡◌, ℕ, List, Option, Some, None, inr, refl}
use Rattle.lsp_rpc.specs.Act.{Act}
use Rattle.lsp_rpc.specs.Fault.{IsUnspoken, rule_unless_read}
use Rattle.lsp_rpc.specs.Message.{Message}
use Rattle.lsp_rpc.specs.Params.{act_at}
use Rattle.lsp_rpc.specs.Reading.{Reads}
use Rattle.lsp_types.specs.Fault.{Names}
use Rattle.lsp_types.specs.declared.fault.Fault.{Fault}
use Rattle.lsp_types.specs.declared.fault.Fault.TheVariants.{Rule, Memory}
use Rattle.lsp_types.specs.declared.side.Side.{Side}

-- nor does one whose params are not as its method has them
bad_by : (side : Side) (content : List ℕ) (m : Message) (o : Option Act) (fault : Fault)
    → Reads content m → act_at side m ≡ o → Names (rule_unless_read 209 o) fault
    → IsUnspoken side content fault
bad_by side content m o Memory reads is named = tt
bad_by side content m None (Rule rule) reads is named =
    let same : rule ≡ 209 = cc named in
    inr (same, record { of = m; reads = reads; unread = is })
bad_by side content m (Some act) (Rule rule) reads is named =
    let none : None ≡ Some rule = named in absurd (cc)

pub bad_params : (side : Side) (content : List ℕ) (m : Message) (fault : Fault)
    → Reads content m → Names (rule_unless_read 209 (act_at side m)) fault
    → IsUnspoken side content fault
bad_params side content m fault reads named =
    bad_by side content m (act_at side m) fault reads refl named
