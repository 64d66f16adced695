-- What a map ends as, once a `&mut` to one of its values has ended.
use Rattle.std.specs.Prelude.{Bool, List, Option}
use Rattle.std.specs.Borrow.{Fml, RattleType, MutBor, LendsIf}
use Rattle.std.specs.HashMap.Lent.{HashMembers}
use Rattle.std.specs.Map.{set_value}
use Rattle.std.specs.contracts.alloc.Global as global
use Rattle.std.specs.contracts.impls.GlobalAllocator.TheImpl.{ghosts}
use Rattle.std.specs.contracts.string.String as text
use Rattle.lsp_types.specs.contracts.ordered.map.OrderedMap.{the_row}

-- the type of a text, as the logic holds it
abbrev pub text_row : RattleType
text_row = text.the_row global.the_row ghosts

module _ (K V : RattleType) (key : HashMembers K.Denot) (m : MutBor (List (K.Denot × V.Denot)))
  where
    -- the key that passes the test has the last value written through r, and at `None` the map
    -- stays as it is
    abbrev pub lends_value : (K.Denot → Bool) → Option (MutBor V.Denot) → Fml
    lends_value test r = LendsIf (the_row K V (record { eq = key.eq })
        (record { hash_input = key.hash_input })) V m r (set_value test m.now) m.now
