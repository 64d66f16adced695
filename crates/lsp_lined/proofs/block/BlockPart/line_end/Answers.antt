use Rattle.std.proofs.Common.{◌-◌, ◌<◌, List, ℕ, refl, sym, subst, arith}
use lib.Dec.{eqb}
use Rattle.lsp_lined.specs.declared.part.LineEnd.{LineEnd}
use Rattle.lsp_lined.specs.Ends.{ends_in, IsLineEnd}
use Rattle.lsp_lined.proofs.EndPlaces.{IsAfterEnd}
use Rattle.lsp_lined.proofs.BlockPlaces.{HasPlaces, block_places, in_table, place_read, boundary_behind, block_end}
use Rattle.lsp_lined.proofs.block.BlockPart.line_end.Goals as goal
use Rattle.lsp_lined.proofs.block.BlockPart.line_end.Goals.{After-as_str-text, After-row_known-1}

held : (c : After-as_str-text) → HasPlaces c.self.inside c.args.self.now c.deref-held.result.now c.as_str-text.result.now
held c = block_places c.self.inside c.args.self.now c.deref-held.result.now c.as_str-text.result.now c.self.invariant c.self.view_is c.deref-held.ensures c.as_str-text.ensures.value

some : (c : After-as_str-text) → c.args.n < ends_in c.as_str-text.result.now
some c = subst (λ (x : List ℕ). c.args.n < ends_in x) (sym (held c).text_is) c.requires

read : (c : After-row_known-1) → HasPlaces c.self.inside c.args.self.now c.deref-held.result.now c.as_str-text.result.now → c.args.n < ends_in c.as_str-text.result.now → IsAfterEnd c.as_str-text.result.now c.args.n c.index.result.now
read c h lt = place_read c.as_str-text.result.now c.deref-held.result.now.places.items c.args.n c.index.result.now h.places c.index.ensures lt

pub index-requires : goal.index-requires
index-requires c =
    let at = (goal.at.index-requires c).After-as_str-text in
    let places = c.deref-held.result.now.places in
    omega (arith, places.ok.0, in_table c.as_str-text.result.now places.items c.args.n (held at).places (some at))

pub split_at-requires : goal.split_at-requires
split_at-requires c =
    let at = goal.at.split_at-requires c in
    let h = held at.After-as_str-text in
    boundary_behind c.as_str-text.result.now c.args.n c.index.result.now h.utf8 (read at.After-row_known-1 h (some at.After-as_str-text))

pub end_len_before-requires-clause-some : goal.end_len_before-requires-clause-some
end_len_before-requires-clause-some c =
    let at = goal.at.end_len_before-requires-clause-some c in (read at.After-row_known-1 (held at.After-as_str-text) (some at.After-as_str-text)).some

pub end_len_before-requires-clause-within : goal.end_len_before-requires-clause-within
end_len_before-requires-clause-within c =
    let at = goal.at.end_len_before-requires-clause-within c in (read at.After-row_known-1 (held at.After-as_str-text) (some at.After-as_str-text)).within

pub end_len_before-requires-clause-ended : goal.end_len_before-requires-clause-ended
end_len_before-requires-clause-ended c =
    let at = goal.at.end_len_before-requires-clause-ended c in (read at.After-row_known-1 (held at.After-as_str-text) (some at.After-as_str-text)).ended

pub returns : goal.returns
returns c =
    let at = goal.at.returns c in
    let h = held at.After-as_str-text in
    let text = c.as_str-text.result.now in
    let end : LineEnd =
    record {
      at = c.index.result.now - c.end_len_before.result;
      after = c.index.result.now;
      rest = c.split_at.result.1;
      is_plain = eqb c.deref-held.result.now.sums.chars c.deref-held.result.now.sums.bytes;
    } in
    let counted = c.deref-held.result.now.sums in
    let found = read at.After-row_known-1 h (some at.After-as_str-text) in
    subst (λ (x : List ℕ). IsLineEnd x c.args.n end) h.text_is
    (block_end text c.args.n c.index.result.now c.end_len_before.result end counted h.utf8 h.sums
    found c.end_len_before.ensures.within c.end_len_before.ensures.end refl refl
    c.split_at.ensures.back refl)
