-- `link_sums::sums::NetworkSums::of` meets its contract: the two tables, by tunnels or by flows, are joined to that of all classes.
use native.Mathlib.Nat.{le_refl}
use Rattle.link_sums.proofs.Tables.{table-room, tables-join, good-range}
use Rattle.link_sums.proofs.sums.NetworkSums.of.Goals as goal

pub add_table-requires : goal.add_table-requires
add_table-requires c = let r = good-range _ c.split.ensures.good in
    (table-room _ r _ _ _ c.split.ensures.split.protected (le_refl _), table-room _ r _ _ _ c.split.ensures.split.others (le_refl _))

pub invariant_of-result : goal.invariant_of-result
invariant_of-result c =
    let s = c.split.ensures.split in
    (c.split.ensures.good, s.protected, tables-join _ _ _ _ s.protected s.others c.add_table.ensures)
