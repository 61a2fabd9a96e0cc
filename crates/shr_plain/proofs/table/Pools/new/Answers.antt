-- SPDX-License-Identifier: GPL-2.0-only
use Rattle.shr_plain.proofs.Common.{ℕ, ◌*◌, ap, sym, subst, refl, ◌∙◌, length, arith, All, row_count, Sizes, setting_by, IsSetting, units, room_journal, parts_in, units_standing_in, spent_units_view, replicate, length-map, length-replicate, All-map, first_units_view}
use Rattle.shr_seats.proofs.RoomOpenings.{opened}
use Rattle.shr_plain.proofs.Beginnings.{ids_some, ids_all, ids_few}
use Rattle.shr_plain.proofs.table.Pools.new.Goals as goal

pub new-requires-2 : goal.new-requires-2
new-requires-2 c = let z : Sizes = c.sizes_for-sizes.result in
    opened units room_journal parts_in units_standing_in spent_units_view (row_count z) c.deref.result.now c.in_ok-rooms.rooms.items first_units_view
    (c.deref.ensures.value ∙ (c.in_ok-words.ensures ∙ ap (λ (n : ℕ). replicate {A = ℕ} (8 * n) 0) c.rows.ensures.rows)) (c.in_ok-rooms.ensures.0 ∙ c.rows-2.ensures.rows) c.in_ok-rooms.ensures.1 refl refl refl

pub invariant_of-result : goal.invariant_of-result
invariant_of-result c = let made = c.in-Ok.ensures.ok in let sizes = c.sizes_for-sizes.ensures in let n : ℕ = c.len.result in let count = c.len.ensures in let few = c.requires.few in
    let zeros = c.deref.ensures.value ∙ c.in_ok-words.ensures in let long = ap length zeros in let rows = c.rows.ensures.rows in let zero-long = length-replicate {A = ℕ} (8 * c.rows.result) 0 in let ids = ap (λ (z : Sizes). z.ids) sizes in let nodes = ap (λ (z : Sizes). z.nodes) sizes in let settings = c.in_ok-settings.ensures in let set-long = ap length settings in let map-long = length-map c.args.decls.now.items setting_by in record {
      wide = omega (arith, made.0, long, zero-long, rows);
      slots = made.1 ∙ (c.in_ok-rooms.ensures.0 ∙ c.rows-2.ensures.rows);
      keyed = made.5;
      deferrals = c.in_ok-deferred.ensures.sizes;
      set = subst (All IsSetting) (sym settings) (All-map IsSetting setting_by c.args.decls.now.items c.requires.pools);
      pools = let all = ids_all n in omega (arith, ids, all, set-long, map-long, count);
      ids = (let some = ids_some n in omega (arith, ids, some), let most = ids_few n (omega (arith, count, few)) in omega (arith, ids, most));
      nodes = (omega (arith, nodes, c.requires.nodes.0), omega (arith, nodes, c.requires.nodes.1));
      groups = ap (λ (z : Sizes). z.groups) sizes;
    }
