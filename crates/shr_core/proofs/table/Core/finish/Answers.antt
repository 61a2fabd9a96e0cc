-- SPDX-License-Identifier: GPL-2.0-only
use Rattle.shr_core.proofs.Common.{◌≡◌, ℕ, zero, suc, ◌<◌, Bool, false, List, [], ◌∷◌, get_or, set, refl, ap, subst, sym, ◌∙◌, arith, get_or-set_other, dite, ℕ_discrete, slots_items, Final, Seen, Setting, PoolEntry, Slot, Sizes, row_count, places_in, bits_in, Sound, IsClosedOf, nodes_below, units_in, ends_below, entries_in, items_in}
use Rattle.std.specs.Slots.{slots_filled, slots_len}
use Rattle.shr_base.specs.Kept.{Kept}
use Rattle.shr_core.proofs.Laying.{pool_row}
use Rattle.shr_core.proofs.Closing.{closed_of}
use Rattle.shr_core.proofs.Left.{left}
use Rattle.shr_core.proofs.table.Core.finish.Goals as goal

-- a slot that is emptied is not filled
emptied : (xs : List Bool) (i : ℕ) → get_or (set xs i false) i false ≡ false
emptied [] i = refl
emptied (x ∷ xs) zero = refl
emptied (x ∷ xs) (suc i) = emptied xs i

pub free-requires : goal.free-requires
free-requires c k near = let last : ℕ = c.rows.result in let sizes = ap row_count c.sizes-sizes.ensures in let rows = c.rows.ensures.rows in let filled : List Bool = slots_filled c.take_ends-places.new.ended.slots in let others = c.take.ensures.others in let same = c.take_ends-places.ensures.same in let counts = c.close_with-ended.ensures.counts in let sized = c.args.self.sized in
    subst (λ (l : List Bool). get_or l k false ≡ false) (sym others.1) (dite (ℕ_discrete k last)
    (λ e. subst (λ (x : ℕ). get_or (set filled last false) x false ≡ false) (sym e) (emptied filled last))
    (λ n. get_or-set_other filled last k false false n ∙ c.take_ends-places.ensures.taken k (let inside : k < slots_len c.take.new.self.slots = near in omega (arith, inside, others.2, same.1, counts.1, sized.1, n, rows, sizes))))

pub returns : goal.returns
returns c = let core = c.args.self in let token = c.args.first.token in let key : Setting = core.setting in let ended = c.close_with-ended.result in let ws : List ℕ = slots_items ended.words in let xs : List Slot = slots_items ended.slots in
    let final : Final (Seen (Sound key) token.id token.me.0) ws xs = subst (λ (z : Setting). Final (Seen (Sound z) token.id token.me.0) ws xs) core.sized.2 c.close_with-ended.ensures.values.2 in
    let closed : IsClosedOf key token.id token.me.0 _ = closed_of key token.id token.me.0 ws xs c.take.result _ final c.requires.first.first c.requires.whole c.requires.first.rest
    (c.in_ok-maps.ensures.added ∙ ap (λ (z : Sizes). nodes_below (units_in key.shape.ids) z.groups z.nodes (bits_in z ws)) c.sizes-sizes.ensures) c.in_ok-lookups.ensures
    (c.in_ok-places.ensures.ends ∙ ap (λ (z : Sizes). ends_below (places_in z.ids) (entries_in z xs) (items_in z xs)) c.sizes-sizes.ensures)
    (ap (λ (r : ℕ). lib.ListN.get_elem? xs r) (pool_row key.shape ∙ sym (c.rows.ensures.rows ∙ ap row_count c.sizes-sizes.ensures)) ∙ (ap (λ (l : List Slot). lib.ListN.get_elem? l c.rows.result) (sym c.take_ends-places.ensures.same.0) ∙ c.take.ensures.value)) (ap (λ (l : Kept PoolEntry). l.items) c.into_pool-pool.ensures) in record { closed = closed; left = left key token.id token.me.0 _ closed c.requires.first.first c.requires.whole; words = c.in_ok-maps.ensures.narrow }
