-- SPDX-License-Identifier: GPL-2.0-only
use Rattle.shr_core.proofs.Common.{ℕ, ◌≡◌, ◌+◌, ◌*◌, List, length, refl, ap, subst, sym, arith, Entry, row_in, sizes_of, with_stored, IsLater, last_entry, MayStore}
use Rattle.shr_core.proofs.Laying.{inside_low}
use Rattle.shr_core.proofs.Stores.{stored}
use Rattle.shr_core.proofs.Calls.{may, content_changed}
use Rattle.shr_core.proofs.seat.Seat.store_count.Goals as goal

pub store_as-requires : goal.store_as-requires
store_as-requires c = let seat = c.self.inside in let core = seat.core.now in let k : ℕ = c.number_of-number.result in let list = c.args.list.now in let allowed = subst (λ (x : ℕ). MayStore core.setting.shape seat.token.me.0 x list) (sym c.number_of-number.ensures) (rw (← c.self.view_is) at c.requires.may) in
    may core seat.token _ (8 * row_in (sizes_of core.setting.shape) k) (λ _. length c.entries.result.now * 4294967296 + c.len.result) (λ _ q. (q ≡ (with_stored seat.token.me.0 k (last_entry list.entries) list.items, seat.token.me.1)) × IsLater seat.token.me.0 k) c.self.invariant.table (omega (arith, c.count_word-word.ensures, c.row.ensures.row, ap (row_in (sizes_of core.setting.shape)) c.number_of-number.ensures)) (omega (arith, inside_low core.setting.shape k allowed.inside))
    (stored core.setting _ _ seat.token.me k (length c.entries.result.now * 4294967296 + c.len.result) list allowed c.self.invariant.present (omega (arith, c.len.ensures, ap (λ (l : List Entry). length l) c.entries.ensures.journal)))

pub invariant_of-self : goal.invariant_of-self
invariant_of-self c = content_changed c.self.inside.core.now c.self.inside _ _ _ _ c.self.invariant c.store_as.ensures.same.0 refl refl c.store_as.ensures.told.0 refl refl refl refl refl refl refl
