-- SPDX-License-Identifier: GPL-2.0-only
use Rattle.shr_deferred.proofs.Common.{ℕ, ◌≡◌, subst, sym, arith, Allows, Sizes, IsPlaceOf, acts_of, IsAlone, left_at, take_of, IsDeferredSound}
use Rattle.shr_deferred.proofs.SeatLaws.{stays, gains}
use Rattle.shr_deferred.specs.Seat.{DeferredSeated}
use Rattle.shr_deferred.proofs.Steps.{with_moves, takes}
use Rattle.shr_deferred.proofs.table.DeferredSeat.take.Goals as goal

pub swap_as-requires-clause-step : goal.swap_as-requires-clause-step
swap_as-requires-clause-step c = let d = c.self.inside.deferred.now in let t = d.table.shared in let at = c.row-word.ensures in let m = c.self.inside.token.me in let id = c.self.inside.token.id in
    subst (λ (z : Sizes). Allows (IsDeferredSound z) t.table_id.slots id m c.row-word.result (λ _. 0) (λ n r. (r ≡ with_moves id m (take_of c.args.place n)) × (IsAlone m.0.standing → n ≡ left_at c.args.place (acts_of m.0.did)))) (sym d.keyed)
    (subst (λ (k : ℕ). Allows (IsDeferredSound d.sizes) t.table_id.slots id m k (λ _. 0) (λ n r. (r ≡ with_moves id m (take_of c.args.place n)) × (IsAlone m.0.standing → n ≡ left_at c.args.place (acts_of m.0.did)))) (sym at.row)
    (takes d.sizes t.table_id.slots id m c.args.place (subst (λ (s : DeferredSeated). IsPlaceOf s.deferred.sizes c.args.place) (sym c.self.view_is) c.requires.place) (omega arith) c.self.invariant.seat.here))

pub invariant_of-self : goal.invariant_of-self
invariant_of-self c = let told = c.swap_as.ensures.told in stays _ _ _ (take_of c.args.place c.swap_as.result) c.self.invariant told.0 told.1.0

pub returns-clause-step : goal.returns-clause-step
returns-clause-step c = let told = c.swap_as.ensures.told in rw (← c.self.view_is) (gains c.self.inside.deferred.now _ _ (take_of c.args.place c.swap_as.result) told.0 told.1.0)
