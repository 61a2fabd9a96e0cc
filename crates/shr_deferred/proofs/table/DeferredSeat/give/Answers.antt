-- SPDX-License-Identifier: GPL-2.0-only
use Rattle.shr_deferred.proofs.Common.{ℕ, ◌≡◌, ◌+◌, ◌^◌, ◌%◌, subst, sym, arith, Allows, Sizes, IsPlaceOf, give_of, IsDeferredSound}
use Rattle.shr_deferred.proofs.SeatLaws.{stays, gains}
use Rattle.shr_deferred.specs.Seat.{DeferredSeated}
use Rattle.shr_deferred.proofs.Steps.{with_moves, gives}
use Rattle.shr_deferred.proofs.table.DeferredSeat.give.Goals as goal

pub add_as-requires-clause-step : goal.add_as-requires-clause-step
add_as-requires-clause-step c = let d = c.self.inside.deferred.now in let t = d.table.shared in let at = c.row-word.ensures in let m = c.self.inside.token.me in let id = c.self.inside.token.id in
    subst (λ (z : Sizes). Allows (IsDeferredSound z) t.table_id.slots id m c.row-word.result (λ y. (y + c.args.n) % 2 ^ 64) (λ _ r. r ≡ with_moves id m (give_of c.args.place c.args.n))) (sym d.keyed)
    (subst (λ (k : ℕ). Allows (IsDeferredSound d.sizes) t.table_id.slots id m k (λ y. (y + c.args.n) % 2 ^ 64) (λ _ r. r ≡ with_moves id m (give_of c.args.place c.args.n))) (sym at.row)
    (gives d.sizes t.table_id.slots id m c.args.place (subst (λ (s : DeferredSeated). IsPlaceOf s.deferred.sizes c.args.place) (sym c.self.view_is) c.requires.place) (omega arith) c.self.invariant.seat.here c.args.n))

pub invariant_of-self : goal.invariant_of-self
invariant_of-self c = let told = c.add_as.ensures.told in stays _ _ _ (give_of c.args.place c.args.n) c.self.invariant told.0 told.1.1

pub returns : goal.returns
returns c = let told = c.add_as.ensures.told in record { step = rw (← c.self.view_is) (gains c.self.inside.deferred.now _ _ (give_of c.args.place c.args.n) told.0 told.1.1) }
