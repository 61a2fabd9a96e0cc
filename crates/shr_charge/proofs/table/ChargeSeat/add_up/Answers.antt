-- SPDX-License-Identifier: GPL-2.0-only
use Rattle.shr_charge.proofs.Common.{ℕ, ◌+◌, ◌%◌, ◌*◌, ◌≤◌, ◌^◌, Bool, true, refl, subst, sym, arith, All, bool_byte, Allows, Serial, UseStep, Shape, call_count, IsLaterThan, IsChargeSound, usage_index, TellsUse, op_of, ups_at, IsPaced, Uses, both_uses, one_use, uses_of, ◌∙◌, ap, ◌<◌, length, ChargeSeated}
use Rattle.shr_charge.proofs.Moves.{charges}
use Rattle.shr_charge.proofs.Pacing.{paced_up}
use Rattle.shr_charge.proofs.SeatLaws.{IsOf-use, counted_byte, seated_use}
use Rattle.shr_charge.proofs.table.ChargeSeat.add_up.Goals as goal

paced : (u : Uses) (g : ℕ) (by : Serial) (first : Bool) → IsPaced u → ups_at g u.ops + 1 ≤ u.charges + call_count first → u.charges + call_count first ≤ 2 ^ 21 * u.seats → (w : ℕ) → IsPaced (both_uses u (one_use (op_of g by true w) (call_count first) 0))
paced u g by first p room calls w = let a = p.charges in let b = p.uncharges in
    paced_up u (op_of g by true w) (call_count first) 0 p refl (omega (arith, room)) (omega (arith, a, calls)) (omega (arith, b, calls))

pub add_as-word-requires-clause-step : goal.add_as-word-requires-clause-step
add_as-word-requires-clause-step c = let d = c.self.inside.charge.now in let m = c.self.inside.token.me in let g = c.args.group in let is = c.self.invariant in
    let room = subst (λ (v : ChargeSeated). ups_at c.args.group (uses_of v).ops + 1 ≤ (uses_of v).charges + call_count c.args.first) (sym c.self.view_is) c.requires.room in
    let calls = subst (λ (v : ChargeSeated). (uses_of v).charges + call_count c.args.first ≤ 2 ^ 21 * (uses_of v).seats) (sym c.self.view_is) c.requires.calls in
    let low = subst (λ (v : ChargeSeated). c.args.group < length v.charge.shape.parents.items) (sym c.self.view_is) c.requires.group in
    let t = d.table.shared in let id = c.self.inside.token.id in
    subst (λ (k : Shape). Allows (IsChargeSound k) t.table_id.slots id m (usage_index g) (λ y. (y + 2 ^ 32) % 2 ^ 64) (λ w r. TellsUse m (op_of g c.args.by true w) (call_count c.args.first) 0 r)) (sym d.keyed)
    (charges d.shape t.table_id.slots id m g low is.seat.here c.args.by (call_count c.args.first) 0 (paced m.0.uses g c.args.by c.args.first is.paced room calls))

pub invariant_of-self : goal.invariant_of-self
invariant_of-self c = let d = c.self.inside.charge.now in let m = c.self.inside.token.me in let g = c.args.group in let is = c.self.invariant in
    let room = subst (λ (v : ChargeSeated). ups_at c.args.group (uses_of v).ops + 1 ≤ (uses_of v).charges + call_count c.args.first) (sym c.self.view_is) c.requires.room in
    let calls = subst (λ (v : ChargeSeated). (uses_of v).charges + call_count c.args.first ≤ 2 ^ 21 * (uses_of v).seats) (sym c.self.view_is) c.requires.calls in
    let did = c.add_as-word.ensures in
    IsOf-use d c.self.inside.token c.add_as-word.new.token _ c.self.inside.charges c.self.inside.uncharges (bool_byte c.args.first) 0 _ _ is did.same did.told.0 (paced m.0.uses g c.args.by c.args.first is.paced room calls c.add_as-word.result)
    c.saturating_add-self-inside.ensures (counted_byte c.args.first) (let a = is.uncharges in omega (arith, a)) refl

pub returns-clause-gains : goal.returns-clause-gains
returns-clause-gains c = seated_use c.self.inside.charge.now c.self.inside.token c.add_as-word.new.token c.args.self.now _ c.self.view_is c.add_as-word.ensures.told.0
    ∙ ap (λ (o : UseStep). record c.args.self.now { uses = both_uses (uses_of c.args.self.now) (one_use o (call_count c.args.first) 0) }) (sym c.step_of.ensures.value)

pub returns-clause-later : goal.returns-clause-later
returns-clause-later c = subst (λ (o : UseStep). All (IsLaterThan o) (uses_of c.args.self.now).ops) (sym c.step_of.ensures.value) (subst (λ (v : ChargeSeated). All (IsLaterThan (op_of c.args.group c.args.by true c.add_as-word.result)) (uses_of v).ops) c.self.view_is c.add_as-word.ensures.told.1)

pub step_of-requires : goal.step_of-requires
step_of-requires c = record { small = c.add_as-word.ensures.told.2 }
