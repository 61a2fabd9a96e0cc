-- SPDX-License-Identifier: GPL-2.0-only
-- A seat of the table after a step.
use Rattle.shr_charge.proofs.Common.{◌≡◌, ℕ, ◌+◌, ◌^◌, ◌-◌, ◌≤◌, Bool, true, false, [], cond, sym, refl, ap, subst, ◌∙◌, arith, bool_byte, Charge, TreeView, Uses, both_uses, IsPaced, split_charge_view, joined_charge_view, ChargeSat, ChargeSeated, ChargeToken, IsChargeSeat, seated_at, with_room_back, counted, min}
use Rattle.shr_charge.proofs.Pacing.{paced_join}

-- a token is another but for what the table knows of the seat
pub token_is : (s t : ChargeToken) (m : ChargeSat) → t.table_id ≡ s.table_id → t.id ≡ s.id → t.me ≡ m → t ≡ record s { me = m }
token_is s t m table id me = λ i. record s { table_id = table i; id = id i; me = me i }

-- the seat that was split
pub IsOf-split : (c : Charge) (s t : ChargeToken) (n d : ℕ) → IsChargeSeat c s n d → t.table_id ≡ s.table_id → t.me ≡ (split_charge_view s.me.0, s.me.1) → IsChargeSeat c t n d
IsOf-split c s t n d is table me = record {
  seat = record { same = table ∙ is.seat.same; here = ap (λ (m : ChargeSat). m.0.standing.gone) me ∙ is.seat.here };
  bare = ap (λ (m : ChargeSat). m.1) me ∙ is.bare;
  out = ap (λ (m : ChargeSat). m.0.tree.in_hand) me ∙ is.out;
  paced = subst (λ (m : ChargeSat). IsPaced m.0.uses) (sym me) is.paced;
  own = subst (λ (m : ChargeSat). 1 ≤ m.0.uses.seats) (sym me) is.own;
  charges = is.charges ∙ ap (λ (m : ChargeSat). counted m.0.uses.charges) (sym me);
  uncharges = is.uncharges ∙ ap (λ (m : ChargeSat). counted m.0.uses.uncharges) (sym me);
}

counted_both : (a b x y : ℕ) → a ≡ counted x → b ≡ counted y → min (a + b) (2 ^ 32 - 1) ≡ counted (x + y)
counted_both a b x y p q = omega (arith, p, q)

counted_more : (a x d y : ℕ) → a ≡ counted x → y ≡ d → min (a + d) (2 ^ 32 - 1) ≡ counted (x + y)
counted_more a x d y p q = omega (arith, p, q)

-- the first seat that another was joined into
pub IsOf-join : (c : Charge) (s t u : ChargeToken) (n d n' d' a b : ℕ) → IsChargeSeat c s n d → IsChargeSeat c u n' d' → t.table_id ≡ s.table_id → t.me ≡ (joined_charge_view s.me.0 u.me.0, s.me.1) → a ≡ min (n + n') (2 ^ 32 - 1) → b ≡ min (d + d') (2 ^ 32 - 1) → IsChargeSeat c t a b
IsOf-join c s t u n d n' d' a b is theirs table me charges uncharges = record {
  seat = record { same = table ∙ is.seat.same; here = ap (λ (m : ChargeSat). m.0.standing.gone) me ∙ is.seat.here };
  bare = ap (λ (m : ChargeSat). m.1) me ∙ is.bare;
  out = ap (λ (m : ChargeSat). m.0.tree.in_hand) me ∙ is.out;
  paced = subst (λ (m : ChargeSat). IsPaced m.0.uses) (sym me) (paced_join s.me.0.uses u.me.0.uses is.paced theirs.paced);
  own = subst (λ (m : ChargeSat). 1 ≤ m.0.uses.seats) (sym me) (let o = is.own in omega arith);
  charges = charges ∙ (counted_both n n' s.me.0.uses.charges u.me.0.uses.charges is.charges theirs.charges ∙ ap (λ (m : ChargeSat). counted m.0.uses.charges) (sym me));
  uncharges = uncharges ∙ (counted_both d d' s.me.0.uses.uncharges u.me.0.uses.uncharges is.uncharges theirs.uncharges ∙ ap (λ (m : ChargeSat). counted m.0.uses.uncharges) (sym me));
}

pub counted_byte : (b : Bool) → cond b 1 0 ≡ bool_byte b
counted_byte true = refl
counted_byte false = refl

-- a seat after an operation
pub IsOf-use : (c : Charge) (s t : ChargeToken) (more : Uses) (n d x y a b : ℕ) → IsChargeSeat c s n d → t ≡ record s { me = t.me } → t.me ≡ (record s.me.0 { uses = both_uses s.me.0.uses more }, s.me.1) → IsPaced (both_uses s.me.0.uses more)
    → a ≡ min (n + x) (2 ^ 32 - 1) → more.charges ≡ x → b ≡ min (d + y) (2 ^ 32 - 1) → more.uncharges ≡ y → IsChargeSeat c t a b
IsOf-use c s t more n d x y a b is same me paced charges cx uncharges dy = record {
  seat = record { same = ap (λ (z : ChargeToken). z.table_id) same ∙ is.seat.same; here = ap (λ (m : ChargeSat). m.0.standing.gone) me ∙ is.seat.here };
  bare = ap (λ (m : ChargeSat). m.1) me ∙ is.bare;
  out = ap (λ (m : ChargeSat). m.0.tree.in_hand) me ∙ is.out;
  paced = subst (λ (m : ChargeSat). IsPaced m.0.uses) (sym me) paced;
  own = subst (λ (m : ChargeSat). 1 ≤ m.0.uses.seats) (sym me) (let o = is.own in omega arith);
  charges = charges ∙ (counted_more n s.me.0.uses.charges x more.charges is.charges cx ∙ ap (λ (m : ChargeSat). counted m.0.uses.charges) (sym me));
  uncharges = uncharges ∙ (counted_more d s.me.0.uses.uncharges y more.uncharges is.uncharges dy ∙ ap (λ (m : ChargeSat). counted m.0.uses.uncharges) (sym me));
}

-- a seat that did and saw more of the tree, and has not the room in hand
module _ (c : Charge) (s t : ChargeToken) (n d : ℕ) (x : TreeView) (is : IsChargeSeat c s n d) (now : t ≡ record s { me = with_room_back s.me x }) where
  pub IsOf-tree : x.in_hand ≡ false → IsChargeSeat c t n d
  IsOf-tree out = subst (λ (z : ChargeToken). IsChargeSeat c z n d) (sym now) (record { seat = record { same = is.seat.same; here = is.seat.here }; bare = refl; out = out; paced = is.paced; own = is.own; charges = is.charges; uncharges = is.uncharges })

  pub seated_tree : seated_at c t ≡ record (seated_at c s) { tree = x }
  seated_tree = ap (seated_at c) now

-- and one that has no room
pub token_less : (s t : ChargeToken) (x : TreeView) → s.me.1 ≡ [] → t ≡ record s { me = t.me } → t.me ≡ (record s.me.0 { tree = x }, s.me.1) → t ≡ record s { me = with_room_back s.me x }
token_less s t x bare same me = same ∙ ap (λ (m : ChargeSat). record s { me = m }) (me ∙ ap (λ l. (record s.me.0 { tree = x }, l)) bare)

-- what a contract sees of a seat after an operation
pub seated_use : (c : Charge) (s t : ChargeToken) (v : ChargeSeated) (more : Uses) → seated_at c s ≡ v → t.me ≡ (record s.me.0 { uses = both_uses s.me.0.uses more }, s.me.1) → seated_at c t ≡ record v { uses = both_uses v.uses more }
seated_use c s t v more is me = ap (λ (m : ChargeSat). record { charge = c; uses = m.0.uses; tree = m.0.tree; standing = m.0.standing }) me ∙ ap (λ (x : ChargeSeated). record x { uses = both_uses x.uses more }) is
