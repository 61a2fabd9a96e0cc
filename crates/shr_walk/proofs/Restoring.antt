-- SPDX-License-Identifier: GPL-2.0-only
-- What a visit comes to whose bit was cleared, by its second pass.
use Rattle.shr_walk.proofs.Common.{◌≡◌, ℕ, ◌<◌, sym, ap, subst, refl, ◌∙◌, Place, Outcome, place_number, ChargeSeated, View, view_of, with_clear, Count, ScanSeen, ScanAnswer, PassAnswer, List, CacheSeat, IsReadyAs, IsCleared, IsSet, PassMade, VisitGives, IfEmptyPass, RestoreGives, visit_moves}
use Rattle.shr_pass.specs.Passes.{moves_by}
use Rattle.shr_pass.specs.declared.answers.PassAnswer.TheVariants as pass
use Rattle.shr_walk.proofs.Window.{Owes, recounted, restored}

-- a seat whose bit was set is ready still
set_ready : (first : CacheSeat) (place : Place) (u w : CacheSeat) → IsReadyAs first place u → IsSet place u w → IsReadyAs first place w
set_ready first place u w r set = record {
  core = set.table ∙ r.core;
  charge = ap (λ (c : ChargeSeated). c.charge) set.charge ∙ r.charge;
  rooms = ap (λ (v : View). v.holding) set.core ∙ r.rooms;
  held = ap (λ (v : View). v.claims.held) set.core ∙ r.held;
  owner = ap (λ (v : View). v.claims.owner) set.core ∙ r.owner;
}

-- what a pass that counted 0 says may be said more weakly
pub empty_weaker : (answer : PassAnswer) {P Q : Type 0} → (P → Q) → IfEmptyPass answer P → IfEmptyPass answer Q
empty_weaker (pass.Empty version) f h = f h
empty_weaker (pass.Skip len version) f h = tt
empty_weaker (pass.Ran p) f h = tt

module _ (place : Place) (number first : ℕ) where
  -- and so is it after either end of the window
  pub ready_restored : (old : CacheSeat) (answer : PassAnswer) (o : Outcome) (u w : CacheSeat) → IsReadyAs old place u → RestoreGives place number first answer o u w → IsReadyAs old place w
  ready_restored old (pass.Empty version) o u w r (e, same) = subst (IsReadyAs old place) (sym same) r
  ready_restored old (pass.Skip len version) o u w r (e, set) = set_ready old place u w r set
  ready_restored old (pass.Ran p) o u w r (e, set) = set_ready old place u w r set

  -- no place is owed that wasn't before
  pub owed_restored : (old s t : View) (a : (k : ℕ) → Owes s k → Owes old k) (cleared : t ≡ with_clear s (place_number place)) (answer : PassAnswer) (o : Outcome) (u w : CacheSeat) (b : (k : ℕ) → Owes (view_of u.core) k → Owes t k)
      → IfEmptyPass answer (Owes (view_of u.core) (place_number place) → ⊥) → RestoreGives place number first answer o u w → (k : ℕ) → Owes (view_of w.core) k → Owes old k
  owed_restored old s t a cleared (pass.Empty version) o u w b none (e, same) k h = recounted (place_number place) old s t (view_of u.core) a cleared b none k (subst (λ (c : CacheSeat). Owes (view_of c.core) k) same h)
  owed_restored old s t a cleared (pass.Skip len version) o u w b none (e, set) k h = restored (place_number place) old s t (view_of u.core) a cleared b (view_of w.core) set.core k h
  owed_restored old s t a cleared (pass.Ran p) o u w b none (e, set) k h = restored (place_number place) old s t (view_of u.core) a cleared b (view_of w.core) set.core k h

  -- it took and gave what its second pass did
  pub moves_restored : (answer : PassAnswer) (o : Outcome) (u w : CacheSeat) → RestoreGives place number first answer o u w → moves_by place answer ≡ visit_moves place o
  moves_restored (pass.Empty version) o u w (e, same) = ap (visit_moves place) (sym e)
  moves_restored (pass.Skip len version) o u w (e, set) = ap (visit_moves place) (sym e)
  moves_restored (pass.Ran p) o u w (e, set) = ap (visit_moves place) (sym e)

  module _ (kept : CacheSeat → CacheSeat → Type 0) (counts : CacheSeat → List Count) (scans : CacheSeat → List ScanSeen) (told : ScanAnswer → CacheSeat → Type 0) (priority seeks batch : ℕ) where
    abbrev Made : PassAnswer → CacheSeat → CacheSeat → Type 0
    Made answer = PassMade kept counts scans told priority seeks batch answer

    -- the two passes with what stands between and after them are the visit
    pub visited_restored : (old s t : CacheSeat) → Made (pass.Empty first) old s → IsCleared place s t → 0 < place.group → (answer : PassAnswer) (o : Outcome) (u w : CacheSeat) → Made answer t u → RestoreGives place number first answer o u w
        → VisitGives place number kept counts scans told priority seeks batch o old w
    visited_restored old s t p cleared below (pass.Empty version) o u w q (e, same) = subst (λ (y : Outcome). VisitGives place number kept counts scans told priority seeks batch y old w) (sym e) (refl, below, (s, t, p, cleared, subst (λ (c : CacheSeat). Made (pass.Empty version) t c) (sym same) q))
    visited_restored old s t p cleared below (pass.Skip len version) o u w q (e, set) = subst (λ (y : Outcome). VisitGives place number kept counts scans told priority seeks batch y old w) (sym e) (refl, below, (u, (s, t, p, cleared, q), set))
    visited_restored old s t p cleared below (pass.Ran r) o u w q (e, set) = subst (λ (y : Outcome). VisitGives place number kept counts scans told priority seeks batch y old w) (sym e) (refl, below, (u, (s, t, p, cleared, q), set))
