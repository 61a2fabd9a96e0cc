-- SPDX-License-Identifier: GPL-2.0-only
-- How often walks and tries call to charge and to uncharge.
use Rattle.shr_walk.proofs.ChargingCommon.{◌≡◌, ℕ, zero, suc, ◌+◌, ◌^◌, ◌<◌, List, [], ◌∷◌, length, Bool, true, false, refl, ap, subst, ◌∙◌, ⊎_elim, arith, cond, Some, None, Serial, WalkAnswer, ChargeAnswer, Uses, Shared, Walk, OneGives, WorkerState, Work, Does, WalkGives, RootGives, WalkMade, RootMade, IsMade, IsWalked, IsRootWalked, Visit, AreVisited, walk_for, IsChargeTried, charge_work, ◌||◌, nat_le, counted, spent_by}
use Rattle.std.proofs.lemmas.Bool.Decides.{nat_tests}
use Rattle.shr_base.specs.declared.replies.Spent.{Spent}
use Rattle.shr_base.specs.declared.replies.Spent.TheVariants as spent
use Rattle.shr_base.specs.declared.walks.WalkAnswer.TheVariants as answered
use Rattle.shr_base.specs.Walks.{Attempt}
use Rattle.shr_base.specs.declared.walks.MapSeen.{MapSeen}

-- so many calls to charge were made, and those to uncharge stay few
pub record Calls (n : ℕ) (s t : WorkerState) : Type 0 where
  pub charges : t.uses.charges ≡ s.uses.charges + n
  pub few : s.uses.uncharges < 2 ^ 25 → t.uses.uncharges < 2 ^ 25

pub calls_of : (n : ℕ) (s t : WorkerState) (w : Work) → Does s t w → w.charges ≡ n → Calls n s t
calls_of n s t w d e = record { charges = ap (λ (u : Uses). u.charges) d.uses ∙ ap (λ (m : ℕ). s.uses.charges + m) e; few = d.few }

pub calls_then : (m n : ℕ) (s t u : WorkerState) → Calls m s t → Calls n t u → Calls (m + n) s u
calls_then m n s t u a b = let c = a.charges in let d = b.charges in record { charges = omega (arith, c, d); few = λ f. b.few (a.few f) }

calls_none : (s : WorkerState) → Calls 0 s s
calls_none s = record { charges = omega arith; few = λ f. f }

module _ (x : Shared) (walk : Walk) where
  noted_calls : (Over : List MapSeen → List Attempt → WorkerState → WorkerState → Type 0) → ((maps : List MapSeen) (attempts : List Attempt) (u v : WorkerState) → Over maps attempts u v → Calls 0 u v) → (a : WalkAnswer) (freed : ℕ) (s t : WorkerState) → IsMade x walk Over a freed s t → Calls 0 s t
  noted_calls Over over a freed s t m = calls_then 0 0 s m.ended t (over m.maps.items m.attempts.items s m.ended m.walked) (calls_of 0 m.ended t _ m.recorded refl)

  made_calls : (whole : Bool) (a : WalkAnswer) (freed : ℕ) (s t : WorkerState) → WalkMade x walk whole a freed s t → Calls 0 s t
  made_calls whole a freed s t m = calls_then 0 0 s m.begun t (calls_of 0 s m.begun _ m.loaded refl) (noted_calls (IsWalked x walk whole) (λ maps attempts u v w. calls_of 0 u v w.w w.does w.is.charges) a freed m.begun t m.made)

  walk_calls : (a : WalkAnswer) (s t : WorkerState) → WalkGives x walk a s t → Calls 0 s t
  walk_calls (answered.Walked freed) s t m = made_calls true (answered.Walked freed) freed s t m
  walk_calls (answered.Offline entry) s t m = calls_of 0 s t _ m.does refl
  walk_calls (answered.Memory freed) s t m = ⊎_elim (λ none. calls_of 0 s t _ none.1 refl) (λ made. made_calls false (answered.Memory freed) freed s t made) m

  root_made_calls : (whole : Bool) (a : WalkAnswer) (freed : ℕ) (s t : WorkerState) → RootMade x walk whole a freed s t → Calls 0 s t
  root_made_calls whole a freed s t m = noted_calls (IsRootWalked x walk whole) (λ maps attempts u v w. calls_of 0 u v w.w w.does w.is.charges) a freed s t m

  root_calls : (a : WalkAnswer) (s t : WorkerState) → RootGives x walk a s t → Calls 0 s t
  root_calls (answered.Walked freed) s t m = root_made_calls true (answered.Walked freed) freed s t m
  root_calls (answered.Offline entry) s t m = absurd m
  root_calls (answered.Memory freed) s t m = ⊎_elim (λ none. calls_of 0 s t _ none.1 refl) (λ made. root_made_calls false (answered.Memory freed) freed s t made) m

  one_calls : (g : ℕ) → walk.group ≡ g → (a : WalkAnswer) (s t : WorkerState) → OneGives x walk a s t → Calls 0 s t
  one_calls zero e a s t o = root_calls a s t (o.root e)
  one_calls (suc g) e a s t o = let below : 0 < walk.group = omega (arith, e) in walk_calls a s t (o.below below)

-- walks charge nothing
pub visited_calls : (x : Shared) (by : Serial) (vs : List Visit) (s t : WorkerState) → AreVisited x by vs s t → Calls 0 s t
visited_calls x by [] s t same = subst (λ (r : WorkerState). Calls 0 s r) same (calls_none s)
visited_calls x by (v ∷ vs) s t walked = calls_then 0 0 s v.after t (one_calls x (walk_for by (length s.walks) v.job) v.job.group refl v.answer s v.after walked.0) (visited_calls x by vs v.after t walked.1)

-- a try is one charge
pub tried_calls : (x : Shared) (by : Serial) (group : ℕ) (a : ChargeAnswer) (s t : WorkerState) → IsChargeTried x by group a s t → Calls 1 s t
tried_calls x by group a s t h = calls_of 1 s t (charge_work h.ops) h.does refl

not_reached : (a b : Bool) (x : Spent) → cond (a || b) (Some x) None ≡ None → a ≡ false
not_reached true b x e = absurd (cc)
not_reached false b x e = refl

-- a seat that isn't worn out has charged less often
pub charges_few : (u : Uses) → spent_by u ≡ None → u.charges < 1048576
charges_few u e = let low = not_reached (nat_le 1048576 u.charges) (nat_le 4194304 u.uncharges) (spent.Charges (counted u.charges) (counted u.uncharges)) e in grind (arith, nat_tests, low)
