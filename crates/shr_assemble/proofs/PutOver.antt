-- SPDX-License-Identifier: GPL-2.0-only
-- A put that was refused at last: the last up of its operations, which its answer names.
use Rattle.shr_assemble.proofs.Common.{◌≡◌, ◌⊎◌, inl, inr, ℕ, ◌-◌, ◌<◌, ◌≤◌, Bool, true, false, cond, List, [], ◌∷◌, ◌++◌, pos, refl, sym, ap, subst, ◌∙◌, arith, Option, Some, None, option_and_then, filter, nat_lt, AllByRecursion, IsSomeAnd, nat_tests, ints, dite, ℕ_discrete, UseStep, Serial, ups, IsBelow, group_named, IsAtOrAbove, AreRising, IsLaterThan, Uses, parents_of, limit_of, WorkerState, Work, Does, Shared, Refusal, count_first, IsOverBy, ops_at, Step, IsAmong, each_append, each_weaker, ◌<ℤ◌}
use Rattle.shr_lawful.proofs.Gathering.{among_right}
use Rattle.shr_lawful.proofs.Listed.{PairsRec, pairs_rec, pairs_right}
use Rattle.shr_assemble.proofs.PutRounds.{EndsOver}
use Rattle.shr_assemble.proofs.PutTries.{AreOps, same_limit}
use Rattle.shr_assemble.proofs.PutWays.{at_all}
use Rattle.shr_assemble.proofs.WalkingCharges.{GoesDown}
use Rattle.shr_assemble.proofs.WalkingWell.{IsTableOf}

-- an operation goes down, or has no higher number
abbrev IsPast : ℕ → UseStep → Type 0
IsPast n o = (o.up ≡ false) ⊎ (o.operation ≤ n)

none_up : (n : ℕ) (ops : List UseStep) → AllByRecursion (IsPast n) ops → ups (filter (λ (o : UseStep). nat_lt n o.operation) ops) ≡ 0
none_up n [] h = refl
none_up n (o ∷ ops) h = kept (nat_lt n o.operation) refl h.0 (none_up n ops h.1) where
  kept : (t : Bool) → nat_lt n o.operation ≡ t → IsPast n o → ups (filter (λ (y : UseStep). nat_lt n y.operation) ops) ≡ 0 → ups (cond t (o ∷ filter (λ (y : UseStep). nat_lt n y.operation) ops) (filter (λ (y : UseStep). nat_lt n y.operation) ops)) ≡ 0
  kept true e (inl down) none = let f = count_first (λ (y : UseStep). y.up) o (filter (λ (y : UseStep). nat_lt n y.operation) ops) in let d = ap (λ (b : Bool). cond {A = ℕ} b 1 0) down in omega (arith, f, d, none)
  kept true e (inr low) none = absurd (grind (arith, nat_tests, e, low))
  kept false e p none = none

-- all before it has lower numbers in its group
before_low : (front : List UseStep) (over : UseStep) (back : List UseStep) → PairsRec (λ (x o : UseStep). IsLaterThan o x) (front ++ over ∷ back) → AllByRecursion (λ (o : UseStep). o.group ≡ over.group → o.operation < over.operation) front
before_low [] over back h = tt
before_low (o ∷ front) over back h = (here front h.0, before_low front over back h.1) where
  here : (l : List UseStep) → AllByRecursion (λ (y : UseStep). IsLaterThan y o) (l ++ over ∷ back) → o.group ≡ over.group → o.operation < over.operation
  here [] k = k.0
  here (y ∷ l) k = here l k.1

pub over_last : (x : Shared) (by : Serial) (r : Refusal) (ops : List UseStep) → EndsOver x by r ops → PairsRec (λ (y o : UseStep). IsLaterThan o y) ops → ups (filter (λ (o : UseStep). nat_lt r.operation o.operation) (ops_at r.group ops)) ≡ 0
over_last x by r ops h rise =
    let low = before_low h.front h.over h.back (subst (PairsRec (λ (y o : UseStep). IsLaterThan o y)) h.whole rise) in
    let here = h.here in let number = h.number in
    let each : AllByRecursion (λ (o : UseStep). o.group ≡ r.group → IsPast r.operation o) (h.front ++ h.over ∷ h.back) = each_append (λ (o : UseStep). o.group ≡ r.group → IsPast r.operation o) h.front (h.over ∷ h.back)
    (each_weaker (λ (o : UseStep). o.group ≡ h.over.group → o.operation < h.over.operation) (λ (o : UseStep). o.group ≡ r.group → IsPast r.operation o) (λ o k e. let lt = k (e ∙ sym here) in inr (omega (arith, lt, number))) h.front low)
    ((λ e. inr (omega (arith, number))), each_weaker GoesDown (λ (o : UseStep). o.group ≡ r.group → IsPast r.operation o) (λ o d e. inl d) h.back h.downs) in
    none_up r.operation (ops_at r.group ops) (each_weaker (λ (o : UseStep). (o.group ≡ r.group → IsPast r.operation o) × (o.group ≡ r.group)) (IsPast r.operation) (λ o p. p.0 p.1) (ops_at r.group ops)
    (at_all (λ (o : UseStep). o.group ≡ r.group → IsPast r.operation o) r.group ops (subst (AllByRecursion (λ (o : UseStep). o.group ≡ r.group → IsPast r.operation o)) (sym h.whole) each)))

-- an up that didn't find the usage below the limit found the limit, or more
reached : (limit : Option ℕ) (o : UseStep) (usage : ℕ) → o.found ≡ pos usage → (IsBelow limit o → ⊥) → IsSomeAnd limit (λ l. l ≤ usage)
reached None o usage e h = absurd (h tt)
reached (Some l) o usage e h = not_less l usage (λ lt. h (subst (λ z. z <ℤ pos l) (sym e) lt)) where
  not_less : (l usage : ℕ) → ((pos usage <ℤ pos l) → ⊥) → l ≤ usage
  not_less l usage h = dite (ℕ_discrete (l - usage) 0) (λ none. omega (arith, none)) (λ some. absurd (h (let lt : usage < l = omega (arith, some) in omega (arith, ints, lt))))

-- what rose in the whole rises in a part
pub rising_part : (s t : WorkerState) (w : Work) → Does s t w → AreRising s.uses.ops → PairsRec (λ (y o : UseStep). IsLaterThan o y) w.ops
rising_part s t w does rise = let whole : t.uses.ops ≡ s.uses.ops ++ w.ops = ap (λ (u : Uses). u.ops) does.uses in
    pairs_right (λ (y o : UseStep). IsLaterThan o y) s.uses.ops w.ops (subst (PairsRec (λ (y o : UseStep). IsLaterThan o y)) whole (pairs_rec (λ (y o : UseStep). IsLaterThan o y) t.uses.ops (does.rise rise)))

-- the answer of a put that was refused at last
pub over_caused : (x : Shared) (table : IsTableOf x) (by : Serial) (group : ℕ) (tries : ℕ) (over kept : List ℕ) (r : Refusal) (z : Step) → z.by ≡ by → option_and_then group_named z.command ≡ Some group → AreOps x by group tries over kept z.work → tries ≡ 14
    → IsAtOrAbove (parents_of x.script) r.group group → EndsOver x by r z.work.ops → Does z.before z.after z.work → AreRising z.before.uses.ops → IsOverBy x.script z r.group r.operation r.usage
over_caused x table by group tries over kept r z mine named ops many above h does rise = record {
  own = group;
  named = named;
  above = above;
  up = subst (λ (o : UseStep). IsAmong o z.work.ops) same (subst (IsAmong h.over) (sym h.whole) (among_right h.front (h.over ∷ h.back) h.over (0, refl)));
  full = subst (λ (g : ℕ). IsSomeAnd (limit_of x.script g) (λ limit. limit ≤ r.usage)) h.here (reached (limit_of x.script h.over.group) h.over r.usage h.found (λ below. h.is.above (subst (λ l. IsBelow l h.over) (same_limit x table h.over.group) below)));
  last = last_of;
  tried = ops.each ∙ many;
} where
  same : h.over ≡ record { group = r.group; operation = r.operation; up = true; found = pos r.usage; by = z.by }
  same = let a = h.here in let b = h.number in let c = h.is.up in let d = h.found in let e = h.is.made ∙ sym mine in λ i. record { group = a i; operation = b i; up = c i; found = d i; by = e i }

  last_of : ups (filter (λ (o : UseStep). nat_lt r.operation o.operation) (ops_at r.group z.work.ops)) ≡ 0
  last_of = over_last x by r z.work.ops h (rising_part z.before z.after z.work does rise)
