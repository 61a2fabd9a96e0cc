-- SPDX-License-Identifier: GPL-2.0-only
-- One worker's seats more joined into the first ones.
use Rattle.shr_run.proofs.Common.{◌≡◌, ℕ, ◌+◌, List, [], ◌∷◌, ◌++◌, length, map, sym, ap, subst, ◌∙◌, arith, append_assoc, All, IsTrue, All-cons, Standing, View, WorkerResult, CrewSeats, Held, held_by, AreFirst, AreParted, WorkerLog, Firsts, with_workers, IsAtEnd, AreJoinedAll, firsts_of, last_of, log_of, seats_in, AreJoined, with_worker}
use Rattle.std.proofs.lemmas.List.Elements.{All-tail}

module _ (old new : CrewSeats) (w : WorkerResult) (j : AreJoined old (seats_in w) new) where
  pub firsts_joined : firsts_of new ≡ with_worker (firsts_of old) (last_of w)
  firsts_joined = let core = j.core in let uses = j.uses in let tree = j.tree in let moves = j.moves in let strands = j.strands in let plain = j.state in λ i. record { core = core i; uses = uses i; tree = tree i; moves = moves i; strands = strands i; plain = plain i }

  pub first_joined : AreFirst old → AreFirst new
  first_joined f = record {
    caches = record {
      core = ap (λ (v : View). v.standing.first) j.core ∙ f.caches.core;
      rooms = ap (λ (v : View). v.holding.hands) j.core ∙ f.caches.rooms;
      charge = ap (λ (z : Standing). z.first) j.charged ∙ f.caches.charge;
      deferred = ap (λ (z : Standing). z.first) j.deferred ∙ f.caches.deferred;
    };
    plain = record { units = ap (λ (z : Standing × Standing). z.0.first) j.standing ∙ f.plain.units; deferred = ap (λ (z : Standing × Standing). z.1.first) j.standing ∙ f.plain.deferred };
  }

  pub parted_joined : (splits joins : ℕ) → AreParted old splits joins → AreParted new splits (joins + 1)
  parted_joined splits joins p = record {
    core_splits = ap (λ (v : View). v.standing.splits) j.core ∙ p.core_splits;
    core_joins = ap (λ (v : View). v.standing.joins) j.core ∙ ap (λ k. k + 1) p.core_joins;
    charge_splits = ap (λ (z : Standing). z.splits) j.charged ∙ p.charge_splits;
    charge_joins = ap (λ (z : Standing). z.joins) j.charged ∙ ap (λ k. k + 1) p.charge_joins;
    deferred_splits = ap (λ (z : Standing). z.splits) j.deferred ∙ p.deferred_splits;
    deferred_joins = ap (λ (z : Standing). z.joins) j.deferred ∙ ap (λ k. k + 1) p.deferred_joins;
    unit_splits = ap (λ (z : Standing × Standing). z.0.splits) j.standing ∙ p.unit_splits;
    unit_joins = ap (λ (z : Standing × Standing). z.0.joins) j.standing ∙ ap (λ k. k + 1) p.unit_joins;
    pooled_splits = ap (λ (z : Standing × Standing). z.1.splits) j.standing ∙ p.pooled_splits;
    pooled_joins = ap (λ (z : Standing × Standing). z.1.joins) j.standing ∙ ap (λ k. k + 1) p.pooled_joins;
  }

-- of these results all but the rest were joined, as the first seats count it
abbrev pub AreCounted : CrewSeats → CrewSeats → List WorkerResult → List WorkerResult → Type 0
AreCounted old first rest results = (splits joins : ℕ) → AreParted old splits joins → (k : ℕ) × (k + length rest ≡ length results) × AreParted first splits (joins + k)

-- once all were
all_counted : (old new : CrewSeats) (results rest : List WorkerResult) → rest ≡ [] → AreCounted old new rest results → (splits joins : ℕ) → AreParted old splits joins → AreParted new splits (joins + length results)
all_counted old new results rest none counted splits joins p = let k = counted splits joins p in
    subst (λ n. AreParted new splits (joins + n)) (let e = k.1 in let z = ap (λ (l : List WorkerResult). length l) none in omega (arith, e, z)) k.2

-- and after one more
more_counted : (old first new : CrewSeats) (w : WorkerResult) (left rest results : List WorkerResult) → left ≡ w ∷ rest → ((splits joins : ℕ) → AreParted first splits joins → AreParted new splits (joins + 1)) → AreCounted old first left results → AreCounted old new rest results
more_counted old first new w left rest results next one before splits joins p = let k = before splits joins p in let many = k.1 in let long = ap (λ (l : List WorkerResult). length l) next in (
  k.0 + 1,
  omega (arith, many, long),
  subst (AreParted new splits) (omega arith) (one splits (joins + k.0) k.2),
)

pub joined_all : (old new : CrewSeats) (results rest : List WorkerResult) → rest ≡ [] → held_by new ≡ held_by old → with_workers (firsts_of new) (map last_of rest) ≡ with_workers (firsts_of old) (map last_of results)
    → AreCounted old new rest results → AreJoinedAll old results new
joined_all old new results rest none tables joined parted = record {
  tables = tables;
  firsts = ap (λ (l : List WorkerResult). with_workers (firsts_of new) (map last_of l)) (sym none) ∙ joined;
  parted = all_counted old new results rest none parted;
}

-- the first of the workers that are left is at its end
pub own_at_end : (h : Held) (w : WorkerResult) (left rest : List WorkerResult) → left ≡ w ∷ rest → All (IsAtEnd h) left → IsAtEnd h w
own_at_end h w left rest next all = subst (All (IsAtEnd h)) next all 0 w (omega arith)

module _ (old first new : CrewSeats) (w : WorkerResult) (left rest results : List WorkerResult) (next : left ≡ w ∷ rest) (j : AreJoined first (seats_in w) new) where
  -- what is to be joined is joined one more, and one fewer is left
  pub still_joined : with_workers (firsts_of first) (map last_of left) ≡ with_workers (firsts_of old) (map last_of results) → with_workers (firsts_of new) (map last_of rest) ≡ with_workers (firsts_of old) (map last_of results)
  still_joined before = ap (λ (f : Firsts). with_workers f (map last_of rest)) (firsts_joined first new w j) ∙ (ap (λ (l : List WorkerResult). with_workers (firsts_of first) (map last_of l)) (sym next) ∙ before)

  pub still_parted : AreCounted old first left results → AreCounted old new rest results
  still_parted = more_counted old first new w left rest results next (parted_joined first new w j)

  pub still_whole : IsTrue w.whole → (All (λ (v : WorkerResult). IsTrue v.whole) left → All (λ (v : WorkerResult). IsTrue v.whole) results) → All (λ (v : WorkerResult). IsTrue v.whole) rest → All (λ (v : WorkerResult). IsTrue v.whole) results
  still_whole one before all = before (subst (All (λ (v : WorkerResult). IsTrue v.whole)) (sym next) (All-cons (λ (v : WorkerResult). IsTrue v.whole) w rest one all))

  pub still_at_end : (h : Held) → All (IsAtEnd h) left → All (IsAtEnd h) rest
  still_at_end h all = All-tail (IsAtEnd h) w rest (subst (All (IsAtEnd h)) next all)

  pub still_logged : (logs more : List WorkerLog) (log : WorkerLog) → more ≡ logs ++ log ∷ [] → log ≡ log_of w → logs ++ map log_of left ≡ map log_of results → more ++ map log_of rest ≡ map log_of results
  still_logged logs more log is same before = ap (λ (l : List WorkerLog). l ++ map log_of rest) is ∙ (append_assoc logs (log ∷ []) (map log_of rest)
      ∙ (ap (λ (l : WorkerLog). logs ++ l ∷ map log_of rest) same ∙ (ap (λ (l : List WorkerResult). logs ++ map log_of l) (sym next) ∙ before)))
