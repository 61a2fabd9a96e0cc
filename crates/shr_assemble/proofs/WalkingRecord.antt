-- SPDX-License-Identifier: GPL-2.0-only
-- What the record of a walk says by itself, outcome by outcome.
use Rattle.shr_assemble.proofs.Common.{◌≡◌, ℕ, zero, suc, ◌+◌, ◌<◌, ◌≤◌, ◌≢◌, ⊎_elim, Bool, true, false, ◌&&◌, List, [], ◌∷◌, ◌++◌, length, length-append, map, sym, refl, ap, subst, ◌∙◌, arith, slice_get, Option, Some, None, flat_map, All, and_parts, and_from, same_Some, none-some, LookupWord, UseStep, Place, CacheDecl, Attempt, Ending, Outcome, PassRecord, WalkRecord, pass_of, due, ask_size, batch_of, total_of, place_number, Each, Each-none, Made, Loaded, Counted, IsPlaced, IsOutcomeOf, IsStopped, Rising, IsUncut, IsCutLast, Shared, Walk, lookup_numbered, slice_cases, length-replicate, FollowsArithmetic, MadeOf, due_asks, place_of_walk, counts_of_outcome, counts_seen, is_outcome_cut, is_cut_by}
use Rattle.std.specs.Option.{option_map_or, option_to_list}
use Rattle.shr_base.specs.declared.walks.Ending.TheVariants as ending
use Rattle.shr_base.specs.declared.walks.GoneThen.{GoneThen}
use Rattle.shr_base.specs.declared.walks.GoneThen.TheVariants as gone
use Rattle.shr_base.specs.declared.walks.Outcome.TheVariants as outcome
use Rattle.shr_walk.specs.Attempts.{Found, IsVisitMade, IsLoadShown}
use Rattle.shr_walk.specs.Records as records
use Rattle.shr_lawful.proofs.Gathering.{among_left}
use Rattle.shr_lawful.proofs.Listed.{all_slice}

-- ---- counts
pub each_left : {A : Type 0} (P : A → Type 0) (l m : List A) → Each P (l ++ m) → Each P l
each_left P [] m h = Each-none P
each_left P (z ∷ l) m h = λ j x e. h ((among_left (z ∷ l) m x (j, e)).0) x ((among_left (z ∷ l) m x (j, e)).1)

rising_left : (l m : List Counted) → Rising (l ++ m) → Rising l
rising_left [] m r = tt
rising_left (x ∷ l) m r = (each_left (λ (y : Counted). y.place ≡ x.place → x.version ≤ y.version) l m r.0, rising_left l m r.1)

rising_right : (l m : List Counted) → Rising (l ++ m) → Rising m
rising_right [] m r = r
rising_right (x ∷ l) m r = rising_right l m r.1

pub rising_at : (walk : Walk) (l : List Attempt) → Rising (flat_map (counts_seen walk) l) → (k : ℕ) (a : Attempt) → slice_get l k ≡ Some a → Rising (counts_seen walk a)
rising_at walk [] r k a at = absurd (none-some a at)
rising_at walk (b ∷ l) r zero a at = subst (λ (y : Attempt). Rising (counts_seen walk y)) (same_Some b a at) (rising_left (counts_seen walk b) (flat_map (counts_seen walk) l) r)
rising_at walk (b ∷ l) r (suc k) a at = rising_at walk l (rising_right (counts_seen walk b) (flat_map (counts_seen walk) l) r) k a at

pub same_numbers : (id : ℕ) (number : Option ℕ) → lookup_numbered id number ≡ map (λ n. (id, n)) (option_to_list number)
same_numbers id None = refl
same_numbers id (Some n) = refl

-- ---- outcomes
not_zero : (n : ℕ) → 0 < n → n ≢ 0
not_zero n lt e = omega (arith, lt, e)

second_later : (k a b m n : ℕ) → Rising (record { place = k; len = m; version = a } ∷ record { place = k; len = n; version = b } ∷ []) → a ≤ b
second_later k a b m n r = r.0 0 (record { place = k; len = n; version = b }) refl refl

placed_gone : (id group n : ℕ) (then : GoneThen) (more : List Loaded) → IsLoadShown id group then more → IsPlaced group (outcome.Gone n then)
placed_gone id group n gone.Root more h = h.0
placed_gone id group n gone.Set more h = not_zero group h.0
placed_gone id group n gone.Clear more h = not_zero group h.0

pub placed : (x : Shared) (walk : Walk) (id : ℕ) (o : Outcome) (first : LookupWord) (more : List Loaded) (held : Option ℕ) (made : List Made) (ops : List UseStep)
    → Found x walk id o first more held made ops → Rising (counts_of_outcome (place_number (place_of_walk walk id)) o) → IsPlaced walk.group o
placed x walk id (outcome.Gone n then) first more held made ops f r = placed_gone id walk.group n then more f.0
placed x walk id (outcome.Empty n version) first more held made ops f r = f.by.level
placed x walk id (outcome.Cleared n one second) first more held made ops f r = (not_zero walk.group f.by.level, second_later _ one second 0 0 r)
placed x walk id (outcome.RestoredSkip n one len version) first more held made ops f r = (not_zero walk.group f.by.level, second_later _ one version 0 len r)
placed x walk id (outcome.RestoredRan n one p) first more held made ops f r = (not_zero walk.group f.by.level, second_later _ one p.version 0 p.len r)
placed x walk id o first more held made ops f r = tt

pub outcome_kind : (x : Shared) (walk : Walk) (place : Place) (d : CacheDecl) (o : Outcome) (made : List Made) (ops : List UseStep) → IsVisitMade x walk place d o made ops → IsOutcomeOf walk.priority d o
outcome_kind x walk place d (outcome.Skip n len version) made ops h = h.kind
outcome_kind x walk place d (outcome.Ran n p) made ops h = (h.kind, h.scanned.1)
outcome_kind x walk place d (outcome.RestoredSkip n first len version) made ops h = h.kind
outcome_kind x walk place d (outcome.RestoredRan n first p) made ops h = (h.kind, h.scanned.1)
outcome_kind x walk place d o made ops h = tt

-- a pass stops exactly where its cache's scans can't make progress
pub stopped : (r : WalkRecord) (d : CacheDecl) (p : PassRecord) → FollowsArithmetic r.priority d.seeks d.batch p → records.IsPassStopped (d.fs && r.nofs) r.priority d.seeks d.batch p → IsStopped r d p
stopped r d p follows h = record {
  exactly = (
    λ e. let both = and_parts d.fs r.nofs (h.only e) in let lt = subst (λ (z : Ending). MadeOf p.asks z count) e follows.made in (both.0, both.1, omega (arith, lt, many)),
    λ all. ⊎_elim (λ e. e) (λ none. let lt = all.2 in absurd (omega (arith, none, lt, many))) (h.where_due (and_from d.fs r.nofs all.0 all.1)),
  );
  none = λ e. h.asks (h.only e);
} where
  count : ℕ
  count = due (batch_of d.batch) p.len (total_of p.len p.nr r.priority d.seeks)

  many : length (due_asks (batch_of d.batch) p.len (total_of p.len p.nr r.priority d.seeks)) ≡ due (batch_of d.batch) p.len (total_of p.len p.nr r.priority d.seeks)
  many = length-replicate (due (batch_of d.batch) p.len (total_of p.len p.nr r.priority d.seeks)) (ask_size (batch_of d.batch) p.len (total_of p.len p.nr r.priority d.seeks))

-- a pass that ended by want of room cuts its attempt
pub cut_by : (o : Outcome) (p : PassRecord) → pass_of o ≡ Some p → p.ending ≡ ending.NoRoom → is_outcome_cut o ≡ true
cut_by o p e n = ap (λ (q : Option PassRecord). option_map_or (λ (z : PassRecord). is_cut_by z.ending) q false) e ∙ ap is_cut_by n

not_both : (b : Bool) → b ≡ true → b ≡ false → ⊥
not_both b t f = let e : true ≡ false = sym t ∙ f in cc

pub never_cut : (l : List Attempt) → All IsUncut l → (k : ℕ) (a : Attempt) → slice_get l k ≡ Some a → is_outcome_cut a.outcome ≡ true → ⊥
never_cut l all k a at cut = not_both (is_outcome_cut a.outcome) cut (all_slice IsUncut l k a all at)

pub last_cut : (l : List Attempt) → IsCutLast l → (k : ℕ) (a : Attempt) → slice_get l k ≡ Some a → is_outcome_cut a.outcome ≡ true → length l ≡ k + 1
last_cut l (front, last, e, uncut, cut) k a at is = ⊎_elim
    (λ early. absurd (never_cut front uncut k a early is))
    (λ late. here late.0 late.1 late.2)
    (slice_cases front (last ∷ []) k a (subst (λ (z : List Attempt). slice_get z k ≡ Some a) e at)) where
      here : (j : ℕ) → k ≡ length front + j → slice_get (last ∷ []) j ≡ Some a → length l ≡ k + 1
      here zero is_k at_j = let n = ap (λ (z : List Attempt). length z) e in let m = length-append front (last ∷ []) in omega (arith, is_k, n, m)
      here (suc j) is_k at_j = absurd (none-some a at_j)
