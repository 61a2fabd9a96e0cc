-- SPDX-License-Identifier: GPL-2.0-only
-- Tries of pools, one more at a time.
use Rattle.shr_plain.proofs.Common.{◌≡◌, ℕ, ◌+◌, ◌≤◌, List, [], ◌∷◌, ◌++◌, length, sym, ap, ◌∙◌, refl, subst, arith, Serial, PlainTry, PassAnswer, MatchPass, Sizes, Setting, PlainState, TryGives, AreTried, answer_of, units_freed, try_of, PassGives, setting_of, home_place, room_of, ActsPlain, PlainSeated, PlainWalk}
use Rattle.std.specs.Prelude.{◌-◌}
use Rattle.shr_plain.specs.Walks.{Answers, PlainWalkGives}
use Rattle.shr_plain.specs.declared.table.Pools.{Pools}
use Rattle.shr_pass.specs.declared.answers.PassAnswer.TheVariants as passed

-- a try is the pass that it is
pub answer_back : (a : PassAnswer) → answer_of (try_of a) ≡ a
answer_back (passed.Empty version) = refl
answer_back (passed.Skip len version) = refl
answer_back (passed.Ran p) = refl

pub few_freed : (a : PassAnswer) → MatchPass a (Unit {0}) (λ p. p.freed ≤ 2097152) → units_freed (try_of a) ≤ 2097152
few_freed (passed.Empty version) h = omega arith
few_freed (passed.Skip len version) h = omega arith
few_freed (passed.Ran p) h = h

module _ (settings : List Setting) (z : Sizes) (by : Serial) (walk node priority : ℕ) where
  abbrev Gives : ℕ → PlainTry → PlainState → PlainState → Type 0
  Gives pool x s t = TryGives settings z by walk node priority pool x s t

  -- a try of the next pool
  pub tried_push : (pool : ℕ) (xs : List PlainTry) (x : PlainTry) (s t w : PlainState) → AreTried settings z by walk node priority pool xs s t → Gives (pool + length xs) x t w → AreTried settings z by walk node priority pool (xs ++ x ∷ []) s w
  tried_push pool [] x s t w a more = (w, subst (λ (n : ℕ). Gives n x s w) (let same : pool + 0 ≡ pool = omega arith in same) (subst (λ (y : PlainState). Gives (pool + 0) x y w) a more), refl)
  tried_push pool (y ∷ ys) x s t w a more = (a.0, a.1, tried_push (pool + 1) ys x a.0 t w a.2 (subst (λ (n : ℕ). Gives n x t w) (let next : pool + length (y ∷ ys) ≡ pool + 1 + length ys = omega arith in next) more))

  -- tries leave the records of the walks before
  pub tried_walks : (pool : ℕ) (xs : List PlainTry) (s t : PlainState) → AreTried settings z by walk node priority pool xs s t → t.walks ≡ s.walks
  tried_walks pool [] s t a = ap (λ (x : PlainState). x.walks) a
  tried_walks pool (x ∷ xs) s t a = tried_walks (pool + 1) xs a.0 t a.2 ∙ a.1.walks

module _ (by : Serial) (walk node priority : ℕ) (old mid new : PlainSeated) where
  abbrev Passes : Pools → ℕ → PassAnswer → PlainState → PlainState → Type 0
  Passes p n a = PassGives (setting_of p.settings.items n) (home_place p.settings.items n node) (room_of p.settings.items p.sizes n node) by.worker walk priority a

  abbrev Tried : List PlainTry → PlainState → PlainState → Type 0
  Tried xs = AreTried old.pools.settings.items old.pools.sizes by walk node priority 0 xs

  -- a seat that made these tries made one more
  pub acts_push : (xs ys : List PlainTry) (x : PlainTry) (n : ℕ) (a : PassAnswer) → ys ≡ xs ++ x ∷ [] → x ≡ try_of a → length xs ≡ n → ActsPlain (Tried xs) old mid → ActsPlain (Passes mid.pools n a) mid new → ActsPlain (Tried ys) old new
  acts_push xs ys x n a more is at before one = record {
    did = subst (λ (l : List PlainTry). Tried l old.state new.state) (sym more) (tried_push old.pools.settings.items old.pools.sizes by walk node priority 0 xs x old.state mid.state new.state before.did
        (subst (λ (k : ℕ). Passes old.pools k (answer_of x) mid.state new.state) (let here : n ≡ 0 + length xs = omega (arith, at) in here)
        (subst (λ (b : PassAnswer). Passes old.pools n b mid.state new.state) (sym (ap answer_of is ∙ answer_back a))
        (subst (λ (p : Pools). Passes p n a mid.state new.state) (ap (λ (s : PlainSeated). s.pools) before.rest) one.did))));
    rest = one.rest ∙ ap (λ (s : PlainSeated). record s { state = new.state }) before.rest;
  }

-- a seat that made the tries of a walk put its record behind the others
pub walk_acts : (by : Serial) (node priority : ℕ) (old mid new : PlainSeated) (walk : PlainWalk) → walk.by ≡ by → walk.node ≡ node → walk.priority ≡ priority
    → ActsPlain (AreTried old.pools.settings.items old.pools.sizes by (length old.state.walks) node priority 0 walk.tries.items) old mid → Answers (length old.pools.settings.items) walk.tries.items walk.answer
    → new ≡ record mid { state = record mid.state { walks = mid.state.walks ++ walk ∷ [] }; spare = mid.spare - 1 }
    → ActsPlain (PlainWalkGives old.pools.settings.items old.pools.sizes by node priority walk.answer) (record old { spare = old.spare - 1 }) new
walk_acts by node priority old mid new walk by_is node_is priority_is tried answers e = record {
  did = record {
    walk = walk;
    tried = mid.state;
    tries = tried.did;
    answers = answers;
    by_is = by_is;
    node_is = node_is;
    priority_is = priority_is;
    answer_is = refl;
    state = ap (λ (s : PlainSeated). s.state) e ∙ ap (λ (ws : List PlainWalk). record mid.state { walks = ws ++ walk ∷ [] }) (tried_walks old.pools.settings.items old.pools.sizes by (length old.state.walks) node priority 0 walk.tries.items old.state mid.state tried.did);
  };
  rest = e ∙ (ap (λ (m : PlainSeated). record m { state = record mid.state { walks = mid.state.walks ++ walk ∷ [] }; spare = m.spare - 1 }) tried.rest ∙ ap (λ (x : PlainState). record old { state = x; spare = old.spare - 1 }) (sym (ap (λ (s : PlainSeated). s.state) e)));
}
