-- SPDX-License-Identifier: GPL-2.0-only
-- What a command of a valid script names is there.
use Rattle.shr_worker.proofs.Common.{◌≡◌, ℕ, zero, suc, ◌≤◌, List, [], ◌∷◌, length, sym, ap, subst, ◌∙◌, arith, Some, slice_get, Command, IsCommandWithin, content_of, listed_commands, worker_commands, Shared, map, Option, sum_by}
use Rattle.std.specs.List.{AllByRecursion}
use Rattle.std.proofs.lemmas.List.Sums.{sum_by-cons}
use Rattle.shr_base.specs.declared.scripts.WorkerScript.{WorkerScript}
use Rattle.shr_script.proofs.BoundsLaws.{within_of_valid}
use Rattle.shr_walk.specs.Sharing.{IsShared}

-- one of many
pub one_of : {A : Type 0} (P : A → Type 0) (xs : List A) (n : ℕ) (y : A) → AllByRecursion P xs → slice_get xs n ≡ Some y → P y
one_of P [] n y all at = absurd (cc)
one_of P (x ∷ xs) zero y all at = let same : x ≡ y = cc in subst P same all.0
one_of P (x ∷ xs) (suc n) y all at = one_of P xs n y all.1 at

-- the commands of a worker among those of all
mapped_at : (ws : List WorkerScript) (n : ℕ) (w : WorkerScript) → slice_get ws n ≡ Some w → slice_get (map (λ (v : WorkerScript). v.commands.items) ws) n ≡ Some w.commands.items
mapped_at [] n w at = absurd (cc)
mapped_at (v ∷ ws) zero w at = let same : v ≡ w = cc in ap (λ (u : WorkerScript). Some u.commands.items) same
mapped_at (v ∷ ws) (suc n) w at = mapped_at ws n w at

-- one worker has no more commands than all together
part_le : (xs : List (List Command)) (n : ℕ) (l : List Command) → slice_get xs n ≡ Some l → length l ≤ sum_by length xs
part_le [] n l at = absurd (cc)
part_le (x ∷ xs) zero l at = let same : x ≡ l = cc in let e = ap (λ (m : List Command). length m) same in let all = sum_by-cons length x xs in omega (arith, e, all)
part_le (x ∷ xs) (suc n) l at = let rest = part_le xs n l at in let all = sum_by-cons length x xs in omega (arith, rest, all)

module _ (x : Shared) (h : IsShared x) (n : ℕ) (w : WorkerScript) (there : Some w ≡ slice_get x.script.workers.items n) where
  -- the commands are those of the worker of this number
  pub command_of : (k : ℕ) (c : Command) → slice_get w.commands.items k ≡ Some c → slice_get (worker_commands x.script n) k ≡ Some c
  command_of k c at = ap (λ (o : Option WorkerScript). slice_get (listed_commands o) k) (sym there) ∙ at

  -- each command of a worker names what is there
  pub command_within : (k : ℕ) (c : Command) → slice_get w.commands.items k ≡ Some c → IsCommandWithin (content_of x.script) c
  command_within k c at = let t = content_of x.script in
      one_of (IsCommandWithin t) w.commands.items k c (one_of (AllByRecursion (IsCommandWithin t)) t.workers n w.commands.items (within_of_valid t h.script).each (mapped_at x.script.workers.items n w (sym there))) at

  -- a worker has at most 20,000 commands
  pub commands_few : length w.commands.items ≤ 20000
  commands_few = let t = content_of x.script in let one = part_le t.workers n w.commands.items (mapped_at x.script.workers.items n w (sym there)) in let all = (within_of_valid t h.script).commands in omega (arith, one, all)
