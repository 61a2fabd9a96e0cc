-- SPDX-License-Identifier: GPL-2.0-only
-- The operations of a group: how many go up and how many down, with one more.
use Rattle.shr_model.proofs.Common.{◌≡◌, ◌+◌, Bool, true, false, cond, not, List, [], ◌∷◌, ◌++◌, length, arith, refl, and_parts, eqb-true, ◌==◌, UseStep, Serial}
use Rattle.std.proofs.lemmas.List.Sums.{sum_by-append, sum_by-cons}
use Rattle.shr_model.specs.Charges.{downs, is_by, ups}

pub ups_cons : (o : UseStep) (os : List UseStep) → ups (o ∷ os) ≡ cond o.up 1 0 + ups os
ups_cons o os = sum_by-cons (λ (x : UseStep). cond x.up 1 0) o os

pub downs_cons : (o : UseStep) (os : List UseStep) → downs (o ∷ os) ≡ cond (not o.up) 1 0 + downs os
downs_cons o os = sum_by-cons (λ (x : UseStep). cond (not x.up) 1 0) o os

pub ups_push : (ops : List UseStep) (o : UseStep) → ups (ops ++ o ∷ []) ≡ ups ops + cond o.up 1 0
ups_push ops o = let a = sum_by-append (λ (x : UseStep). cond x.up 1 0) ops (o ∷ []) in omega (arith, a)

-- the operations of a history are its ups and its downs
pub ups_downs : (ops : List UseStep) → ups ops + downs ops ≡ length ops
ups_downs [] = refl
ups_downs (o ∷ ops) = omega (arith, ups_downs ops, ups_cons o ops, downs_cons o ops, one_flag o.up)
  where
    one_flag : (b : Bool) → cond b 1 0 + cond (not b) 1 0 ≡ 1
    one_flag true = refl
    one_flag false = refl

-- an operation is of one command
pub is_by_same : (by : Serial) (o : UseStep) → is_by by o ≡ true → o.by ≡ by
is_by_same by o h =
    let parts = and_parts (o.by.worker == by.worker) (o.by.command == by.command) h in
    let workers = eqb-true o.by.worker by.worker parts.0 in
    let commands = eqb-true o.by.command by.command parts.1 in
    λ i. record { worker = workers i; command = commands i }
