-- SPDX-License-Identifier: GPL-2.0-only
-- What an entry takes of the children's lists, by the child that it names.
use Rattle.shr_audit_case.proofs.ReplayCommon.{◌≡◌, ◌≢◌, ℕ, ◌<◌, ◌≤◌, Bool, true, false, List, [], length, Option, Some, None, refl, sym, ap, ◌∙◌, subst, arith, Object, Entry, Add, Look, Drop, Pin, Scan, MovedIn, Closed, Drained, child_of, moved_by, without_child, took_after}
use Rattle.shr_audit_case.specs.Replay.{left_given}

module _ (took : ℕ → List Object) where
  pub moved_none : (e : Entry) → child_of e ≡ None → moved_by took e ≡ []
  moved_none (Add by birth added key value) h = refl
  moved_none (Look by birth key hit) h = refl
  moved_none (Drop by birth key kind) h = refl
  moved_none (Pin by birth key pinned hit) h = refl
  moved_none (Scan worker walk asked policy visits freed stopped) h = refl
  moved_none (MovedIn child objects) h = cc
  moved_none Closed h = refl
  moved_none (Drained by objects) h = refl

  pub after_none : (e : Entry) → child_of e ≡ None → took_after took e ≡ took
  after_none (Add by birth added key value) h = refl
  after_none (Look by birth key hit) h = refl
  after_none (Drop by birth key kind) h = refl
  after_none (Pin by birth key pinned hit) h = refl
  after_none (Scan worker walk asked policy visits freed stopped) h = refl
  after_none (MovedIn child objects) h = cc
  after_none Closed h = refl
  after_none (Drained by objects) h = refl

  pub moved_some : (e : Entry) (c : ℕ) → child_of e ≡ Some c → moved_by took e ≡ took c
  moved_some (MovedIn child objects) c h = let same : child ≡ c = cc in ap took same
  moved_some (Add by birth added key value) c h = cc
  moved_some (Look by birth key hit) c h = cc
  moved_some (Drop by birth key kind) c h = cc
  moved_some (Pin by birth key pinned hit) c h = cc
  moved_some (Scan worker walk asked policy visits freed stopped) c h = cc
  moved_some Closed c h = cc
  moved_some (Drained by objects) c h = cc

  pub after_some : (e : Entry) (c : ℕ) → child_of e ≡ Some c → took_after took e ≡ without_child c took
  after_some (MovedIn child objects) c h = let same : child ≡ c = cc in ap (λ (n : ℕ). without_child n took) same
  after_some (Add by birth added key value) c h = cc
  after_some (Look by birth key hit) c h = cc
  after_some (Drop by birth key kind) c h = cc
  after_some (Pin by birth key pinned hit) c h = cc
  after_some (Scan worker walk asked policy visits freed stopped) c h = cc
  after_some Closed c h = cc
  after_some (Drained by objects) c h = cc

pub left_some : (given : List Object) (e : Entry) (c : ℕ) → child_of e ≡ Some c → left_given given e ≡ []
left_some given (MovedIn child objects) c h = refl
left_some given (Add by birth added key value) c h = cc
left_some given (Look by birth key hit) c h = cc
left_some given (Drop by birth key kind) c h = cc
left_some given (Pin by birth key pinned hit) c h = cc
left_some given (Scan worker walk asked policy visits freed stopped) c h = cc
left_some given Closed c h = cc
left_some given (Drained by objects) c h = cc
