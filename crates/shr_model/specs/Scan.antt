-- SPDX-License-Identifier: GPL-2.0-only
-- A scan of a list, by what its callback answers.
use Rattle.std.specs.Prelude.{ℕ, zero, suc, ◌+◌, Bool, true, false, if◌then◌else◌, List, [], ◌∷◌, ◌++◌}
use Rattle.shr_base.specs.declared.objects.LruStatus.{LruStatus}
use Rattle.shr_base.specs.declared.objects.LruStatus.TheVariants.{Removed, Rotate, Skip, Stop}
use Rattle.shr_base.specs.declared.objects.Object.{Object}
use Rattle.shr_base.specs.declared.objects.Policy.{Policy}
use Rattle.shr_base.specs.declared.objects.Policy.TheVariants.{Plain, Clock, Halt}
use Rattle.shr_model.specs.Objects.{unmarked_object}

-- what the callback of a policy answers of an object
abbrev pub case_of : Policy → Object → LruStatus
case_of Plain object = Removed
case_of Clock object = if object.pinned then Skip else (if object.marked then Rotate else Removed)
case_of Halt object = if object.pinned then Stop else Removed

-- what a scan leaves, what it freed in order, how many objects it met, and whether a callback
-- stopped it
pub record Scanned : Type 0 where
  pub items : List Object
  pub freed : List Object
  pub visits : ℕ
  pub stopped : Bool

-- a scan that ends here
abbrev pub scan_ends : List Object → Scanned
scan_ends items = record { items = items; freed = []; visits = 0; stopped = false }

-- the scan met one object more before
abbrev pub after_visit : Scanned → Scanned
after_visit scanned = record scanned { visits = scanned.visits + 1 }

-- the scan freed this object before
abbrev pub after_freeing : Object → Scanned → Scanned
after_freeing object scanned = record scanned { freed = object ∷ scanned.freed; visits = scanned.visits + 1 }

-- A scan that has gone past the skipped objects and has these before it. It holds the next item
-- before each callback: where a rotated object was the last, the scan ends.
unfoldable pub scan_from : Policy → ℕ → List Object → List Object → Scanned
scan_from policy zero skipped items = scan_ends (skipped ++ items)
scan_from policy (suc asked) skipped [] = scan_ends skipped
scan_from policy (suc asked) skipped (x ∷ []) = elim (case_of policy x) as (λ _. Scanned) [
  | Removed ↦ after_freeing x (scan_ends skipped)
  | Rotate ↦ after_visit (scan_ends (skipped ++ unmarked_object x ∷ []))
  | Skip ↦ after_visit (scan_ends (skipped ++ x ∷ []))
  | Stop ↦ record { items = skipped ++ x ∷ []; freed = []; visits = 1; stopped = true }
]
scan_from policy (suc asked) skipped (x ∷ y ∷ ys) = elim (case_of policy x) as (λ _. Scanned) [
  | Removed ↦ after_freeing x (scan_from policy asked skipped (y ∷ ys))
  | Rotate ↦ after_visit (scan_from policy asked skipped (y ∷ ys ++ unmarked_object x ∷ []))
  | Skip ↦ after_visit (scan_from policy asked (skipped ++ x ∷ []) (y ∷ ys))
  | Stop ↦ record { items = skipped ++ x ∷ y ∷ ys; freed = []; visits = 1; stopped = true }
]

-- a scan with this budget from the head
abbrev pub scan_of : Policy → ℕ → List Object → Scanned
scan_of policy asked items = scan_from policy asked [] items
