-- SPDX-License-Identifier: GPL-2.0-only
-- Counts that are right in the tree of a case are so in that of its script.
use Rattle.shr_audit_passes.proofs.Common.{◌≡◌, ℕ, Bool, List, [], ◌∷◌, length, sym, ap, ◌∙◌, Decides, AllByRecursion, Script, WalkRecord, counts_of, place_in, Report, IsCountRight, parents_of, EachItem, IsCountIn, AreCountsIn, AreCountsAt, Count, journals_of, each_weaker}
use Rattle.shr_base.specs.declared.places.Place.{Place}
use Rattle.shr_model.specs.Families.{items_at}

to_script : (s : Script) (r : Report) (place : Place) (parents : List ℕ) → parents ≡ parents_of s → (cs : List Count) → AllByRecursion (IsCountIn parents r place) cs → AllByRecursion (IsCountRight s r place) cs
to_script s r place parents e [] h = tt
to_script s r place parents e (c ∷ cs) h = (
  record { there = h.0.there; len = h.0.len ∙ ap (λ (ps : List ℕ). length (items_at ps (journals_of r) place c.version)) e },
  to_script s r place parents e cs h.1,
)

from_script : (s : Script) (r : Report) (place : Place) (parents : List ℕ) → parents ≡ parents_of s → (cs : List Count) → AllByRecursion (IsCountRight s r place) cs → AllByRecursion (IsCountIn parents r place) cs
from_script s r place parents e [] h = tt
from_script s r place parents e (c ∷ cs) h = (
  record { there = h.0.there; len = h.0.len ∙ sym (ap (λ (ps : List ℕ). length (items_at ps (journals_of r) place c.version)) e) },
  from_script s r place parents e cs h.1,
)

pub counts_of_script : (s : Script) (r : Report) (w : WalkRecord) (parents : List ℕ) (b : Bool) → parents ≡ parents_of s → Decides b (EachItem (AreCountsIn parents r w) w.attempts.items) → Decides b (EachItem (AreCountsAt s r w) w.attempts.items)
counts_of_script s r w parents b e d = (
  λ t. each_weaker (AreCountsIn parents r w) (AreCountsAt s r w) w.attempts.items (λ a h. to_script s r (place_in w a.id) parents e (counts_of a.outcome) h) (d.0 t),
  λ h. d.1 (each_weaker (AreCountsAt s r w) (AreCountsIn parents r w) w.attempts.items (λ a g. from_script s r (place_in w a.id) parents e (counts_of a.outcome) g) h),
)
