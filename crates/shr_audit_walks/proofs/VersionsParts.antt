-- SPDX-License-Identifier: GPL-2.0-only
-- The workers of a report one after another.
use Rattle.shr_audit_walks.proofs.VersionsCommon.{◌≡◌, ℕ, ◌<◌, ◌≤◌, Bool, true, false, List, length, get_or, flat_map, Option, Some, None, refl, sym, ap, subst, ◌∙◌, arith, slice_get, Decides, WorkerPart, Place, WalkRecord, versions_at, AreNotFalling, IsPartRising}
use Rattle.std.proofs.lemmas.Option.{slice_get-get_or}
use Rattle.shr_laws.specs.declared.report.Report.{Report}
use Rattle.shr_laws.specs.Parts.{walks_in, walks_of}
use Rattle.shr_audit_formed.proofs.Eachs.{all_at, fails}

abbrev pub AllRising : Report → Type 0
AllRising r = (worker : ℕ) (place : Place) → AreNotFalling (flat_map (versions_at place) (walks_of r worker))

pub of_part : (part : WorkerPart) (walks : List WalkRecord) (b : Bool) → walks ≡ part.walks.items → Decides b ((place : Place) → AreNotFalling (flat_map (versions_at place) walks)) → Decides b (IsPartRising part)
of_part part walks b same d = subst (λ (ws : List WalkRecord). Decides b ((place : Place) → AreNotFalling (flat_map (versions_at place) ws))) same d

module _ (r : Report) (parts : List WorkerPart) (i : ℕ) (all : parts ≡ r.workers.items) where
  pub parts_all : length parts ≤ i → ((k : ℕ) (part : WorkerPart) → k < i → slice_get parts k ≡ Some part → IsPartRising part) → Decides true (AllRising r)
  parts_all over before = (λ t worker place. by worker place (slice_get parts worker) refl, λ h. refl)
    where
      Falls : Place → Option WorkerPart → Type 0
      Falls place o = AreNotFalling (flat_map (versions_at place) (walks_in o))

      each : (k : ℕ) (part : WorkerPart) → slice_get parts k ≡ Some part → IsPartRising part
      each = (all_at (λ (k : ℕ) (part : WorkerPart). IsPartRising part) parts i over before).0 refl

      by : (worker : ℕ) (place : Place) (o : Option WorkerPart) → slice_get parts worker ≡ o → Falls place (slice_get r.workers.items worker)
      by worker place o e = subst (λ (ps : List WorkerPart). Falls place (slice_get ps worker)) all (subst (Falls place) (sym e) (found o e))
        where
          found : (o : Option WorkerPart) → slice_get parts worker ≡ o → Falls place o
          found None e = λ k d lt. absurd (omega arith)
          found (Some part) e = each worker part e place

  pub part_falls : (part : WorkerPart) (b : Bool) → i < length parts → part ≡ get_or parts i part → b ≡ false → Decides b (IsPartRising part) → Decides false (AllRising r)
  part_falls part b lt is isnt d = fails (IsPartRising part) (AllRising r) b d isnt (λ h place. subst (λ (o : Option WorkerPart). AreNotFalling (flat_map (versions_at place) (walks_in o))) here (h i place))
    where
      here : slice_get r.workers.items i ≡ Some part
      here = ap (λ (ps : List WorkerPart). slice_get ps i) (sym all) ∙ slice_get-get_or parts i part lt ∙ ap (λ (x : WorkerPart). Some x) (sym is)
