-- SPDX-License-Identifier: GPL-2.0-only
-- The bit of a place, by what is told of it.
use Rattle.shr_audit_lists.proofs.BitsCommon.{◌≡◌, ◌≢◌, ℕ, ◌%◌, Bool, true, false, List, [], ◌∷◌, length, Some, refl, sym, ap, subst, ◌∙◌, inl, inr, arith, slice_get, eqb-true, eq-eqb, Place, PlaceEnd, Report, is_set_at, IsSetIfLive, map, AreBitsLawful}
use Rattle.std.specs.Bool.{Decides}
use Rattle.shr_base.specs.declared.objects.Object.{Object}
use Rattle.shr_base.specs.declared.journals.Entry.{Entry}
use Rattle.shr_base.specs.declared.scripts.Script.{Script}
use Rattle.shr_model.specs.Families.{items_of, lists_moved_at}
use Rattle.shr_model.specs.Items.{items_from}
use Rattle.shr_model.specs.Pool.{phase_of}
use Rattle.shr_audit_case.specs.Tags.{tag_of}
use Rattle.shr_laws.specs.Parts.{journal_of, journals_of, parents_of}
use Rattle.shr_audit_case.proofs.Eachs.{decides_iff}
use Rattle.shr_audit_case.proofs.Firsts.{found_or_none}

pub clash : (b : Bool) → b ≡ true → b ≡ false → ⊥
clash b e f = cc

module _ (parents : List ℕ) (r : Report) (place : Place) where
  pub at_root : place.group ≡ 0 → Decides true (IsSetIfLive parents r place)
  at_root root = (λ t below some live. absurd (below root), λ h. refl)

  no_tags : (objects : List Object) → length (map tag_of objects) ≡ 0 → objects ≡ []
  no_tags [] e = refl
  no_tags (o ∷ os) e = absurd (omega arith)

  pub nothing_left : (length (map tag_of (items_of parents (journals_of r) place)) ≡ 0) → Decides true (IsSetIfLive parents r place)
  nothing_left none = (λ t below some live. absurd (some (no_tags (items_of parents (journals_of r) place) none)), λ h. refl)

  pub not_live : (phase : ℕ) → phase ≡ phase_of place.id r.pool.items % 3 → phase ≢ 1 → Decides true (IsSetIfLive parents r place)
  not_live phase is ne = (λ t below some live. absurd (ne (is ∙ eqb-true (phase_of place.id r.pool.items % 3) 1 live)), λ h. refl)

  pub live : place.group ≢ 0 → (length (map tag_of (items_of parents (journals_of r) place)) ≢ 0) → (phase : ℕ) → phase ≡ phase_of place.id r.pool.items % 3 → phase ≡ 1 → (b : Bool) → b ≡ is_set_at r place → Decides b (IsSetIfLive parents r place)
  live below some phase is one b set = (
    λ t g i l. sym set ∙ t,
    λ h. set ∙ h below (λ none. some (ap (λ (os : List Object). length (map tag_of os)) none)) (eq-eqb (phase_of place.id r.pool.items % 3) 1 (sym is ∙ one)),
  )

-- a place that isn't printed has nothing left
unprinted : (parents : List ℕ) (r : Report) (place : Place) → journals_of r place ≡ [] → items_of parents (journals_of r) place ≡ []
unfolding items_from
unprinted parents r place none = ap (λ (es : List Entry). items_from (lists_moved_at parents (journals_of r) place) [] es) none

pub bits_of : (s : Script) (r : Report) (parents : List ℕ) → parents ≡ parents_of s → (b : Bool) → Decides b ((k : ℕ) (end : PlaceEnd) → slice_get r.places.items k ≡ Some end → IsSetIfLive parents r end.place) → Decides b (AreBitsLawful s r)
bits_of s r parents same b d = decides_iff b ((k : ℕ) (end : PlaceEnd) → slice_get r.places.items k ≡ Some end → IsSetIfLive parents r end.place) (AreBitsLawful s r) to from d
  where
    each : ((k : ℕ) (end : PlaceEnd) → slice_get r.places.items k ≡ Some end → IsSetIfLive parents r end.place) → (place : Place) → IsSetIfLive parents r place
    each all place = elim (found_or_none r.places.items place) [
      | inl away ↦ λ below some live. absurd (some (unprinted parents r place (ap journal_of away)))
      | inr at ↦ subst (IsSetIfLive parents r) at.1.1.same (all at.0 at.1.0 at.1.1.at)
    ]

    to : ((k : ℕ) (end : PlaceEnd) → slice_get r.places.items k ≡ Some end → IsSetIfLive parents r end.place) → AreBitsLawful s r
    to all = record { set = subst (λ (ps : List ℕ). (place : Place) → IsSetIfLive ps r place) same (each all) }

    from : AreBitsLawful s r → (k : ℕ) (end : PlaceEnd) → slice_get r.places.items k ≡ Some end → IsSetIfLive parents r end.place
    from law k end at = subst (λ (ps : List ℕ). IsSetIfLive ps r end.place) (sym same) (law.set end.place)
