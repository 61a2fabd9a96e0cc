-- SPDX-License-Identifier: GPL-2.0-only
-- The bag of a report, by the serials that were added, were freed and are left.
use Rattle.shr_audit_lists.proofs.BagCommon.{◌≡◌, ℕ, ◌+◌, ◌-◌, List, [], ◌∷◌, ◌++◌, length, map, sym, ap, ◌∙◌, arith, flat_map, Place, Serial, Entry, PlaceEnd, serials_of, journals_of, freed_serial, left_serial, Bool, true, false, refl, subst, length-append, IsPermutation, added_in, freed_in, listed_in, AreDistinct, IsBag, parents_of, places_of, IsGone}
use Rattle.std.specs.Bool.{Decides}
use Rattle.std.proofs.lemmas.List.{map-append}
use Rattle.std.proofs.lemmas.List.Folds.{flat_map-map}
use Rattle.shr_base.specs.declared.objects.Object.{Object}
use Rattle.shr_base.specs.declared.scripts.Script.{Script}
use Rattle.shr_model.specs.Items.{first_moved, later_moved, step, freed_by, freed_from}
use Rattle.shr_audit_case.specs.Journals.{freed_tags}
use Rattle.shr_audit_case.specs.Tags.{tag_of, freed_tag}
use Rattle.shr_laws.specs.declared.report.Report.{Report}
use Rattle.shr_laws.specs.Lawful.{IsBagLawful}
use Rattle.shr_audit_lists.specs.declared.gone.Gone.{Gone}

clash : (b : Bool) → b ≡ true → b ≡ false → ⊥
clash b e f = cc

-- ---- serials of tags

tag_serials : (n : ℕ) (objects : List Object) → map freed_serial (map (freed_tag n) objects) ≡ serials_of objects
tag_serials n [] = refl
tag_serials n (o ∷ os) = ap (λ (xs : List Serial). o.serial ∷ xs) (tag_serials n os)

pub left_serials : (objects : List Object) → map left_serial (map tag_of objects) ≡ serials_of objects
left_serials [] = refl
left_serials (o ∷ os) = ap (λ (xs : List Serial). o.serial ∷ xs) (left_serials os)

pub freed_serials : (n : ℕ) (moved : List (List Object)) (items : List Object) (es : List Entry) → map freed_serial (freed_tags n moved items es) ≡ serials_of (freed_from moved items es)
unfolding freed_tags freed_from
freed_serials n moved items [] = refl
freed_serials n moved items (e ∷ es) =
    let more = freed_serials (n + 1) (later_moved e moved) (step (first_moved moved) items e) es in
    map-append freed_serial (map (freed_tag n) (freed_by items e)) (freed_tags (n + 1) (later_moved e moved) (step (first_moved moved) items e) es)
    ∙ (ap (λ (xs : List Serial). xs ++ map freed_serial (freed_tags (n + 1) (later_moved e moved) (step (first_moved moved) items e) es)) (tag_serials n (freed_by items e))
    ∙ (ap (λ (xs : List Serial). serials_of (freed_by items e) ++ xs) more ∙ sym (map-append (λ (o : Object). o.serial) (freed_by items e) (freed_from (later_moved e moved) (step (first_moved moved) items e) es))))

-- what is gathered place by place
pub by_places : (f : Place → List Serial) (ends : List PlaceEnd) → flat_map (λ (end : PlaceEnd). f end.place) ends ≡ flat_map f (map (λ (end : PlaceEnd). end.place) ends)
by_places f ends = sym (flat_map-map f (λ (end : PlaceEnd). end.place) ends)

-- ---- the law

pub listed_within : (parents : List ℕ) (r : Report) (g : Gone) → IsGone parents r g → length g.serials.items ≡ g.freed + length (listed_in (places_of r) parents (journals_of r))
listed_within parents r g h = let both = length-append (freed_in (places_of r) parents (journals_of r)) (listed_in (places_of r) parents (journals_of r)) in let all = ap length h.serials in let f = h.freed in omega arith

module _ (s : Script) (r : Report) (parents : List ℕ) (same : parents ≡ parents_of s) (added : List Serial) (all : added ≡ added_in (places_of r) (journals_of r)) (g : Gone) (h : IsGone parents r g)
    (many : ℕ) (count : many ≡ length added) (listed : ℕ) (rest : listed ≡ length g.serials.items - g.freed) where
  gone : IsGone (parents_of s) r g
  gone = subst (λ (ps : List ℕ). IsGone ps r g) same h

  abbrev Totals : Type 0
  Totals = (r.added ≡ many) × (r.freed ≡ g.freed) × (r.listed ≡ listed)

  listed_is : listed ≡ length (listed_in (places_of r) (parents_of s) (journals_of r))
  listed_is = let within = listed_within (parents_of s) r g gone in omega arith

  pub totals_wrong : (b : Bool) → b ≡ false → Decides b Totals → Decides false (IsBagLawful s r)
  totals_wrong b f d = (λ t. absurd cc, λ law. absurd (clash b (d.1 (law.added ∙ (sym (ap length all) ∙ sym count), law.freed ∙ sym gone.freed, law.listed ∙ sym listed_is)) f))

  pub bag_law : (b : Bool) → b ≡ true → Decides b Totals → (x : Bool) → Decides x (AreDistinct added × IsPermutation added g.serials.items) → Decides x (IsBagLawful s r)
  bag_law b t d x e = (
    λ yes. let totals = d.0 t in let bag = e.0 yes in record {
      bag = record {
        distinct = subst AreDistinct all bag.0;
        parts = subst (λ (xs : List Serial). IsPermutation xs (freed_in (places_of r) (parents_of s) (journals_of r) ++ listed_in (places_of r) (parents_of s) (journals_of r))) all (subst (IsPermutation added) gone.serials bag.1);
      };
      added = totals.0 ∙ (count ∙ ap length all);
      freed = totals.1 ∙ gone.freed;
      listed = totals.2 ∙ listed_is;
    },
    λ law. e.1 (
      subst AreDistinct (sym all) law.bag.distinct,
      subst (IsPermutation added) (sym gone.serials) (subst (λ (xs : List Serial). IsPermutation xs (freed_in (places_of r) (parents_of s) (journals_of r) ++ listed_in (places_of r) (parents_of s) (journals_of r))) (sym all) law.bag.parts),
    ),
  )
