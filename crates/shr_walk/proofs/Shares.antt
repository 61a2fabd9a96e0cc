-- SPDX-License-Identifier: GPL-2.0-only
-- What follows for tables that belong together.
use Rattle.shr_walk.proofs.Common.{◌≡◌, ℕ, ◌≤◌, List, length, sym, ap, subst, ◌∙◌, arith, All, Place, CacheDecl, content_of, within_of_valid, shape_of, IsPlaceOfShape, hierarchy_of, Sizes, IsShared, IsReady, CacheSeat, Seats, Shared, shared_parents, All-from_recursion}
use Rattle.shr_charge.specs.declared.table.Charge.{Charge}
use Rattle.shr_seats.specs.Rows.{IsPlaceOf as IsInside}

-- the parents of the charge table are those of the core
pub same_parents : (s : Shared) → IsShared s → s.charge.shape.parents.items ≡ (shape_of s.core).parents.items
same_parents s h = h.charged ∙ sym h.parents

-- and those of the charge table of seats at these tables
pub parents_at : (x : Shared) (place : Place) (s : CacheSeat) → IsShared x → IsReady x place s → s.charge.charge.shape.parents.items ≡ shared_parents x
parents_at x place s h r = ap (λ (k : Charge). k.shape.parents.items) r.charge ∙ same_parents x h

-- and so are the groups that are later
pub same_hierarchy : (s : Shared) → IsShared s → hierarchy_of s.charge.shape ≡ hierarchy_of (shape_of s.core)
same_hierarchy s h = let parents = same_parents s h in let later = h.charged_later ∙ sym h.later in λ i. record { parents = parents i; later = later i }

-- and so it is by seats at these tables
pub hierarchy_at : (x : Shared) → IsShared x → (s : Seats) → s.cache.charge.charge ≡ x.charge → hierarchy_of s.cache.charge.charge.shape ≡ hierarchy_of (shape_of x.core)
hierarchy_at x h s at = ap (λ (k : Charge). hierarchy_of k.shape) at ∙ same_hierarchy x h

-- a place of the core has its deferred word
pub place_inside : (s : Shared) (p : Place) → IsShared s → IsPlaceOfShape (shape_of s.core) p → IsInside s.deferred.sizes p
place_inside s p h place = let groups = ap (λ (l : List ℕ). length l) h.parents in let ids = h.ids in let nodes = h.nodes in let a = place.id in let b = place.node in let c = place.group in
    subst (λ (z : Sizes). IsInside z p) (sym h.sizes) record { id = omega (arith, a, ids); node = omega (arith, b, nodes); group = omega (arith, c, groups) }

-- no cache has a batch above 20,000
pub small_batches : (s : Shared) → IsShared s → All (λ (d : CacheDecl). d.batch ≤ 20000) s.script.caches.items
small_batches s h = All-from_recursion (λ (d : CacheDecl). d.batch ≤ 20000) s.script.caches.items (within_of_valid (content_of s.script) h.script).batch
