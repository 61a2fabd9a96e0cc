-- SPDX-License-Identifier: GPL-2.0-only
-- What the workers share belongs together.
use Rattle.std.specs.Prelude.{◌≡◌, ℕ, ◌^◌, ◌<◌, ◌≤◌, false, true, List, [], ◌∷◌, map, length, None}
use Rattle.shr_base.specs.KeptLists.{kept}
use Rattle.shr_base.specs.declared.scripts.GroupDecl.{GroupDecl}
use Rattle.shr_base.specs.declared.scripts.Script.{Script}
use Rattle.shr_model.specs.Trees.{depth_of}
use Rattle.shr_model.specs.Paths.{root_path}
use Rattle.shr_script.specs.Content.{content_of, IsValid}
use Rattle.shr_tree.specs.Tree.{Groups}
use Rattle.shr_seats.specs.declared.shape.Shape.{Shape}
use Rattle.shr_core.specs.Seats.{shape_of, view_of, first_view}
use Rattle.shr_core.specs.Seating.{IsFirstOf}
use Rattle.shr_core.specs.declared.table.Core.{Core}
use Rattle.shr_core.specs.Rule.{opener}
use Rattle.shr_seats.specs.Standing.{at_first}
use Rattle.shr_charge.specs.Seat.{IsFirstChargeOf, first_uses, first_tree, first_standing, uses_of, tree_of, standing_of}
use Rattle.shr_charge.specs.Views.{own_uses, no_tree}
use Rattle.shr_charge.specs.declared.table.Charge.{Charge}
use Rattle.shr_charge.specs.Seat as charges
use Rattle.shr_deferred.specs.Rule as rule
use Rattle.shr_deferred.specs.Seat as deferreds
use Rattle.shr_deferred.specs.Seat.{IsFirstDeferredOf, first_deferred, deferred_standing}
use Rattle.shr_deferred.specs.declared.table.Deferred.{Deferred}
use Rattle.shr_walk.specs.declared.seats.FirstSeats.{FirstSeats}
use Rattle.shr_walk.specs.declared.seats.Seats.{Seats}
use Rattle.shr_walk.specs.declared.seats.Shared.{Shared}

-- the root and these groups, each with its declared path, parent and limit, and whether it is later
abbrev pub groups_of : List GroupDecl → Groups
groups_of gs = record {
  paths = root_path ∷ map (λ (g : GroupDecl). g.path) gs;
  parents = 0 ∷ map (λ (g : GroupDecl). g.parent) gs;
  later = false ∷ map (λ (g : GroupDecl). g.later) gs;
  limits = None ∷ map (λ (g : GroupDecl). g.limit) gs;
}

-- the tables' shape has the groups of this tree and the sizes of this script; a list takes at most 20,000 objects and
-- 2^31 entries beside its Closed
pub record IsShapeOf (script : Script) (tree : Groups) (shape : Shape) : Type 0 where
  pub parents : shape.parents.items ≡ tree.parents
  pub later : shape.later.items ≡ tree.later
  pub limits : shape.limits.items ≡ tree.limits
  pub nodes : shape.nodes ≡ script.nodes
  pub ids : shape.ids ≡ script.ids
  pub decls : shape.decls ≡ length script.caches.items
  pub most_items : shape.most_items ≡ 20000
  pub most_entries : shape.most_entries ≡ 2 ^ 31

-- no group lies deeper, and one lies as deep
pub record IsDeepest (parents : List ℕ) (most : ℕ) : Type 0 where
  pub deep : (g : ℕ) → g < length parents → depth_of parents g ≤ most
  pub group : ℕ
  pub there : group < length parents
  pub met : depth_of parents group ≡ most

-- The script keeps its rules, the tree has just its groups, and the three tables were made with
-- that tree and the script's sizes.
pub record IsShared (s : Shared) : Type 0 where
  pub script : IsValid (content_of s.script)
  pub tree : s.tree ≡ groups_of s.script.groups.items
  pub parents : (shape_of s.core).parents.items ≡ s.tree.parents
  pub later : (shape_of s.core).later.items ≡ s.tree.later
  pub nodes : (shape_of s.core).nodes ≡ s.script.nodes
  pub ids : (shape_of s.core).ids ≡ s.script.ids
  pub decls : (shape_of s.core).decls ≡ length s.script.caches.items
  pub most_items : (shape_of s.core).most_items ≤ 20000
  pub charged : s.charge.shape.parents.items ≡ s.tree.parents
  pub charged_later : s.charge.shape.later.items ≡ s.tree.later
  pub limits : s.charge.shape.limits.items ≡ s.tree.limits
  pub deepest : IsDeepest s.tree.parents s.deepest
  pub sizes : s.deferred.sizes ≡ record { ids = s.script.ids; nodes = s.script.nodes; groups = length s.tree.parents }

-- lookups begin with number 0, and a list takes at most 20,000 objects and 2^31 entries beside its Closed
pub record IsFromStart (x : Shared) : Type 0 where
  pub first : x.core.setting.first_lookup ≡ 0
  pub most_items : (shape_of x.core).most_items ≡ 20000
  pub most_entries : (shape_of x.core).most_entries ≡ 2 ^ 31

-- these are the first seats of these tables
pub record AreFirstOf (k : Core) (c : Charge) (d : Deferred) (f : FirstSeats) : Type 0 where
  pub core : IsFirstOf k f.core
  pub charge : IsFirstChargeOf c f.charge
  pub deferred : IsFirstDeferredOf d f.deferred

-- the first seats of new tables: they have done and seen nothing
pub record AreOpened (x : Shared) (f : FirstSeats) : Type 0 where
  pub first : AreFirstOf x.core x.charge x.deferred f
  pub core : first_view f.core ≡ opener
  pub uses : first_uses f.charge ≡ own_uses
  pub tree : first_tree f.charge ≡ no_tree
  pub charged : first_standing f.charge ≡ at_first
  pub deferred : first_deferred f.deferred ≡ rule.first_view

-- the first seats at their tables, with nothing noted
abbrev pub seats_at : Shared → FirstSeats → Seats
seats_at x f = record {
  cache = record {
    core = record { core = x.core; view = first_view f.core };
    charge = charges.first_seated x.charge f.charge;
    uses = kept [];
  };
  deferred = deferreds.first_seated x.deferred f.deferred;
  walks = kept [];
  carries = kept [];
}

-- the first seats of their tables, with no room in hand
pub record MayLeave (s : Seats) : Type 0 where
  pub core : (view_of s.cache.core).standing.first ≡ true
  pub rooms : (view_of s.cache.core).holding.hands ≡ []
  pub charge : (standing_of s.cache.charge).first ≡ true
  pub deferred : (deferred_standing s.deferred).first ≡ true

-- the first seats, as these left their tables
pub record HaveLeft (s : Seats) (f : FirstSeats) : Type 0 where
  pub first : AreFirstOf s.cache.core.core s.cache.charge.charge s.deferred.deferred f
  pub core : first_view f.core ≡ view_of s.cache.core
  pub uses : first_uses f.charge ≡ uses_of s.cache.charge
  pub tree : first_tree f.charge ≡ tree_of s.cache.charge
  pub charged : first_standing f.charge ≡ standing_of s.cache.charge
  pub deferred : first_deferred f.deferred ≡ s.deferred.view
