-- SPDX-License-Identifier: GPL-2.0-only
-- What an unregistering drained, and what was uncharged where it drained nothing.
use Rattle.shr_worker.proofs.Common.{◌≡◌, ℕ, ◌≤◌, List, [], refl, sym, subst, arith, None, Object, Serial, View, Shape, groups_in, WorkerState}
use Rattle.std.proofs.lemmas.List.{append-nil}
use Rattle.std.proofs.lemmas.List.Elements.{All-nil}
use Rattle.shr_base.specs.declared.replies.HalfWhy.{HalfWhy}
use Rattle.shr_charge.specs.Charging.{IsDown}
use Rattle.shr_charge.specs.Seat.{spent_by}
use Rattle.shr_walk.proofs.Doing.{called_none}
use Rattle.shr_walk.proofs.Scanned.{not_spent}
use Rattle.shr_registry.specs.Ending.{Frees, Halves}
use Rattle.shr_worker.specs.Uncharging.{UnchargesEach}
use Rattle.shr_worker.proofs.Drained.{AreDrained, drained_from}

-- where no object was drained
pub none_uncharged : (parents : List ℕ) (by : Serial) (s : WorkerState) (w : View) → spent_by s.uses ≡ None → UnchargesEach parents by [] s (record s { core = w })
none_uncharged parents by s w may = let few = not_spent s.uses may in record {
  ops = [];
  downs = record { at = refl; each = All-nil (IsDown by) };
  uses = called_none s.uses;
  noted = sym (append-nil s.noted);
  rise = λ r. r;
  few = omega (arith, few);
  rest = refl;
}

-- what was uncharged after the core's part alone had changed
pub uncharged_after : (parents : List ℕ) (by : Serial) (objects : List Object) (s : WorkerState) (w : View) (t : WorkerState) → UnchargesEach parents by objects (record s { core = w }) t → UnchargesEach parents by objects s t
uncharged_after parents by objects s w t h = record { ops = h.ops; downs = h.downs; uses = h.uses; noted = h.noted; rise = h.rise; few = h.few; rest = h.rest }

module _ (shape : Shape) (items : shape.most_items ≤ 20000) (groups : groups_in shape ≤ 256) (four : shape.nodes ≤ 4) (v : View) (decl : ℕ) (by : Serial) (id entry from to : ℕ) (objects : List Object) (w : View) where
  -- the objects of an id that was freed
  pub freed_drained : Frees shape v decl by id entry from to objects w → AreDrained (groups_in shape) objects
  freed_drained h = let n = h.nodes in subst (AreDrained (groups_in shape)) (sym h.drained) (drained_from shape v id h.draws h.each items groups four (omega (arith, n)))

  -- the objects of an id that stays dying
  pub half_drained : (why : HalfWhy) → Halves shape v decl by id entry from to objects why w → AreDrained (groups_in shape) objects
  half_drained why h = let n = h.stops.last in let near = h.stops.near in subst (AreDrained (groups_in shape)) (sym h.drained) (drained_from shape v id h.draws h.each items groups four (omega (arith, n, near)))
