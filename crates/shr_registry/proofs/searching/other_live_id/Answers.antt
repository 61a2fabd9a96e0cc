-- SPDX-License-Identifier: GPL-2.0-only
use Rattle.shr_registry.proofs.Common.{◌≡◌, ℕ, List, false, refl, sym, ap, subst, ◌∙◌, arith, ◌&&◌, ◌==◌, PoolEntry, is_live, decl_of, Core, Shape, view_of, shape_of, pool_of}
use Rattle.shr_registry.proofs.Searches.{loads_none, loads_then, none_next}
use Rattle.shr_registry.proofs.Meetings.{journal_still}
use Rattle.shr_registry.proofs.searching.other_live_id.Goals.{else-id-known-via-then-id-known+else-is_live_as, else-id-known-via-else-id-known}
use Rattle.shr_registry.proofs.searching.other_live_id.Goals as goal
use Rattle.shr_model.proofs.PoolLaws.{live_none}

pub loop-id-init : goal.loop-id-init
loop-id-init c = record { table = refl; loads = loads_none (view_of c.args.seat.now); none = live_none c.args.decl (pool_of (shape_of c.args.seat.now.core) (view_of c.args.seat.now)) }

pub loop-id-preserved : goal.loop-id-preserved
loop-id-preserved c =
    let shape : Shape = shape_of c.args.seat.now.core in
    let v = view_of c.args.seat.now in
    let u = view_of c.loop-id.seat in
    let a = c.loop-id.invariant.loads in
    let pool : List PoolEntry = pool_of shape v in
    let id = c.loop-id.id in
    let decl = c.args.decl in
    elim c.else-id-known.branch [
      | else-id-known-via-then-id-known+else-is_live_as w ↦ record {
        table = rw w.seat-is (w.is_live_as.ensures.table ∙ c.loop-id.invariant.table);
        loads = rw w.seat-is (loads_then v u (view_of w.is_live_as.new.seat) a w.is_live_as.ensures.loads);
        none = none_next decl id pool (ap (λ (p : List PoolEntry). is_live id p && (decl_of id p == decl)) (sym (journal_still shape v u a)) ∙ (sym (w.is_live_as.ensures.live ∙ ap (λ (x : Core). is_live id (pool_of (shape_of x) u) && (decl_of id (pool_of (shape_of x) u) == decl)) c.loop-id.invariant.table) ∙ w.if-is_live_as.false)) c.loop-id.invariant.none;
      }
      | else-id-known-via-else-id-known w ↦ record {
        table = rw w.seat-is c.loop-id.invariant.table;
        loads = rw w.seat-is a;
        none = none_next decl id pool (subst (λ (i : ℕ). (is_live i pool && (decl_of i pool == decl)) ≡ false) (sym w.if-id-known.false) (c.requires.known (let e = w.if-id-known.false in let near = c.loop-id-test.true in omega (arith, e, near, ap (λ (s : Shape). s.ids) (c.shape.ensures ∙ ap shape_of c.core.ensures))))) c.loop-id.invariant.none;
      }
    ]
