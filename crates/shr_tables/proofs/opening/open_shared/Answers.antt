-- SPDX-License-Identifier: GPL-2.0-only
use Rattle.shr_tables.proofs.Common.{ap, sym, length, subst, view_of, first_view, AreEntered, opener}
use Rattle.shr_core.specs.declared.table.Core.{Core}
use Rattle.shr_core.specs.Gained.{IsIdle}
use Rattle.shr_core.specs.Seating.{IsFirstOf}
use Rattle.shr_seats.specs.Standing.{Standing}
use Rattle.shr_tables.proofs.Entering.{entered_unowed, stands}
use Rattle.shr_tables.proofs.opening.open_shared.Goals as goal

-- no place is owed once the caches are registered
pub returns-clause-ready : goal.returns-clause-ready
returns-clause-ready g c = let opened = c.in_ok-shared.ensures.opened in let caches = c.in_ok-shared.shared.script.caches.items in let all = c.in_ok-enter_all.ensures in
    let same = c.leave-core.ensures.view in let entered = subst (AreEntered caches (length caches) opener) (sym same) all.entered in record {
      first = record {
        core = subst (λ (x : Core). IsFirstOf x c.leave-core.result) all.table c.leave-core.ensures.first;
        charge = opened.first.charge;
        deferred = opened.first.deferred;
      };
      idle = subst IsIdle (sym same) all.idle;
      owed = entered_unowed caches (length caches) (first_view c.leave-core.result) entered;
      entered = entered;
      uses = opened.uses;
      tree = opened.tree;
      charged = opened.charged;
      deferred = opened.deferred;
    }

-- the seat is the first one still
pub leave-core-requires-clause-first : goal.leave-core-requires-clause-first
leave-core-requires-clause-first g c = let caches = c.in_ok-shared.shared.script.caches.items in
    ap (λ (z : Standing). z.first) (stands caches (length caches) (view_of c.enter_all.new.seat) c.in_ok-enter_all.ensures.entered)
