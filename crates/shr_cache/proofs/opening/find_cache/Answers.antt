-- SPDX-License-Identifier: GPL-2.0-only
use Rattle.std.specs.Prelude.{◌<◌}
use Rattle.std.proofs.Common.{◌∙◌, sym, subst, refl}
use Rattle.shr_core.proofs.Owing.{still_none}
use Rattle.shr_core.specs.declared.table.Core.{Core}
use Rattle.shr_core.specs.Seats.{view_of, shape_of}
use Rattle.shr_registry.specs.Answers.{FindGives}
use Rattle.shr_registry.specs.declared.answers.FindAnswer.TheVariants as find
use Rattle.shr_cache.proofs.opening.find_cache.Goals as goal

pub find-requires-clause-decl : goal.find-requires-clause-decl
find-requires-clause-decl g c = subst (λ (k : Core). c.args.decl < (shape_of k).decls) (sym c.requires.rested.core) c.requires.decl

-- no bit comes to be owed
pub returns-in-Held-clause-after : goal.returns-in-Held-clause-after
returns-in-Held-clause-after g c = let found = c.in-Held.ensures.answer in record {
  core = c.in-Held.ensures.table ∙ c.requires.rested.core;
  near = subst (λ (k : Core). c.in-Held.id < (shape_of k).ids) c.requires.rested.core found.live.near;
  rooms = c.in-Held.ensures.rooms;
  held = found.holds.held;
  owner = found.holds.owner;
  owed = still_none (view_of c.args.seats.now.cache.core) (view_of c.find.new.seat) c.requires.rested.owed found.gains.owed;
  charge = c.requires.rested.charge;
  deferred = c.requires.rested.deferred;
}

pub returns-in-Held-clause-found : goal.returns-in-Held-clause-found
returns-in-Held-clause-found g c = let v = view_of c.args.seats.now.cache.core in let w = view_of c.find.new.seat in record {
  answers = subst (λ (k : Core). FindGives (shape_of k) v c.args.decl w.turns.known 1 (find.Held c.in-Held.id c.in-Held.number c.in-Held.entry) w) c.requires.rested.core c.in-Held.ensures.answer;
  dated = c.in-Held.ensures.dated;
  rest = refl;
}

pub returns-in-NoCache-clause-after : goal.returns-in-NoCache-clause-after
returns-in-NoCache-clause-after g c = let missed = c.in-NoCache.ensures.answer in record {
  core = c.in-NoCache.ensures.table ∙ c.requires.rested.core;
  idle = record { rooms = c.in-NoCache.ensures.rooms; held = missed.free.held; owner = missed.free.owner };
  owed = still_none (view_of c.args.seats.now.cache.core) (view_of c.find.new.seat) c.requires.rested.owed missed.gains.owed;
  charge = c.requires.rested.charge;
  deferred = c.requires.rested.deferred;
}

pub returns-in-NoCache-clause-found : goal.returns-in-NoCache-clause-found
returns-in-NoCache-clause-found g c = let v = view_of c.args.seats.now.cache.core in let w = view_of c.find.new.seat in record {
  answers = subst (λ (k : Core). FindGives (shape_of k) v c.args.decl w.turns.known 1 (find.NoCache c.in-NoCache.entry) w) c.requires.rested.core c.in-NoCache.ensures.answer;
  dated = c.in-NoCache.ensures.dated;
  rest = refl;
}

pub returns-in-Worn-clause-after : goal.returns-in-Worn-clause-after
returns-in-Worn-clause-after g c = let worn = c.in-Worn.ensures.answer in record {
  core = c.in-Worn.ensures.table ∙ c.requires.rested.core;
  idle = record { rooms = c.in-Worn.ensures.rooms; held = worn.free.held; owner = worn.free.owner };
  owed = still_none (view_of c.args.seats.now.cache.core) (view_of c.find.new.seat) c.requires.rested.owed worn.gains.owed;
  charge = c.requires.rested.charge;
  deferred = c.requires.rested.deferred;
}

pub returns-in-Worn-clause-found : goal.returns-in-Worn-clause-found
returns-in-Worn-clause-found g c = let v = view_of c.args.seats.now.cache.core in let w = view_of c.find.new.seat in record {
  answers = subst (λ (k : Core). FindGives (shape_of k) v c.args.decl w.turns.known 1 (find.Worn c.in-Worn.spent) w) c.requires.rested.core c.in-Worn.ensures.answer;
  dated = c.in-Worn.ensures.dated;
  rest = refl;
}
