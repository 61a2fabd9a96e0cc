-- SPDX-License-Identifier: GPL-2.0-only
use Rattle.shr_registry.proofs.Common.{ap, ◌∙◌, Seated, view_of}
use Rattle.shr_registry.proofs.draining.settle.Goals as goal
use Rattle.shr_registry.proofs.Searches.{more_loaded}

pub returns-then-word_of-eq0-clause-loads : goal.returns-then-word_of-eq0-clause-loads
returns-then-word_of-eq0-clause-loads g c = more_loaded (view_of c.args.seat.now) (view_of c.loop.seat) (view_of c.word_of.new.self) c.args.id c.word_of.result c.loop.invariant.loads (ap view_of c.word_of.ensures.loaded)

pub loop-preserved : goal.loop-preserved
loop-preserved g c = record { can_next = tt; finished = tt; table = ap (λ (s : Seated). s.core) c.word_of.ensures.loaded ∙ c.loop.invariant.table; loads = more_loaded (view_of c.args.seat.now) (view_of c.loop.seat) (view_of c.word_of.new.self) c.args.id c.word_of.result c.loop.invariant.loads (ap view_of c.word_of.ensures.loaded) }
