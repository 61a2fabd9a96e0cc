-- SPDX-License-Identifier: GPL-2.0-only
use Rattle.shr_core.specs.Seats.{view_of}
use Rattle.shr_tables.proofs.First.{none_live, one_free, next_entered}
use Rattle.shr_tables.proofs.opening.enter.Goals as goal

pub unreachable-requires : goal.unreachable-requires
unreachable-requires g c = none_live c.args.seat.now.core.setting c.args.decl 1 c.in-AlreadyRegistered.entry (view_of c.args.seat.now) (view_of c.register.new.seat) c.requires.entered (c.register.ensures.alone c.requires.first c.requires.whole) c.in-AlreadyRegistered.ensures.answer

pub unreachable-requires-in-NoId : goal.unreachable-requires-in-NoId
unreachable-requires-in-NoId g c = one_free c.args.seat.now.core.setting c.args.decl 1 c.in-NoId.entry (view_of c.args.seat.now) (view_of c.register.new.seat) c.requires.entered (c.register.ensures.alone c.requires.first c.requires.whole) c.requires.room c.in-NoId.ensures.answer

pub returns-in-Registered-clause-entered : goal.returns-in-Registered-clause-entered
returns-in-Registered-clause-entered g c = (next_entered c.args.seat.now.core.setting c.args.decl 1 c.in-Registered.entry (view_of c.args.seat.now) (view_of c.register.new.seat) c.requires.entered (c.register.ensures.alone c.requires.first c.requires.whole) c.in-Registered.id c.in-Registered.ensures.answer).0

pub returns-in-Registered-clause-one_more : goal.returns-in-Registered-clause-one_more
returns-in-Registered-clause-one_more g c = (next_entered c.args.seat.now.core.setting c.args.decl 1 c.in-Registered.entry (view_of c.args.seat.now) (view_of c.register.new.seat) c.requires.entered (c.register.ensures.alone c.requires.first c.requires.whole) c.in-Registered.id c.in-Registered.ensures.answer).1
