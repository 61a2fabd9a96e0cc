-- SPDX-License-Identifier: GPL-2.0-only
use Rattle.shr_registry.proofs.Common.{ap, subst, Core, Seated, Raises, view_of}
use Rattle.shr_registry.proofs.Retires.{some_spare, idle_spare, freed_now}
use Rattle.shr_registry.proofs.retiring.free.Goals as goal

pub push-requires : goal.push-requires
push-requires c = some_spare c.args.seat.now.core.setting (view_of c.args.seat.now) (view_of c.word_of-word.new.self) c.args.entries.now.items c.args.id c.word_of-word.result c.requires.pool (ap view_of c.word_of-word.ensures.loaded) c.word_of-word.ensures.of_pool c.requires.owns c.requires.id c.args.entries.now.spare c.requires.spare

pub returns-clause-spare : goal.returns-clause-spare
returns-clause-spare c = idle_spare c.args.seat.now.core.setting (view_of c.args.seat.now) (view_of c.word_of-word.new.self) c.args.entries.now.items c.args.id c.word_of-word.result c.requires.pool (ap view_of c.word_of-word.ensures.loaded) c.word_of-word.ensures.of_pool c.requires.owns c.requires.id c.args.entries.now.spare c.push.new.self.spare c.push.new.self.items c.push.ensures.items c.requires.spare c.push.ensures.spare

pub returns-clause-rests : goal.returns-clause-rests
returns-clause-rests c = freed_now c.args.seat.now.core.setting (view_of c.args.seat.now) (view_of c.word_of-word.new.self) c.args.entries.now.items c.args.id c.word_of-word.result c.requires.pool (ap view_of c.word_of-word.ensures.loaded) c.word_of-word.ensures.of_pool c.requires.owns c.requires.id (view_of c.phase.new.self) c.phase.result (subst (λ (x : Core). Raises x.setting (view_of c.word_of-word.new.self) c.args.id c.word_of-word.result.decl c.phase.result (view_of c.phase.new.self)) (ap (λ (s : Seated). s.core) c.word_of-word.ensures.loaded) c.phase.ensures.raised)
