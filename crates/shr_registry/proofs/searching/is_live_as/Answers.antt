-- SPDX-License-Identifier: GPL-2.0-only
use Rattle.shr_registry.proofs.Common.{◌∙◌, ap, view_of, shape_of, pool_of}
use Rattle.shr_registry.proofs.Searches.{loads_none, live_is, shown_phase, shown_decl, more_loaded}
use Rattle.shr_registry.proofs.searching.is_live_as.Goals as goal

pub returns-clause-loads : goal.returns-clause-loads
returns-clause-loads c = let v = view_of c.args.seat.now in more_loaded v v (view_of c.word_of-word.new.self) c.args.id c.word_of-word.result (loads_none v) (ap view_of c.word_of-word.ensures.loaded)

pub returns-clause-live : goal.returns-clause-live
returns-clause-live c =
    let key = c.args.seat.now.core.setting in
    let v = view_of c.args.seat.now in
    let w = c.word_of-word in
    c.lives_as.ensures ∙ live_is c.args.decl c.args.id (pool_of (shape_of c.args.seat.now.core) v) w.result
    (shown_phase key v v c.args.id w.result (loads_none v) c.requires.pool w.ensures.of_pool)
    (shown_decl key v v c.args.id w.result (loads_none v) c.requires.pool w.ensures.of_pool)
