-- SPDX-License-Identifier: GPL-2.0-only
use Rattle.shr_walk.proofs.Common.{[], ◌∷◌, ◌++◌, ap, subst, ◌∙◌, Acting, Does, state_of, record_of, walk_work}
use Rattle.shr_base.specs.KeptLists.{kept}
use Rattle.shr_base.specs.Walks.{WalkRecord}
use Rattle.shr_walk.proofs.Acted.{does_note}
use Rattle.shr_walk.proofs.worker.Worker.note.Goals as goal

pub returns-clause-noted : goal.returns-clause-noted
returns-clause-noted g c = let s = state_of c.self.inside.seats in let walks = c.push.new.self.items in let walk = record_of c.args.walk.now (kept c.args.found.maps.items) (kept c.args.found.attempts.items) c.args.answer in
    subst (λ (w : Acting). Does w.state (record s { walks = walks }) (walk_work walk)) c.self.view_is (does_note s walks walk (c.push.ensures.items ∙ ap (λ (r : WalkRecord). s.walks ++ r ∷ []) c.new.ensures))
