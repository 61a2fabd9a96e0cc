-- SPDX-License-Identifier: GPL-2.0-only
use Rattle.shr_core.proofs.Common.{refl, ap, ◌∙◌, with_phase}
use Rattle.shr_core.specs.Moves.{Token}
use Rattle.shr_core.proofs.Calls.{content_changed}
use Rattle.shr_core.proofs.seat.Seat.phase.Goals as goal

pub invariant_of-self : goal.invariant_of-self
invariant_of-self c = let seat = c.self.inside in let core = seat.core.now in
    content_changed core seat _ _ _ _ c.self.invariant (ap (λ (t : Token). t.table_id) (c.raise_phase.ensures.raised) ∙ ap (λ (t : Token). t.table_id) c.peek.ensures.loaded) refl refl (ap (λ (t : Token). t.me) c.raise_phase.ensures.raised ∙ ap (λ (t : Token). (with_phase core.setting.shape t.me.0 c.args.id c.args.decl c.raise_phase.result, t.me.1)) c.peek.ensures.loaded) refl refl refl refl refl refl refl
