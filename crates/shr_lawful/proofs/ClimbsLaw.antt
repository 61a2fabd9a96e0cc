-- SPDX-License-Identifier: GPL-2.0-only
-- The lists on which a worker acts for one group go up only, of a run.
use Rattle.shr_lawful.proofs.Common.{◌≡◌, ℕ, ◌<◌, ◌≤◌, ⊎_elim, List, length, sym, ap, subst, ◌∙◌, arith, slice_get, Some, option_and_then, cases_lt, same_Some, Place, Script, group_named, path_of, IsAtOrAbove, place_number, at_group, on_le, IsAtOrAbove-le, IsAtOrAbove-refl, Has_from_Contains, Contains_from_Has, Begins, Known, place_at, back, Report, parents_of, cited_by, journals_of, at, IsMadeAsCited, Step, IsAmong, steps_of, IsRun, on_chain}
use Rattle.shr_laws.specs.Climbs.{ActsOn, AreClimbing}
use Rattle.shr_lawful.proofs.Gathering.{among_begins, grows, made_stands, replies}
use Rattle.shr_lawful.proofs.Listed.{contains_among}
use Rattle.shr_lawful.proofs.OfflinedCause.{closed_last}

module _ (s : Script) (r : Report) (workers : List (List Step)) (run : IsRun s r workers) where
  -- the step that acted on a list
  record Acted (worker k birth : ℕ) (p : Place) : Type 0 where
    step : Step
    step_at : slice_get (steps_of workers worker) k ≡ Some step
    entry : ℕ
    cited : IsMadeAsCited s step (at p entry)
    same : cited.first.birth ≡ birth

  acted : (worker k birth : ℕ) (p : Place) → ActsOn s r worker k birth p → Acted worker k birth p
  acted worker k birth p h =
      let t = replies s r workers run cited_by worker k (at p h.entry) h.cited in
      let is = run.steps.each worker k t.step t.at in
      let c = is.did.entries.cited (at p h.entry) t.reply in
      record { step = t.step; step_at = t.at; entry = h.entry; cited = c; same = same_Some c.first.birth birth (sym c.first.named ∙ (ap (option_and_then group_named) (sym is.command) ∙ h.named)) }

  -- a list that the worker knows to be closed gains no entry of it
  not_closed : (worker k later birth : ℕ) (p q : Place) → k < later → (a : Acted worker k birth p) → Acted worker later birth q → p.id ≡ q.id → p.node ≡ q.node → IsAtOrAbove (parents_of s) q.group birth → p.group < q.group → ⊥
  not_closed worker k later birth p q lt a b ids nodes above lower =
      let closed = a.cited.first.below q.group (subst (IsAtOrAbove (parents_of s) q.group) (sym a.same) above) lower in
      let here : at_group p q.group ≡ q = λ i. record { id = ids i; node = nodes i; group = q.group } in
      let m = b.cited.made in
      let stands = made_stands s r workers run worker later b.step b.step_at b.cited.among.0 m b.cited.among.1 in
      let place : m.place ≡ place_number q = sym (back m.place) ∙ ap place_number b.cited.place in
      let mine : Known = record { place = place_number q; entries = closed.0 } in
      let among : IsAmong mine a.step.after.core.traces.known = subst (λ (z : Place). IsAmong {A = Known} (record { place = place_number z; entries = closed.0 }) a.step.after.core.traces.known) here
      (contains_among a.step.after.core.traces.known (record { place = place_number (at_group p q.group); entries = closed.0 }) closed.1) in
      let later_on = among_begins a.step.after.core.traces.known b.step.before.core.traces.known mine (grows s r workers run worker k later a.step b.step lt a.step_at b.step_at).known among in
      closed_last s r workers run (place_at m.place) closed.0 m.number
      (subst (λ i. Begins closed.0 (journals_of r (place_at i))) (sym place) ((run.steps.shown worker k a.step a.step_at).known among.0 mine among.1)) closed.2 (b.cited.known later_on.0 mine later_on.1 (sym place)) m.entry stands.1.entry

  pub climbs : AreClimbing s r
  climbs worker k later birth p q lt first second ids nodes =
      let a = acted worker k birth p first in
      let b = acted worker later birth q second in
      let high : IsAtOrAbove (parents_of s) p.group birth = subst (IsAtOrAbove (parents_of s) p.group) a.same a.cited.first.above in
      let next : IsAtOrAbove (parents_of s) q.group birth = subst (IsAtOrAbove (parents_of s) q.group) b.same b.cited.first.above in
      let lower : q.group ≤ birth = IsAtOrAbove-le (parents_of s) run.journals.parents q.group birth (there a) next in
      ⊎_elim (λ less. absurd (not_closed worker k later birth p q lt a b ids nodes next less))
      (λ le. ⊎_elim (λ on. Contains_from_Has (path_of (parents_of s) p.group) q.group on)
      (λ on. let up = on_le (parents_of s) run.journals.parents p.group q.group (let far = there a in omega (arith, lower, far)) on in
      subst (IsAtOrAbove (parents_of s) q.group) (let same : q.group ≡ p.group = omega (arith, le, up) in same) (IsAtOrAbove-refl (parents_of s) run.journals.parents q.group (let far = there a in omega (arith, lower, far))))
      (on_chain (parents_of s) run.journals.parents q.group p.group birth (there a) (Has_from_Contains (path_of (parents_of s) birth) q.group next) (Has_from_Contains (path_of (parents_of s) birth) p.group high)))
      (cases_lt p.group q.group) where
        there : Acted worker k birth p → birth < length (parents_of s)
        there c = subst (λ g. g < length (parents_of s)) c.same c.cited.first.there
