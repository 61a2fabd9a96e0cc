-- SPDX-License-Identifier: GPL-2.0-only
use Rattle.shr_audit_walks.proofs.LaterCommon.{sym, subst, Decides, IsOutcomeAbove, IsAboveHighest}
use Rattle.shr_base.specs.declared.walks.Outcome.{Outcome}
use Rattle.shr_audit_walks.proofs.Citing.{both_above, one_above}
use Rattle.shr_audit_walks.proofs.later.is_outcome_above.Goals as goal

pub returns-in-Skip : goal.returns-in-Skip
returns-in-Skip c = subst (λ (o : Outcome). Decides c.is_above_highest.result (IsOutcomeAbove c.args.cited.now c.args.place o)) (sym c.in-Skip.is)
    (one_above c.is_above_highest.result (IsAboveHighest c.args.cited.now c.args.place c.in-Skip.version) c.is_above_highest.ensures)

pub returns-in-Ran : goal.returns-in-Ran
returns-in-Ran c = subst (λ (o : Outcome). Decides c.is_above_highest-in-Ran.result (IsOutcomeAbove c.args.cited.now c.args.place o)) (sym c.in-Ran.is)
    (one_above c.is_above_highest-in-Ran.result (IsAboveHighest c.args.cited.now c.args.place c.in-Ran.pass.version) c.is_above_highest-in-Ran.ensures)

pub returns-in-Empty : goal.returns-in-Empty
returns-in-Empty c = subst (λ (o : Outcome). Decides c.is_above_highest-in-Empty.result (IsOutcomeAbove c.args.cited.now c.args.place o)) (sym c.in-Empty.is)
    (one_above c.is_above_highest-in-Empty.result (IsAboveHighest c.args.cited.now c.args.place c.in-Empty.version) c.is_above_highest-in-Empty.ensures)

pub returns-in-Cleared : goal.returns-in-Cleared
returns-in-Cleared c = subst (λ (o : Outcome). Decides c.are_both_above.result (IsOutcomeAbove c.args.cited.now c.args.place o)) (sym c.in-Cleared.is)
    (both_above c.are_both_above.result (IsAboveHighest c.args.cited.now c.args.place c.in-Cleared.first) (IsAboveHighest c.args.cited.now c.args.place c.in-Cleared.second) c.are_both_above.ensures)

pub returns-in-RestoredSkip : goal.returns-in-RestoredSkip
returns-in-RestoredSkip c = subst (λ (o : Outcome). Decides c.are_both_above-in-RestoredSkip.result (IsOutcomeAbove c.args.cited.now c.args.place o)) (sym c.in-RestoredSkip.is)
    (both_above c.are_both_above-in-RestoredSkip.result (IsAboveHighest c.args.cited.now c.args.place c.in-RestoredSkip.first) (IsAboveHighest c.args.cited.now c.args.place c.in-RestoredSkip.version) c.are_both_above-in-RestoredSkip.ensures)

pub returns-in-RestoredRan : goal.returns-in-RestoredRan
returns-in-RestoredRan c = subst (λ (o : Outcome). Decides c.are_both_above-in-RestoredRan.result (IsOutcomeAbove c.args.cited.now c.args.place o)) (sym c.in-RestoredRan.is)
    (both_above c.are_both_above-in-RestoredRan.result (IsAboveHighest c.args.cited.now c.args.place c.in-RestoredRan.first) (IsAboveHighest c.args.cited.now c.args.place c.in-RestoredRan.pass.version) c.are_both_above-in-RestoredRan.ensures)
