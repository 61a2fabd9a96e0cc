-- SPDX-License-Identifier: GPL-2.0-only
use Rattle.shr_audit_walks.proofs.VersionsCommon.{map, sym, subst, counts_of, Notes, if_here, IfOk}
use Rattle.shr_base.specs.declared.walks.Outcome.{Outcome}
use Rattle.shr_audit_walks.proofs.version_walks.note_outcome.Goals as goal

pub returns-in-Skip : goal.returns-in-Skip
returns-in-Skip c = subst (λ (o : Outcome). IfOk c.note.result (λ b. Notes c.args.versions.now c.note.new.versions b (if_here c.args.place (map (λ x. x.version) (counts_of o))))) (sym c.in-Skip.is) c.note.ensures

pub returns-in-Ran : goal.returns-in-Ran
returns-in-Ran c = subst (λ (o : Outcome). IfOk c.note-in-Ran.result (λ b. Notes c.args.versions.now c.note-in-Ran.new.versions b (if_here c.args.place (map (λ x. x.version) (counts_of o))))) (sym c.in-Ran.is) c.note-in-Ran.ensures

pub returns-in-Empty : goal.returns-in-Empty
returns-in-Empty c = subst (λ (o : Outcome). IfOk c.note-in-Empty.result (λ b. Notes c.args.versions.now c.note-in-Empty.new.versions b (if_here c.args.place (map (λ x. x.version) (counts_of o))))) (sym c.in-Empty.is) c.note-in-Empty.ensures

pub returns-in-Cleared : goal.returns-in-Cleared
returns-in-Cleared c = subst (λ (o : Outcome). IfOk c.note_two.result (λ b. Notes c.args.versions.now c.note_two.new.versions b (if_here c.args.place (map (λ x. x.version) (counts_of o))))) (sym c.in-Cleared.is) c.note_two.ensures

pub returns-in-RestoredSkip : goal.returns-in-RestoredSkip
returns-in-RestoredSkip c = subst (λ (o : Outcome). IfOk c.note_two-in-RestoredSkip.result (λ b. Notes c.args.versions.now c.note_two-in-RestoredSkip.new.versions b (if_here c.args.place (map (λ x. x.version) (counts_of o))))) (sym c.in-RestoredSkip.is) c.note_two-in-RestoredSkip.ensures

pub returns-in-RestoredRan : goal.returns-in-RestoredRan
returns-in-RestoredRan c = subst (λ (o : Outcome). IfOk c.note_two-in-RestoredRan.result (λ b. Notes c.args.versions.now c.note_two-in-RestoredRan.new.versions b (if_here c.args.place (map (λ x. x.version) (counts_of o))))) (sym c.in-RestoredRan.is) c.note_two-in-RestoredRan.ensures
