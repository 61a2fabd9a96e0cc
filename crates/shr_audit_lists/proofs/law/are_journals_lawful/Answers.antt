-- SPDX-License-Identifier: GPL-2.0-only
use Rattle.shr_audit_lists.proofs.Common.{◌≡◌, ◌≤◌, ℕ, List, length, sym, ap, subst, ◌∙◌, arith, Place, IsPaired, IsTree, AreJournalsLawful, journals_of, parents_of, AreBegunIfClosed, AreItemsLeft, AreOutcomesSo, ArePlacesOnce, ArePlacesThere, IsPlaceStanding}
use Rattle.shr_audit_lists.proofs.Whole.{refused, groups_there, law_of, stands_from}
use Rattle.shr_audit_lists.proofs.law.are_journals_lawful.Goals as goal

pub are_entries_standing-requires-clause-tree : goal.are_entries_standing-requires-clause-tree
are_entries_standing-requires-clause-tree c = subst IsTree (sym (c.as_slice-parents.ensures.value ∙ c.requires.replayed.parents)) c.requires.tree

pub are_journals_paired-requires-clause-few : goal.are_journals_paired-requires-clause-few
are_journals_paired-requires-clause-few c = let many = ap length (c.as_slice-parents.ensures.value ∙ c.requires.replayed.parents) in let few = c.requires.few in omega arith

pub are_items_left-requires-clause-once : goal.are_items_left-requires-clause-once
are_items_left-requires-clause-once c = c.are_places_once.ensures.0 c.if-not-are_places_once.false

pub are_closed_begun-requires-clause-tree : goal.are_closed_begun-requires-clause-tree
are_closed_begun-requires-clause-tree c = subst IsTree (sym (c.as_slice-parents.ensures.value ∙ c.requires.replayed.parents)) c.requires.tree

pub are_closed_begun-requires-clause-groups : goal.are_closed_begun-requires-clause-groups
are_closed_begun-requires-clause-groups c = groups_there c.args.script.now c.args.report.now c.as_slice-parents.result.now (c.as_slice-parents.ensures.value ∙ c.requires.replayed.parents) (c.are_places_there.ensures.0 c.if-not-are_places_there.false)

pub returns-then-not-are_places_there : goal.returns-then-not-are_places_there
returns-then-not-are_places_there c = refused (AreJournalsLawful c.args.script.now c.args.report.now) (ArePlacesThere c.args.script.now c.args.report.now) (λ law. law.there) c.are_places_there.result c.if-not-are_places_there.true c.are_places_there.ensures

pub returns-then-not-are_places_once : goal.returns-then-not-are_places_once
returns-then-not-are_places_once c = refused (AreJournalsLawful c.args.script.now c.args.report.now) (ArePlacesOnce c.args.report.now) (λ law. law.once) c.are_places_once.result c.if-not-are_places_once.true c.are_places_once.ensures

pub returns-then-not-standing : goal.returns-then-not-standing
returns-then-not-standing c = refused (AreJournalsLawful c.args.script.now c.args.report.now) ((place : Place) → IsPlaceStanding c.as_slice-parents.result.now c.args.report.now place)
    (λ law. subst (λ (ps : List ℕ). (place : Place) → IsPlaceStanding ps c.args.report.now place) (sym (c.as_slice-parents.ensures.value ∙ c.requires.replayed.parents)) (stands_from c.args.script.now c.args.report.now law))
    c.in_ok-standing.standing c.if-not-standing.true c.in_ok-standing.ensures

pub returns-then-not-are_outcomes_so : goal.returns-then-not-are_outcomes_so
returns-then-not-are_outcomes_so c = refused (AreJournalsLawful c.args.script.now c.args.report.now) (AreOutcomesSo c.args.case.now.parents.items c.args.report.now)
    (λ law. subst (λ (ps : List ℕ). AreOutcomesSo ps c.args.report.now) (sym c.requires.replayed.parents) (λ place. (law.legal place).outcomes))
    c.are_outcomes_so.result c.if-not-are_outcomes_so.true c.are_outcomes_so.ensures

pub returns-then-not-are_journals_paired : goal.returns-then-not-are_journals_paired
returns-then-not-are_journals_paired c = refused (AreJournalsLawful c.args.script.now c.args.report.now) (IsPaired c.as_slice-parents.result.now (journals_of c.args.report.now))
    (λ law. subst (λ (ps : List ℕ). IsPaired ps (journals_of c.args.report.now)) (sym (c.as_slice-parents.ensures.value ∙ c.requires.replayed.parents)) law.paired)
    c.are_journals_paired.result c.if-not-are_journals_paired.true c.are_journals_paired.ensures

pub returns-then-not-are_items_left : goal.returns-then-not-are_items_left
returns-then-not-are_items_left c = refused (AreJournalsLawful c.args.script.now c.args.report.now) (AreItemsLeft c.args.case.now.parents.items c.args.report.now)
    (λ law. subst (λ (ps : List ℕ). AreItemsLeft ps c.args.report.now) (sym c.requires.replayed.parents) law.items)
    c.are_items_left.result c.if-not-are_items_left.true c.are_items_left.ensures

pub returns-then-not-begun : goal.returns-then-not-begun
returns-then-not-begun c = refused (AreJournalsLawful c.args.script.now c.args.report.now) (AreBegunIfClosed c.as_slice-parents.result.now c.args.report.now)
    (λ law. subst (λ (ps : List ℕ). AreBegunIfClosed ps c.args.report.now) (sym (c.as_slice-parents.ensures.value ∙ c.requires.replayed.parents)) law.begun)
    c.in_ok-begun.begun c.if-not-begun.true c.in_ok-begun.ensures

pub returns : goal.returns
returns c =
    let parents = c.as_slice-parents.ensures.value ∙ c.requires.replayed.parents in
    law_of c.args.script.now c.args.report.now (record {
      there = c.are_places_there.ensures.0 c.if-not-are_places_there.false;
      once = c.are_places_once.ensures.0 c.if-not-are_places_once.false;
      stands = subst (λ (ps : List ℕ). (place : Place) → IsPlaceStanding ps c.args.report.now place) parents (c.in_ok-standing.ensures.0 c.if-not-standing.false);
      outcomes = subst (λ (ps : List ℕ). AreOutcomesSo ps c.args.report.now) c.requires.replayed.parents (c.are_outcomes_so.ensures.0 c.if-not-are_outcomes_so.false);
      paired = subst (λ (ps : List ℕ). IsPaired ps (journals_of c.args.report.now)) parents (c.are_journals_paired.ensures.0 c.if-not-are_journals_paired.false);
      items = subst (λ (ps : List ℕ). AreItemsLeft ps c.args.report.now) c.requires.replayed.parents (c.are_items_left.ensures.0 c.if-not-are_items_left.false);
      begun = subst (λ (ps : List ℕ). AreBegunIfClosed ps c.args.report.now) parents (c.in_ok-begun.ensures.0 c.if-not-begun.false);
    }) c.are_done_closed-done.result c.are_done_closed-done.ensures
