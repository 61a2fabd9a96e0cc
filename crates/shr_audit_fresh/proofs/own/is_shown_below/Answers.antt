-- SPDX-License-Identifier: GPL-2.0-only
use Rattle.shr_audit_fresh.proofs.Common.{ℕ, ◌<◌, ◌≤◌, List, length, get_or, subst, ◌∙◌, arith, Decides, get_or_default, Answered, Report, of_answer, shown_by, tree_cited, tree_seen, serial_of, walks_of, FloorWith, IsHigher, Reaches, walks_cite}
use Rattle.shr_audit_fresh.proofs.Answering.{of_past}
use Rattle.shr_audit_fresh.proofs.FloorLaws.{floor_next, floor_start, known_all, known_fails, known_more, known_none, reaches_below, shown_floor}
use Rattle.shr_audit_fresh.proofs.own.is_shown_below.Goals as goal

abbrev known : Report → ℕ → ℕ → List ℕ
known r worker k = shown_by r (serial_of worker k)

abbrev seen : Report → ℕ → ℕ → List ℕ
seen r worker k = of_answer r (serial_of worker k) tree_seen

pub loop-number-init : goal.loop-number-init
loop-number-init c = record {
  floor = floor_start (known c.args.report.now c.args.worker);
  below = known_none (known c.args.report.now c.args.worker) (seen c.args.report.now c.args.worker);
}

pub loop-number-preserved : goal.loop-number-preserved
loop-number-preserved c =
    let r = c.args.report.now in
    let w = c.args.worker in
    let k = c.loop-number.number in
    let cited = c.floor_with-cited.result in
    let floors = c.in_ok-floors.floors.items in
    let count = c.in_ok-floors.ensures.0 in
    let lt = c.loop-number-test.true in
    let there : k < length floors = omega (arith, count, lt) in
    let reached : Decides c.reaches.result (Reaches c.loop-number.floor (seen r w k)) = subst (λ (ns : List ℕ). Decides c.reaches.result (Reaches c.loop-number.floor ns)) c.tree_seen.ensures c.reaches.ensures in
    record {
      floor = floor_next (known r w) k c.loop-number.floor c.higher-floor.result c.loop-number.invariant.floor
          (shown_floor c.loop-number.floor cited (get_or floors k 0) c.higher-floor.result (of_answer r (serial_of w k) (λ (a : Answered). tree_cited a.reply)) (walks_cite w (walks_of r w) k)
          (subst (λ (ns : List ℕ). FloorWith c.loop-number.floor ns cited) c.cited_by.ensures c.floor_with-cited.ensures)
          (c.in_ok-floors.ensures.1 k there)
          (subst (λ (n : ℕ). IsHigher cited n c.higher-floor.result) (c.index.ensures ∙ get_or_default floors k c.index.result.now 0 there) c.higher-floor.ensures));
      below = known_more (known r w) (seen r w) k c.loop-number.invariant.below
          (reaches_below (known r w) k c.loop-number.floor (seen r w k) c.loop-number.invariant.floor (reached.0 c.if-not-reaches.false));
    }

pub returns-then-not-reaches : goal.returns-then-not-reaches
returns-then-not-reaches c = known_fails (known c.args.report.now c.args.worker) (seen c.args.report.now c.args.worker) c.loop-number.number c.loop-number.floor c.reaches.result
    c.loop-number.invariant.floor (subst (λ (ns : List ℕ). Decides c.reaches.result (Reaches c.loop-number.floor ns)) c.tree_seen.ensures c.reaches.ensures) c.if-not-reaches.true

pub returns : goal.returns
returns c =
    let r = c.args.report.now in
    let w = c.args.worker in
    known_all (known r w) (seen r w) c.count_answers-count.result c.loop-number.number c.loop-number-test.false
    (λ later over. of_past r w later tree_seen (subst (λ (n : ℕ). n ≤ later) c.count_answers-count.ensures over)) c.loop-number.invariant.below
