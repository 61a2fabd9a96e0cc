-- SPDX-License-Identifier: GPL-2.0-only
use Rattle.shr_list.proofs.Common.{◌≡◌, List, [], length, refl, ap, arith, rules, Object, Scanned, length_scan, visits_within, scan_parts}
use Rattle.shr_list.specs.Answers.{scan_entry}
use Rattle.shr_list.proofs.Keeping.{kept_taken}
use Rattle.shr_list.proofs.list.List.scan.Goals as goal

pub overflow_sub-left : goal.overflow_sub-left
overflow_sub-left c =
    let adds_up = length_scan c.args.policy c.args.asked c.self.inside.contents.objects.items in
    omega (arith, c.count_freed.ensures, c.len.ensures)

pub returns-then-entry-self-clause-answer : goal.returns-then-entry-self-clause-answer
returns-then-entry-self-clause-answer c =
    let adds_up = length_scan c.args.policy c.args.asked c.args.self.now.items in
    search rules

pub returns-then-is_err-clause-answer : goal.returns-then-is_err-clause-answer
returns-then-is_err-clause-answer c =
    let adds_up = length_scan c.args.policy c.args.asked c.args.self.now.items in
    search rules

pub returns-in_default-clause-answer : goal.returns-in_default-clause-answer
returns-in_default-clause-answer c =
    let adds_up = length_scan c.args.policy c.args.asked c.args.self.now.items in
    search rules

pub overflow_cast-len : goal.overflow_cast-len
overflow_cast-len c =
    let adds_up = length_scan c.args.policy c.args.asked c.self.inside.contents.objects.items in
    let freed = ap (λ (s : Scanned). s.freed) c.in-Ok.ensures.scanned in
    let same = ap (λ (f : List Object). length f) freed in
    search rules

pub invariant_of-self-2 : goal.invariant_of-self-2
invariant_of-self-2 c =
    let told = c.in-Ok.ensures.scanned in
    let left = ap (λ (s : Scanned). s.items) told in
    let freed = ap (λ (s : Scanned). s.freed) told in
    let met = ap (λ (s : Scanned). s.visits) told in
    let stopped = ap (λ (s : Scanned). s.stopped) told in
    let adds_up = length_scan c.args.policy c.args.asked c.args.self.now.items in
    kept_taken _ _ _ _ (scan_entry c.args.self.now c.args.worker c.args.walk c.args.policy c.args.asked) c.self.invariant (search rules) (search rules) (search rules) (search rules) refl refl

pub returns-clause-answer : goal.returns-clause-answer
returns-clause-answer c =
    let told = c.in-Ok.ensures.scanned in
    let left = ap (λ (s : Scanned). s.items) told in
    let freed = ap (λ (s : Scanned). s.freed) told in
    let met = ap (λ (s : Scanned). s.visits) told in
    let stopped = ap (λ (s : Scanned). s.stopped) told in
    let adds_up = length_scan c.args.policy c.args.asked c.args.self.now.items in
    search rules

pub returns-clause-budget : goal.returns-clause-budget
returns-clause-budget c =
    let met = ap (λ (s : Scanned). s.visits) c.in-Ok.ensures.scanned in
    omega (arith, met, visits_within c.args.policy c.args.asked [] c.reserve.new.self.objects.items)

pub returns-clause-parted : goal.returns-clause-parted
returns-clause-parted c =
    let told = c.in-Ok.ensures.scanned in
    let before : c.args.self.now.items ≡ c.reserve.new.self.objects.items = search rules in
    let after : c.log.new.self.objects.items ≡ c.scan.new.self.objects.items = search rules in
    rw (before, after) (rw told at (scan_parts c.args.policy c.args.asked [] c.reserve.new.self.objects.items))
