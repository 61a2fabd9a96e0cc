-- SPDX-License-Identifier: GPL-2.0-only
use Rattle.std.proofs.Common.{◌≡◌, ◌+◌, ◌*◌, get_or, sym, ◌∙◌, arith}
use Rattle.shr_report.specs.ReadWords.{digit_of}
use Rattle.shr_audit_text.proofs.Onto.{hex_all, hex_more, hex_none, too_great_hex}
use Rattle.shr_audit_text.proofs.words.hexadecimal.Goals as goal

pub loop-b-init : goal.loop-b-init
loop-b-init c = hex_all c.args.word.now

pub returns-in_default-clause-none : goal.returns-in_default-clause-none
returns-in_default-clause-none c = let big = c.in_default.ensures in
    too_great_hex c.args.word.now c.loop-b.b-index c.loop-b.n c.loop-b-test.true c.loop-b.invariant (omega (arith, big))

pub returns-in_default-checked_add-clause-none : goal.returns-in_default-checked_add-clause-none
returns-in_default-checked_add-clause-none c = let big = c.in_default-checked_add.ensures in let sixteens = c.in-Some.ensures in let low = c.digit.ensures in
    too_great_hex c.args.word.now c.loop-b.b-index c.loop-b.n c.loop-b-test.true c.loop-b.invariant (omega (arith, big, sixteens, low))

pub loop-b-preserved : goal.loop-b-preserved
loop-b-preserved c = let more = c.in-Some-checked_add.ensures in let sixteens = c.in-Some.ensures in let low = c.digit.ensures in
    let same : c.in-Some-checked_add.more ≡ c.loop-b.n * 16 + digit_of (get_or c.args.word.now c.loop-b.b-index 0) = omega (arith, more, sixteens, low) in
    rw same (sym (hex_more c.args.word.now c.loop-b.b-index c.loop-b.n c.loop-b-test.true)) ∙ c.loop-b.invariant

pub returns-clause-some : goal.returns-clause-some
returns-clause-some c = sym (hex_none c.args.word.now c.loop-b.b-index c.loop-b.n c.loop-b-test.false) ∙ c.loop-b.invariant
