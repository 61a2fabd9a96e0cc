-- SPDX-License-Identifier: GPL-2.0-only
use Rattle.shr_audit_rows.proofs.Common.{fails, AreWalksCaused, EachAttempt, EachWalk}
use Rattle.shr_audit_reasons.specs.Walks.{CitesBegin, IsWornRightly}
use Rattle.shr_audit_reasons.specs.Passes.{ArePassesCaused}
use Rattle.shr_audit_rows.proofs.law.are_walks_caused.Goals as goal

pub returns-then-not-walks_begin : goal.returns-then-not-walks_begin
returns-then-not-walks_begin c = let s = c.args.script.now in let r = c.args.report.now in
    fails (EachWalk r (λ worker n w. CitesBegin r w)) (AreWalksCaused s r) c.walks_begin.result c.walks_begin.ensures c.if-not-walks_begin.true (λ h. h.walks)

pub returns-then-not-are_attempts_caused : goal.returns-then-not-are_attempts_caused
returns-then-not-are_attempts_caused c = let s = c.args.script.now in let r = c.args.report.now in
    fails (EachWalk r (λ worker n w. EachAttempt w (λ a. IsWornRightly s r worker a))) (AreWalksCaused s r) c.are_attempts_caused.result c.are_attempts_caused.ensures c.if-not-are_attempts_caused.true (λ h. h.attempts)

pub returns-then-not-are_passes_caused : goal.returns-then-not-are_passes_caused
returns-then-not-are_passes_caused c = let s = c.args.script.now in let r = c.args.report.now in
    fails (ArePassesCaused s r) (AreWalksCaused s r) c.are_passes_caused.result c.are_passes_caused.ensures c.if-not-are_passes_caused.true (λ h. h.passes)

pub returns : goal.returns
returns c = let d = c.are_tries_caused-plain.ensures in (
  λ t. record {
    walks = c.walks_begin.ensures.0 c.if-not-walks_begin.false;
    attempts = c.are_attempts_caused.ensures.0 c.if-not-are_attempts_caused.false;
    passes = c.are_passes_caused.ensures.0 c.if-not-are_passes_caused.false;
    plain = d.0 t;
  },
  λ h. d.1 h.plain,
)
