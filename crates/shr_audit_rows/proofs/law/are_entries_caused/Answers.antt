-- SPDX-License-Identifier: GPL-2.0-only
use Rattle.shr_audit_rows.proofs.Common.{fails, AreEntriesCaused}
use Rattle.shr_audit_reasons.specs.Registrations.{AreRegistrationsCaused}
use Rattle.shr_audit_reasons.specs.Trees.{AreBeginsCaused, AreDonesCaused, AreMadesCaused}
use Rattle.shr_audit_rows.proofs.law.are_entries_caused.Goals as goal

pub returns-then-not-branch : goal.returns-then-not-branch
returns-then-not-branch c = let s = c.args.script.now in let r = c.args.report.now in
    fails (AreBeginsCaused s r) (AreEntriesCaused s r) c.in_ok-are_begins_caused.field-0 c.in_ok-are_begins_caused.ensures c.if-not-branch.true (λ h. h.begins)

pub returns-then-not-branch-2 : goal.returns-then-not-branch-2
returns-then-not-branch-2 c = let s = c.args.script.now in let r = c.args.report.now in
    fails (AreDonesCaused r) (AreEntriesCaused s r) c.in_ok-are_dones_caused.field-0 c.in_ok-are_dones_caused.ensures c.if-not-branch-2.true (λ h. h.dones)

pub returns-then-not-branch-3 : goal.returns-then-not-branch-3
returns-then-not-branch-3 c = let s = c.args.script.now in let r = c.args.report.now in
    fails (AreMadesCaused r) (AreEntriesCaused s r) c.in_ok-are_mades_caused.field-0 c.in_ok-are_mades_caused.ensures c.if-not-branch-3.true (λ h. h.mades)

pub returns-then-not-branch-4 : goal.returns-then-not-branch-4
returns-then-not-branch-4 c = let s = c.args.script.now in let r = c.args.report.now in
    fails (AreRegistrationsCaused s r) (AreEntriesCaused s r) c.in_ok-are_registrations_caused.field-0 c.in_ok-are_registrations_caused.ensures c.if-not-branch-4.true (λ h. h.pool)

pub returns : goal.returns
returns c = let d = c.are_drains_caused-drained.ensures in (
  λ t. record {
    begins = c.in_ok-are_begins_caused.ensures.0 c.if-not-branch.false;
    dones = c.in_ok-are_dones_caused.ensures.0 c.if-not-branch-2.false;
    mades = c.in_ok-are_mades_caused.ensures.0 c.if-not-branch-3.false;
    pool = c.in_ok-are_registrations_caused.ensures.0 c.if-not-branch-4.false;
    drained = d.0 t;
  },
  λ h. d.1 h.drained,
)
