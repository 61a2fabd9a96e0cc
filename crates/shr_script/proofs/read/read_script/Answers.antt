-- SPDX-License-Identifier: GPL-2.0-only
use Rattle.shr_script.proofs.ReadLaws.{is_read, only_read, only_failed, is_cause, told_read, told_failed}
use Rattle.shr_script.proofs.GrowthLaws.{short_script}
use Rattle.shr_script.proofs.read.read_script.Goals as goal

pub returns-in-Ok-clause-found : goal.returns-in-Ok-clause-found
returns-in-Ok-clause-found c = is_read c.args.bytes.now c.in-Ok.said c.in-Ok.draft c.in-Ok.ensures

pub returns-in-Ok-clause-only : goal.returns-in-Ok-clause-only
returns-in-Ok-clause-only c = only_read c.args.bytes.now c.in-Ok.said c.in-Ok.draft c.in-Ok.ensures

pub returns-in-Ok-clause-told : goal.returns-in-Ok-clause-told
returns-in-Ok-clause-told c = told_read c.args.bytes.now c.in-Ok.said c.in-Ok.draft c.in-Ok.ensures

pub returns-in-Ok-clause-short : goal.returns-in-Ok-clause-short
returns-in-Ok-clause-short c = short_script _ (is_read c.args.bytes.now c.in-Ok.said c.in-Ok.draft c.in-Ok.ensures).valid.lines

pub returns-in-Err-clause-only : goal.returns-in-Err-clause-only
returns-in-Err-clause-only c = only_failed c.args.bytes.now c.in-Err.e c.in-Err.ensures

pub returns-in-Err-clause-fault : goal.returns-in-Err-clause-fault
returns-in-Err-clause-fault c = is_cause c.args.bytes.now c.in-Err.e c.in-Err.ensures

pub returns-in-Err-clause-told : goal.returns-in-Err-clause-told
returns-in-Err-clause-told c = told_failed c.args.bytes.now c.in-Err.e c.in-Err.ensures
