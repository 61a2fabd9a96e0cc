-- SPDX-License-Identifier: GPL-2.0-only
use Rattle.shr_gen.proofs.FormsCommon.{codes, found_of}
use Rattle.shr_gen.proofs.Matching.{given_is, given_not}
use Rattle.shr_gen.proofs.form.generated_form.Goals as goal

pub returns-in_err-seed : goal.returns-in_err-seed
returns-in_err-seed c = λ s w k first second third. absurd (given_not (found_of c.args.given.now) (codes "seed") c.get_str.result s c.get_str.ensures first c.in_err-seed.was)

pub returns-in_err-workers : goal.returns-in_err-workers
returns-in_err-workers c = λ s w k first second third. absurd (given_not (found_of c.args.given.now) (codes "workers") c.get_str-2.result w c.get_str-2.ensures second c.in_err-workers.was)

pub returns-in_err-commands : goal.returns-in_err-commands
returns-in_err-commands c = λ s w k first second third. absurd (given_not (found_of c.args.given.now) (codes "commands") c.get_str-3.result k c.get_str-3.ensures third c.in_err-commands.was)

pub returns : goal.returns
returns c = λ s w k first second third.
    let found = found_of c.args.given.now in
    let one = given_is found (codes "seed") c.get_str.result s c.get_str.ensures first c.in_ok-seed.seed c.in_ok-seed.was in
    let two = given_is found (codes "workers") c.get_str-2.result w c.get_str-2.ensures second c.in_ok-workers.workers c.in_ok-workers.was in
    let three = given_is found (codes "commands") c.get_str-3.result k c.get_str-3.ensures third c.in_ok-commands.commands c.in_ok-commands.was in
    rw (one, two, three) at c.gen_form.ensures
