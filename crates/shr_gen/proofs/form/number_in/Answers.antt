-- SPDX-License-Identifier: GPL-2.0-only
use Rattle.shr_gen.proofs.FormsCommon.{◌∙◌, bytes_eq-Decides}
use Rattle.shr_gen.proofs.Reading.{unread, spelled_otherwise}
use Rattle.shr_gen.proofs.form.number_in.Goals as goal

pub returns-in_default : goal.returns-in_default
returns-in_default c = unread c.args.word.now c.parse.result c.in_default.field-0 c.parse.ensures.value.0 c.in_default.is

pub returns-else-eq : goal.returns-else-eq
returns-else-eq c = spelled_otherwise c.args.word.now c.parse.result c.in-Ok.number c.parse.ensures.value.0 c.in-Ok.is
    (λ same. let equal = (bytes_eq-Decides c.format.result.now c.args.word.now).1 (c.format.ensures.text ∙ same) in let no = c.if-eq.false in let is = c.eq.ensures in cc)
