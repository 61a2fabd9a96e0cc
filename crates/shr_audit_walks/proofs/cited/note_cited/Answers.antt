-- SPDX-License-Identifier: GPL-2.0-only
use Rattle.shr_audit_walks.proofs.Citing.{fits_so, kept_so, put_so}
use Rattle.shr_audit_walks.proofs.cited.note_cited.Goals as goal

pub returns-then-not-is_above_highest : goal.returns-then-not-is_above_highest
returns-then-not-is_above_highest c = kept_so c.args.cited.now c.args.cited.now c.args.at c.is_above_highest.result (fits_so c.args.at.place c.place_key-key.ensures.group c.place_key-key.ensures.id) c.is_above_highest.ensures c.if-not-is_above_highest.true

pub returns : goal.returns
returns c = put_so c.args.cited.now c.insert.new.self c.args.at c.is_above_highest.result (fits_so c.args.at.place c.place_key-key.ensures.group c.place_key-key.ensures.id) c.is_above_highest.ensures
    c.place_key-key.result c.place_key-key.ensures.key c.if-not-is_above_highest.false c.in_ok-insert.ensures.updates.0
