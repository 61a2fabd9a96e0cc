-- SPDX-License-Identifier: GPL-2.0-only
use Rattle.shr_audit_walks.proofs.LaterCommon.{◌∙◌, ap, nat_eq, contains}
use Rattle.shr_audit_walks.proofs.Citing.{fits_so}
use Rattle.shr_audit_walks.proofs.cleared.was_cleared.Goals as goal

pub returns : goal.returns
returns c = c.contains.ensures ∙ (ap (contains nat_eq c.args.cleared.now) c.place_key-key.ensures.key ∙ c.requires c.args.place (fits_so c.args.place c.place_key-key.ensures.group c.place_key-key.ensures.id))
