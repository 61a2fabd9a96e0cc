-- SPDX-License-Identifier: GPL-2.0-only
use Rattle.std.proofs.Common.{sym, ap, ◌∙◌}
use Rattle.std.specs.Prelude.{option_copied}
use Rattle.std.proofs.lemmas.Bool.Decides.{Decides-ltb}
use Rattle.shr_audit_walks.proofs.Citing.{above_none, above_some, fits_so}
use Rattle.shr_audit_walks.proofs.cited.is_above_highest.Goals as goal

pub returns-in-None : goal.returns-in-None
returns-in-None c = above_none c.args.cited.now c.args.place c.args.version c.place_key-key.result c.place_key-key.ensures.key (fits_so c.args.place c.place_key-key.ensures.group c.place_key-key.ensures.id)
    (sym c.get.ensures.value ∙ ap option_copied c.in-None.is)

pub returns-in-Some : goal.returns-in-Some
returns-in-Some c = above_some c.args.cited.now c.args.place c.args.version c.place_key-key.result c.place_key-key.ensures.key (fits_so c.args.place c.place_key-key.ensures.group c.place_key-key.ensures.id)
    c.in-Some.highest.now _ (sym c.get.ensures.value ∙ ap option_copied c.in-Some.is) (Decides-ltb c.in-Some.highest.now c.args.version)
