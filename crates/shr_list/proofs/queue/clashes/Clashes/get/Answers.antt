-- SPDX-License-Identifier: GPL-2.0-only
use Rattle.shr_list.proofs.Common.{◌≡◌, None, length, refl, rules, second_of, second_at}
use Rattle.shr_list.proofs.Indexes.{lookup_none}
use Rattle.shr_list.proofs.queue.clashes.Clashes.get.Goals as goal

pub returns-then-is_empty : goal.returns-then-is_empty
returns-then-is_empty c =
    let empty : length c.args.self.now.seconds.entries ≡ 0 = search rules in
    let none : second_at c.args.self.now (second_of c.args.birth c.args.key.now) ≡ None = lookup_none _ c.args.self.now.seconds.entries empty in
    rw none refl
