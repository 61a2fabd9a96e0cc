-- SPDX-License-Identifier: GPL-2.0-only
use Rattle.shr_report.proofs.Common.{[], ◌∷◌, ◌++◌, codes, prints_both, line, numeral, numbered, numbered_group_line, numbered_cache_line, units_name_line}
use Rattle.shr_report.proofs.text.head.Goals as goal

pub returns : goal.returns
returns g c =
    let r = c.args.report.now in
    let old = c.args.out.now in
    let first = line (codes "report") (numeral r.version ∷ []) in
    let sizes = line (codes "size") (numeral r.nodes ∷ numeral r.ids ∷ []) in
    let groups = numbered numbered_group_line 0 r.groups.items in
    let two = prints_both _ _ old c.put_line.new.out c.put_line-2.new.out first sizes c.put_line.ensures c.put_line-2.ensures in
    let three = prints_both _ _ old c.put_line-2.new.out c.names.new.out (first ++ sizes) groups two (rw c.as_slice.ensures at c.names.ensures) in
    let caches = numbered numbered_cache_line 0 r.caches.items in
    let four = prints_both _ _ old c.names.new.out c.names-2.new.out (first ++ sizes ++ groups) caches three (rw c.as_slice-2.ensures at c.names-2.ensures) in
    prints_both _ _ old c.names-2.new.out c.names-3.new.out (first ++ sizes ++ groups ++ caches) (numbered units_name_line 0 r.pools.items) four (rw c.as_slice-3.ensures at c.names-3.ensures)
