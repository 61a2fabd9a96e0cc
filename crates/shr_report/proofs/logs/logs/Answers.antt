-- SPDX-License-Identifier: GPL-2.0-only
use Rattle.shr_report.proofs.Common.{◌≡◌, ◌+◌, ◌-◌, ◌++◌, drop, flat_map, arith, take_rest, take_while, prefix_len, prints_both, numbered, IsWalkNumbered, IsCarryNumbered, IsPlainNumbered, IsIsolationNumbered, logs_from, walk_lines, carry_line, plain_lines, isolation_line, is_walk_of, is_carry_of, is_plain_of, is_isolation_of}
use Rattle.shr_report.proofs.Ranges.{each_joined}
use Rattle.shr_report.proofs.logs.logs.Goals as goal

pub returns-clause-printed : goal.returns-clause-printed
returns-clause-printed g c =
    let part = c.args.part.now in
    let at = c.args.at in
    let command = c.args.command in
    let l = logs_from part at in
    let old = c.args.out.now in
    let isolations_width : at.isolations + c.count_isolations.result - at.isolations ≡ c.count_isolations.result = omega arith in
    let isolations_count : c.count_isolations.result ≡ prefix_len (is_isolation_of command) (drop at.isolations part.isolations.items) = rw (c.as_slice-all_isolations.ensures, take_rest) at c.count_isolations.ensures.count in
    let isolations = rw (isolations_width, c.as_slice-all_isolations.ensures, isolations_count) at c.isolations.ensures.printed in
    let walks_width : at.walks + c.count_walks.result - at.walks ≡ c.count_walks.result = omega arith in
    let walks_count : c.count_walks.result ≡ prefix_len (is_walk_of command) (drop at.walks part.walks.items) = rw (c.as_slice-all_walks.ensures, take_rest) at c.count_walks.ensures.count in
    let walks = rw (walks_width, c.as_slice-all_walks.ensures, walks_count) at c.walks.ensures.printed in
    let carries_width : at.carries + c.count_carries.result - at.carries ≡ c.count_carries.result = omega arith in
    let carries_count : c.count_carries.result ≡ prefix_len (is_carry_of command) (drop at.carries part.carries.items) = rw (c.as_slice-all_carries.ensures, take_rest) at c.count_carries.ensures.count in
    let carries = rw (carries_width, c.as_slice-all_carries.ensures, carries_count) at c.carries.ensures.printed in
    let plain_width : at.plain + c.count_plain.result - at.plain ≡ c.count_plain.result = omega arith in
    let plain_count : c.count_plain.result ≡ prefix_len (is_plain_of command) (drop at.plain part.plain.items) = rw (c.as_slice-all_plain.ensures, take_rest) at c.count_plain.ensures.count in
    let plain = rw (plain_width, c.as_slice-all_plain.ensures, plain_count) at c.plain.ensures.printed in
    let first = flat_map isolation_line (take_while (is_isolation_of command) l.isolations) in
    let second = numbered walk_lines l.walk (take_while (is_walk_of command) l.walks) in
    let third = flat_map carry_line (take_while (is_carry_of command) l.carries) in
    let fourth = numbered plain_lines l.plain_walk (take_while (is_plain_of command) l.plain) in
    let two = prints_both _ _ old c.isolations.new.out c.walks.new.out first second isolations walks in
    let three = prints_both _ _ old c.walks.new.out c.carries.new.out (first ++ second) third two carries in
    prints_both _ _ old c.carries.new.out c.plain.new.out (first ++ second ++ third) fourth three plain

pub returns-clause-numbers : goal.returns-clause-numbers
returns-clause-numbers g c so_far =
    let part = c.args.part.now in
    let at = c.args.at in
    let isolations_width : at.isolations + c.count_isolations.result - at.isolations ≡ c.count_isolations.result = omega arith in
    let walks_width : at.walks + c.count_walks.result - at.walks ≡ c.count_walks.result = omega arith in
    let carries_width : at.carries + c.count_carries.result - at.carries ≡ c.count_carries.result = omega arith in
    let plain_width : at.plain + c.count_plain.result - at.plain ≡ c.count_plain.result = omega arith in
    record {
      isolations = each_joined IsIsolationNumbered part.isolations.items at.isolations c.count_isolations.result so_far.isolations (rw (isolations_width, c.as_slice-all_isolations.ensures) at c.isolations.ensures.numbers);
      walks = each_joined IsWalkNumbered part.walks.items at.walks c.count_walks.result so_far.walks (rw (walks_width, c.as_slice-all_walks.ensures) at c.walks.ensures.numbers);
      carries = each_joined IsCarryNumbered part.carries.items at.carries c.count_carries.result so_far.carries (rw (carries_width, c.as_slice-all_carries.ensures) at c.carries.ensures.numbers);
      plain = each_joined IsPlainNumbered part.plain.items at.plain c.count_plain.result so_far.plain (rw (plain_width, c.as_slice-all_plain.ensures) at c.plain.ensures.numbers);
    }
