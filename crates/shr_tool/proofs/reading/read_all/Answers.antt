-- SPDX-License-Identifier: GPL-2.0-only
use Rattle.std.proofs.Common.{◌++◌, length-append, take, length-take, arith}
use Rattle.shr_tool.proofs.Known.{consumes_kept, consumes_more}
use Rattle.shr_tool.proofs.reading.read_all.Goals as goal

pub returns-in-End-clause-input : goal.returns-in-End-clause-input
returns-in-End-clause-input g c =
    let end = c.take.ensures.ended c.in-End.is in
    record {
      taken = consumes_kept _ _ _ _ c.taking.invariant.taken end.0;
      end = end.1;
      within = c.taking.invariant.within;
    }

pub returns-then-n-limit-clause-input : goal.returns-then-n-limit-clause-input
returns-then-n-limit-clause-input g c =
    let count = c.take.ensures.count c.in-Got.n c.in-Got.is in
    let piece = take c.in-Got.n c.take.new.into in
    record {
      bytes = c.taking.bytes.items ++ piece;
      taken = consumes_more _ _ _ _ _ c.taking.invariant.taken (c.take.ensures.got c.in-Got.n c.in-Got.is);
      above = omega (arith, length-append c.taking.bytes.items piece, length-take c.in-Got.n c.take.new.into, count.1, c.len.ensures, c.if-n-limit.true);
    }

pub returns-then-is_err-clause-input : goal.returns-then-is_err-clause-input
returns-then-is_err-clause-input g c =
    let count = c.take.ensures.count c.in-Got.n c.in-Got.is in
    let piece = take c.in-Got.n c.take.new.into in
    record {
      bytes = c.taking.bytes.items ++ piece;
      taken = consumes_more _ _ _ _ _ c.taking.invariant.taken (c.take.ensures.got c.in-Got.n c.in-Got.is);
      within = omega (arith, length-append c.taking.bytes.items piece, length-take c.in-Got.n c.take.new.into, count.1, c.len.ensures, c.if-n-limit.false);
    }
