-- SPDX-License-Identifier: GPL-2.0-only
use Rattle.std.proofs.Common.{◌++◌}
use Rattle.shr_script.specs.Spelling.{IsSpelling}
use Rattle.shr_script.specs.Content.{content_of}
use Rattle.shr_reading.specs.Parts.{end_text}
use Rattle.shr_reading.proofs.Joins.{some_is, joined_is}
use Rattle.shr_reading.proofs.reading.+runs.Goals as goal

pub returns : goal.returns
returns g t c =
    let head = c.args.head.now.bytes.now in
    let left = c.in-Some.left.now in
    let right = c.in-Some.right.now in
    let tail = c.args.tail.now in
    let a = c.in_ok-first.field-0 in
    let b = c.in_ok-second.field-0 in
    let one : IsSpelling (head ++ (left ++ end_text)) (content_of a) = some_is c.join-first.result.0 a (λ s. IsSpelling (head ++ (left ++ end_text)) (content_of s)) c.in_ok-first.was c.join-first.ensures.first in
    let two : IsSpelling (head ++ (right ++ tail)) (content_of b) = some_is c.join-first.result.1 b (λ s. IsSpelling (head ++ (right ++ tail)) (content_of s)) c.in_ok-second.was c.join-first.ensures.second in
    joined_is head c.args.run.now left right tail (content_of c.args.head.now.script) (content_of a) (content_of b) c.joined.result c.requires c.in-Some.ensures one two c.joined.ensures.fit c.joined.ensures.both
