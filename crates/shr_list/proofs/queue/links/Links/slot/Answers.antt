-- SPDX-License-Identifier: GPL-2.0-only
use Rattle.shr_list.proofs.Common.{◌≡◌, ◌+◌, ◌∙◌, Some, None, sym, arith, refl, slice_get, keys_of}
use Rattle.shr_list.proofs.Walks.{here, is_at}
use Rattle.shr_list.proofs.Slots.{key_got, key_left}
use Rattle.shr_list.proofs.queue.links.Links.slot.Goals as goal

pub prev-requires : goal.prev-requires
prev-requires c = is_at c.args.self.now.nodes c.args.i c.in-Some.key (here c.args.self.now.nodes c.args.i c.in-Some.key c.in-Some.ensures.key)

pub next-requires : goal.next-requires
next-requires c = is_at c.args.self.now.nodes c.args.i c.in-Some.key (here c.args.self.now.nodes c.args.i c.in-Some.key c.in-Some.ensures.key)

pub returns-in-None : goal.returns-in-None
returns-in-None c =
    let none : slice_get (keys_of c.args.self.now.nodes) c.args.i ≡ None = sym (key_got c.args.self.now.nodes c.args.i) ∙ sym c.in-None.ensures.key in
    record { slot = rw none refl; apart = c.in-None.ensures.apart }

pub returns-in-Some : goal.returns-in-Some
returns-in-Some c =
    let nodes = c.args.self.now.nodes in
    let i = c.args.i in
    let now = here nodes i c.in-Some.key c.in-Some.ensures.key in
    let some : slice_get (keys_of nodes) i ≡ Some c.in-Some.key = sym (key_got nodes i) ∙ sym c.in-Some.ensures.key in
    let prev = c.prev.ensures _ now.object _ now.split ∙ key_left nodes i (omega (arith, now.within)) in
    let next = c.next.ensures _ now.object _ now.split ∙ key_got nodes (i + 1) in
    record { slot = rw (some, prev, next) refl; apart = c.in-Some.ensures.apart }
